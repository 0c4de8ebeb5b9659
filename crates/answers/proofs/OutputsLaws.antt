-- Laws of a lent output. Assumes nothing.
use Rattle.std.proofs.Common.{Result, Ok, Err}
use Prim.Native.Nat.{ℕ, ◌≤◌, ◌<◌}
use mathlib.Core.Path.{◌≡◌, refl, ap, ◌∙◌}
use mathlib.Core.List.{List, ◌++◌}
use native.Mathlib.Nat.{zero-add}
use lib.ListN.{length, drop}
use borrow.Author.Tests.{le-leb, lt-leb}
use Rattle.octets.specs.Octets.{over}
use Rattle.answers.specs.Outputs.{Made, octets, refused_output, written_of, out_after, Writes}
use Rattle.answers.specs.declared.Refusal.{Refusal}
use Rattle.answers.specs.declared.Refusal.TheVariants.{NoRoom}

-- nothing is made, so nothing is written
pub writes-refusal : (m : Made) (out : List ℕ) (r : Refusal) → m ≡ refused_output r → Writes m out (Err r) out
unfolding written_of out_after
writes-refusal m out r e = rw e (record { answer = refl; output = refl })

-- there is no room for what is made
pub writes-no-room : (m : Made) (out w : List ℕ) → m ≡ octets w → length out < length w → Writes m out (Err NoRoom) out
unfolding written_of out_after
writes-no-room m out w e h = rw e (record { answer = rw (lt-leb _ _ h); output = rw (lt-leb _ _ h) })

-- there is room, and it is written over the beginning of the output
pub writes-octets : (m : Made) (out w after : List ℕ) (n : ℕ) → m ≡ octets w → length w ≤ length out → n ≡ length w → after ≡ over out 0 w → Writes m out (Ok n) after
unfolding written_of out_after over
writes-octets m out w after n e h q a =
    rw e (record {
      answer = rw (le-leb _ _ h) (ap Ok q);
      output = rw (le-leb _ _ h) (a ∙ ap (λ (i : ℕ). w ++ drop i out) (zero-add (length w)));
    })

-- what is made is what another call makes
pub writes_as : (m m' : Made) (before : List ℕ) (r : Result ℕ Refusal) (after : List ℕ) → m ≡ m' → Writes m' before r after → Writes m before r after
writes_as m m' before r after e x = rw e x
