-- Document 01, "Answers by number": what a call that writes makes, and a lent output after it.
use Rattle.std.specs.Prelude.{ℕ, ◌≡◌, List, ◌++◌, cond, leb, length, drop, Result, Ok, Err}
use Rattle.answers.specs.declared.Refusal.{Refusal}
use Rattle.answers.specs.declared.Refusal.TheVariants.{NoRoom}

-- what is to be written, or the refusal
pub data Made : Type 0 where
  octets : List ℕ → Made
  refused_output : Refusal → Made

-- 15: "output shorter than the answer needs"; else the octet count
unfoldable pub written_of : Made → List ℕ → Result ℕ Refusal
written_of (refused_output r) out = Err r
written_of (octets w) out = cond (leb (length w) (length out)) (Ok (length w)) (Err NoRoom)

-- a refusal "changes nothing lent"; "output octets past an answer's end stay unchanged"
unfoldable pub out_after : Made → List ℕ → List ℕ
out_after (refused_output r) out = out
out_after (octets w) out = cond (leb (length w) (length out)) (w ++ drop (length w) out) out

-- a call that was to write this answers so, and leaves its output so
pub record Writes (made : Made) (before : List ℕ) (r : Result ℕ Refusal) (after : List ℕ) : Type 0 where
  pub answer : r ≡ written_of made before
  pub output : after ≡ out_after made before

-- an answer, and with it what was made if it is no refusal
abbrev pub giving : {A : Type 0} → Result Unit Refusal → A → Result A Refusal
giving (Ok u) x = Ok x
giving (Err r) x = Err r
