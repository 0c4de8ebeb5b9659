-- What the place of a refusal says of the octets. Assumes nothing.
use Rattle.std.proofs.Common.{Some}
use Prim.Native.Nat.{ℕ, zero, suc, ◌+◌, ◌-◌, ◌≤◌, ◌<◌}
use mathlib.Core.Path.{◌≡◌, refl, ap, ◌∙◌}
use mathlib.Core.Logic.{◌⊎◌, inl, inr}
use mathlib.Core.List.{List, ◌++◌}
use mathlib.Core.Bool.{Bool, true, false, cond}
use native.Mathlib.Omega.{arith}
use lib.Dec.{leb}
use lib.ListN.{length, take, drop, get_or, length-take, length-append}
use lib.Seq.{take_all, take-take, length-take-le}
use borrow.Author.Tests.{leb-true, leb-false}
use Rattle.octets.proofs.Logic.{apart}
use Rattle.octets.specs.Octets.{same_octets}
use Rattle.answers.specs.Answers.{number_of, place_of}
use Rattle.answers.specs.declared.Refusal.{Refusal}
use Rattle.answers.specs.declared.Refusal.TheVariants.{NoOctet, TableCut, ReservedType, TooManyFrames, BodiesCut, OctetsLeft, WrongOpening}
use Rattle.frame.specs.FrameTable.{FrameTable, Frame, known}
use Rattle.frame.specs.Entry.{type_of}
use Rattle.form.specs.declared.Limits.{Limits}
use Rattle.form.specs.declared.Form.{Form}
use Rattle.form.specs.declared.Form.TheVariants.{Interleaved}
use Rattle.payload.specs.Payload.{total, cut, first_cut, read_as}
use Rattle.entries.specs.Kind.{Kind}
use Rattle.entries.specs.Entries.{frames, refused_entries, allowed, entries_from}
use Rattle.entries.specs.declared.Rule.TheVariants.{Any}
use Rattle.entries.proofs.Faults.{Blames, fault-at}
use Rattle.recording.specs.Recording.{opens_with, recording_read}
use Rattle.payload.proofs.Checks.{length_cut}
use Rattle.payload.proofs.Laying.{cut-size, cut-taken}
use Rattle.payload.proofs.Faulting.{Cuts, Faulted, FirstCut, first-cut, not-later, bodies-fill, bodies-missing, faulted}
use Rattle.payload.proofs.Faulting as fault
use Rattle.claims.specs.Places.{IsRead, NotFurther, PlaceInside, TableIsCut, EntryStands, TypeIsReserved, EntryIsPastMaximum}
use Rattle.claims.specs.Places.{BodyBegins, Completes, BodiesAreCut, OctetsAreLeft, EntryAtFault, RecordingFaults, EntriesFaults}

-- ---- payloads

neither : (n : ℕ) → n ≡ 5 ⊎ n ≡ 6 ⊎ n ≡ 8 → (n ≡ 4 → ⊥) × (n ≡ 7 → ⊥)
neither n (inl e) = (λ h. omega arith, λ h. omega arith)
neither n (inr (inl e)) = (λ h. omega arith, λ h. omega arith)
neither n (inr (inr e)) = (λ h. omega arith, λ h. omega arith)

-- each way to be refused
inside-at : (v : FrameTable) (f : Form) (p : List ℕ) (r : Refusal) (at : ℕ) → Faulted v f p r → place_of r ≡ Some at →
    (at ≤ length p) × (number_of r ≡ 5 ⊎ number_of r ≡ 6 ⊎ number_of r ≡ 8 → at < length p)
inside-at v f p r at (fault.unplaced _ n _) e = apart (cc)
inside-at v f p r at (fault.cut_table i q c) e = let s : i ≡ at = cc in (omega arith, λ o. absurd ((neither 4 o).0 refl))
inside-at v f p r at (fault.reserved i q c k) e = let s : i ≡ at = cc in (omega arith, λ o. omega arith)
inside-at v f p r at (fault.full i q c k) e = let s : i ≡ at = cc in (omega arith, λ o. omega arith)
inside-at v f p r at (fault.cut_bodies i ts behind rest t h q) e =
    let s : i ≡ at = cc in
    (omega (arith, t.octets, (first-cut v behind ts rest h).begins, (first-cut v behind ts rest h).before), λ o. absurd ((neither 7 o).1 refl))
inside-at v f p r at (fault.left_over i ts behind rest t h q) e = let s : i ≡ at = cc in (omega (arith, t.octets), λ o. omega (arith, t.octets))

pub place_inside : PlaceInside
place_inside =
    record {
      at_most = λ v f p r at e q. (inside-at v f p r at (faulted v f p r e) q).0;
      inside = λ v f p r at e q. (inside-at v f p r at (faulted v f p r e) q).1;
    }

module _ (v : FrameTable) (f : Form) (p : List ℕ) where
  -- a payload cut short in its table
  early : (n at k : ℕ) → Cuts v f p n → n ≤ at → k ≤ n → NotFurther v f at (take k p)
  early n at zero c h q = record { refusal = NoOctet; refused = c.none; place = tt }
  early n at (suc k) c h q = record { refusal = TableCut (suc k); refused = c.some (suc k) (omega arith) q; place = omega arith }

  -- an entry at a place
  stands : (at : ℕ) → at < length p → Cuts v f p at → EntryStands v f p at
  stands at h c = (h, c.some at c.any (omega arith))

pub table_is_cut : TableIsCut
unfolding TableIsCut
table_is_cut v f p at e = go (faulted v f p (TableCut at) e)
  where
    shorter : at ≡ length p → Cuts v f p at → (k : ℕ) (b : Bool) → leb k at ≡ b → NotFurther v f at (take k p)
    shorter q c k true h = early v f p at at k c (omega arith) (leb-true k at h)
    shorter q c k false h =
        let g = leb-false k at h in
        rw (take_all k p (omega arith)) (record { refusal = TableCut at; refused = e; place = omega arith })

    go : Faulted v f p (TableCut at) → (at ≡ length p) × ((k : ℕ) → NotFurther v f at (take k p))
    go (fault.unplaced _ n _) = apart (cc)
    go (fault.cut_table _ q c) = (q, λ k. shorter q c k (leb k at) refl)

pub type_is_reserved : TypeIsReserved
unfolding TypeIsReserved
type_is_reserved v f p at e = go (faulted v f p (ReservedType at) e)
  where
    go : Faulted v f p (ReservedType at) → EntryStands v f p at × (known v (type_of (get_or p at 0)) ≡ false)
    go (fault.unplaced _ n _) = apart (cc)
    go (fault.reserved _ q c k) = (stands v f p at q c, k)

pub entry_is_past_maximum : EntryIsPastMaximum
unfolding EntryIsPastMaximum
entry_is_past_maximum v m p at e = go (faulted v (Interleaved m) p (TooManyFrames at) e)
  where
    go : Faulted v (Interleaved m) p (TooManyFrames at) → EntryStands v (Interleaved m) p at × (at ≡ 1 + m.max_b)
    go (fault.unplaced _ n _) = apart (cc)
    go (fault.full _ q c k) = (stands v (Interleaved m) p at q c, k m refl)

-- with as many octets as the bodies lack, whatever they are
completes : (v : FrameTable) (m : Limits) (p : List ℕ) (at : ℕ) → Faulted v (Interleaved m) p (BodiesCut at) → Completes v m p at
completes v m p at (fault.unplaced _ n _) = apart (cc)
completes v m p at (fault.cut_bodies _ ts behind rest t h q) =
    record { missing = total v ts - length rest; some = omega arith; completed = go }
  where
    go : (more : List ℕ) → length more ≡ total v ts - length rest → BodyBegins v m p more at
    go more e =
        let x = first-cut v behind ts rest h in
        let full : length (rest ++ more) ≡ total v ts = omega (arith, length-append rest more) in
        let fs = cut v ts (rest ++ more) in
        let many : length fs ≡ length ts = length_cut v ts (rest ++ more) in
        record {
          l = t.l;
          n = t.n;
          d = t.d;
          fs = fs;
          read = t.longer more ∙ bodies-fill v t.l t.n ts t.d behind (rest ++ more) full;
          k = x.k;
          there = omega (arith, x.there);
          begins = omega (arith, x.begins, t.begins, cut-taken v ts (rest ++ more) x.k (omega arith));
          before = omega (arith, x.begins, x.before, t.octets);
          cut = omega (arith, x.begins, x.cut, t.octets, cut-size v ts (rest ++ more) x.k (omega arith) x.there);
        }

-- with fewer octets: in the table, and behind it
shorter : (v : FrameTable) (f : Form) (p : List ℕ) (at : ℕ) → Faulted v f p (BodiesCut at) → (k : ℕ) → NotFurther v f at (take k p)
shorter v f p at (fault.unplaced _ n _) k = apart (cc)
shorter v f p at (fault.cut_bodies _ ts behind rest t h q) k = go (leb k (length ts)) refl
  where
    x : FirstCut v behind ts rest
    x = first-cut v behind ts rest h

    go : (b : Bool) → leb k (length ts) ≡ b → NotFurther v f at (take k p)
    go true g = early v f p (length ts) at k t.cuts (omega (arith, x.begins, t.begins)) (leb-true k (length ts) g)
    go false g =
        let j : ℕ = k - behind in
        let s : k ≡ behind + j = omega (arith, t.begins, leb-false k (length ts) g) in
        let less : length (take j rest) ≤ length rest = rw length-take (omega arith) in
        record {
          refusal = BodiesCut (first_cut v behind ts (take j rest));
          refused = ap (λ (i : ℕ). read_as v f (take i p)) s ∙ t.fewer j ∙ bodies-missing v t.l t.n ts t.d behind (take j rest) (omega arith);
          place = omega (arith, not-later v behind ts (take j rest) rest less h);
        }

pub bodies_are_cut : BodiesAreCut
bodies_are_cut =
    record {
      completes = λ v m p at e. completes v m p at (faulted v (Interleaved m) p (BodiesCut at) e);
      shorter = λ v f p at e. shorter v f p at (faulted v f p (BodiesCut at) e);
    }

pub octets_are_left : OctetsAreLeft
unfolding OctetsAreLeft
octets_are_left v f p at e = go (faulted v f p (OctetsLeft at) e)
  where
    go : Faulted v f p (OctetsLeft at) → (at < length p) × IsRead v f (take at p)
    go (fault.unplaced _ n _) = apart (cc)
    go (fault.left_over _ ts behind rest t h q) =
        let own = take (total v ts) rest in
        let full : length own ≡ total v ts = length-take-le (total v ts) rest (omega arith) in
        let reads = t.fewer (total v ts) ∙ bodies-fill v t.l t.n ts t.d behind own full in
        (omega (arith, t.octets), (t.l, t.n, t.d, cut v ts own, rw q reads))

-- ---- recordings, and entries given to a writer

blamed : (kind : Kind) (p : List ℕ) (r : Refusal) (at : ℕ) → Blames kind p r at → EntryAtFault kind p r at
blamed kind p r at b = record { number = b.number; inside = b.inside; reserved = b.reserved; cut = b.cut }

pub recording_faults : RecordingFaults
unfolding RecordingFaults recording_read opens_with
recording_faults kind p r at e q = go (opens_with kind p) refl e
  where
    go : (b : Bool) → opens_with kind p ≡ b → cond b (entries_from kind Any (length kind.opening) (drop (length kind.opening) p)) (refused_entries WrongOpening) ≡ refused_entries r →
        EntryAtFault kind p r at × (length kind.opening ≤ at) × ((fs : List Frame) × (recording_read kind (take at p) ≡ frames fs))
    go false o k = apart (cc)
    go true o k =
        let f = fault-at kind (allowed kind.table Any) p (length kind.opening) r at k q in
        let t : opens_with kind (take at p) ≡ true = ap (same_octets kind.opening) (take-take (length kind.opening) at p f.behind) ∙ o in
        (blamed kind p r at f.blames, f.behind, (f.fs, rw t f.before))

pub entries_faults : EntriesFaults
unfolding EntriesFaults
entries_faults kind rule es r at e q =
    let f = fault-at kind (allowed kind.table rule) es 0 r at e q in
    (blamed kind es r at f.blames, (f.fs, f.before))
