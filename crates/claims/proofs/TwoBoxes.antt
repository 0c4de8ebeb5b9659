-- A host of two boxes: a group that is dropped, and what was lost between two. Assumes nothing.
use Rattle.std.proofs.Common.{Result, Ok, Err}
use Prim.Native.Nat.{ℕ}
use mathlib.Core.Bool.{Bool, true, false, cond}
use mathlib.Core.List.{List}
use mathlib.Core.Path.{◌≡◌, refl, sym, ap, ◌∙◌}
use lib.Dec.{eqb, leb}
use lib.ListN.{length}
use Rattle.answers.specs.declared.Refusal.{Refusal}
use Rattle.octets.proofs.Logic.{apart}
use Rattle.frame.specs.Shape.{Shape, Voice}
use Rattle.answers.specs.Outputs.{octets, refused_output, written_of}
use Rattle.answers.specs.declared.Refusal.TheVariants.{AnotherSource, NoRoom, NotApplicable}
use Rattle.entries.specs.Entries.{entries_of}
use Rattle.numbers.specs.Place.{after_poured, decided}
use Rattle.numbers.specs.declared.GroupNumbers.{GroupNumbers}
use Rattle.numbers.specs.declared.Verdict.{Verdict}
use Rattle.numbers.proofs.PlaceLaws.{PouredEnds, poured-ends}
use Rattle.numbers.proofs.PlaceLaws as numbers
use Rattle.holding.specs.Asked.{lost_by, lost_between}
use Rattle.holding.specs.Group.{is_nothing, holds}
use Rattle.holding.proofs.GroupLaws.{sound-has, holds-sound, sound-something, nothing_is}
use Rattle.holding.specs.declared.Holding.{Holding}
use Rattle.pouring.specs.Pouring.{in_time, poured}
use Rattle.session.specs.Session.{Arrival, Dropped, is_open, refuse, accept, poured_before, group_before, begins, placed_by}
use Rattle.session.specs.Session.{placed, arrival, judged, received, offered, pour_made, ended, after_pour, not_dropped, dropped}
use Rattle.session.specs.declared.Session.{Session}
use Rattle.session.proofs.Ends.{open-has, group-has, ended-open}
use Rattle.claims.specs.TwoBoxes.{answer_of, as_poured, Alike, PourAndDropAlike, LostBetweenIsReported}

-- a holding that holds a packet is not that of nothing
not-nothing : (v : Voice) (h : Holding) → holds v h ≡ true → is_nothing v.shape h ≡ false
not-nothing v h e = sound-something v h (sound-has v h (holds-sound v h e).0)

-- ---- pouring and dropping
data Both (v : Voice) (s : Session) : Type 0 where
  done : (w : List ℕ) → pour_made v s ≡ octets w → dropped v s ≡ record { answer = (Ok tt); session = ended v.shape s } → Both v s
  neither : pour_made v s ≡ refused_output NotApplicable → dropped v s ≡ not_dropped s → Both v s

both : (v : Voice) (s : Session) → Both v s
unfolding dropped pour_made poured
both v s = by-open (is_open v s) refl
  where
    group : Holding
    group = s.group

    by-group : is_open v s ≡ true → (n : Bool) → is_nothing v.shape group ≡ n → (h : Bool) → holds v group ≡ h → Both v s
    by-group o true q true k = let z : true ≡ false = sym q ∙ not-nothing v group k in apart (cc)
    by-group o true q false k = neither (simp (o, k)) (simp (o, q))
    by-group o false q true k = done (entries_of (in_time v group)) (simp (o, k)) (simp (o, q))
    by-group o false q false k = let z : true ≡ false = sym (group-has v s (open-has v s o).group q).0 ∙ k in apart (cc)

    by-open : (b : Bool) → is_open v s ≡ b → Both v s
    by-open true o = by-group o (is_nothing v.shape group) refl (holds v group) refl
    by-open false o = neither (simp o) (simp o)

pub pour_and_drop_alike : PourAndDropAlike
unfolding PourAndDropAlike written_of as_poured answer_of after_pour not_dropped
pour_and_drop_alike v s = go (both v s)
  where
    into : (w : List ℕ) (b : Bool) → (cond b (Ok (length w)) (Err NoRoom) ≡ Err NoRoom → ⊥)
        → ◌≡◌ {A = Dropped} (record { answer = (Ok tt); session = ended v.shape s })
        (as_poured v s (cond b (Ok (length w)) (Err NoRoom)))
    into w true k = refl
    into w false k = absurd (k refl)

    go : Both v s → Alike v s
    go (done w p q) =
        record {
          same = λ out. rw (p, q) (into w (leb (length w) (length out)));
          refused = λ r e. let z : (Ok tt) ≡ Err r = sym (ap (λ (x : Dropped). x.answer) q) ∙ e in apart (cc);
        }
    go (neither p q) =
        record {
          same = λ out k. rw (p, q);
          refused = λ r e. let z : Err NotApplicable ≡ Err r = sym (ap (λ (x : Dropped). x.answer) q) ∙ e in (cc, p);
        }

-- ---- what was lost between two groups

-- a packet then comes after the poured group
module _ (u : Shape) (s : Session) (a : Arrival) where
  by-verdict : (g : GroupNumbers) (w : Result Verdict Refusal) → PouredEnds g a.numbers w → (placed_by u s a w).answer ≡ lost_by w
  unfolding placed_by refuse begins accept lost_by
  by-verdict g w (numbers.refused r n e) = rw e refl
  by-verdict g w (numbers.follows n f k e) = rw e refl

ended-placed : (u : Shape) (s : Session) (a : Arrival)
    → (placed u (ended u s) a).answer ≡ lost_by (after_poured s.group.numbers a.numbers)
unfolding placed group_before ended decided poured_before
ended-placed u s a = rw (nothing_is u) (by-verdict u (ended u s) a _ _ (poured-ends s.group.numbers a.numbers))

pub lost_between_is_reported : LostBetweenIsReported
unfolding LostBetweenIsReported offered received judged lost_between ended refuse
lost_between_is_reported v s o h after k q t p l n d fs r e =
    let source = (group-has v s (open-has v s o).group (not-nothing v s.group h)).1 in
    rw (ended-open v s o h, h, k, source, r, ← e) (go (eqb after.source s.source))
  where
    a : Arrival
    a = arrival v.shape q t l n fs

    go : (b : Bool) → (cond b (placed v.shape (ended v.shape s) a) (refuse (ended v.shape s) AnotherSource)).answer
        ≡ cond b (lost_by (after_poured s.group.numbers a.numbers)) (Err AnotherSource)
    go true = ended-placed v.shape s a
    go false = refl
