-- What the writers make, check by check. Assumes nothing.
use Rattle.std.proofs.Common.{Ok, Err}
use Prim.Native.Nat.{ℕ, ◌+◌, ◌*◌, ◌≤◌}
use mathlib.Core.Path.{◌≡◌, refl, sym, ap, ◌∙◌}
use mathlib.Core.List.{List, [], ◌∷◌}
use mathlib.Core.Bool.{Bool, true, false}
use native.Mathlib.Omega.{arith}
use lib.ListN.{length, drop, get_or, length-drop}
use lib.Seq.{take_all}
use lib.Dec.{ltb}
use borrow.Author.Tests.{eq-eqb, ne_eqb, le-leb, le-ltb}
use Rattle.octets.proofs.Logic.{apart}
use Rattle.frame.specs.FrameTable.{Frame, known, size}
use Rattle.form.specs.Agreed.{opened}
use Rattle.answers.specs.Outputs.{octets, refused_output}
use Rattle.form.specs.declared.Limits.{Limits}
use Rattle.form.specs.declared.Form.TheVariants.{Interleaved}
use Rattle.answers.specs.declared.Refusal.{Refusal}
use Rattle.answers.specs.declared.Refusal.TheVariants.{NotSendable}
use Rattle.form.proofs.AgreedLaws.{opened-agreed}
use Rattle.entries.specs.Kind.{Kind}
use Rattle.entries.specs.Entries.{EntriesRead, frames, frame_of, entries, allowed, entries_in, frames_in}
use Rattle.entries.specs.Entries as entry
use Rattle.entries.specs.Counting.{counted_of}
use Rattle.entries.specs.declared.Rule.TheVariants as rule
use Rattle.entries.proofs.Walking.{entry_if}
use Rattle.entries.proofs.Clearing.{read-any}
use Rattle.entries.proofs.EntriesLaws.{entry as inverted}
use Rattle.packet.specs.Packet.{packet_frames, packed, group_in}
use Rattle.packet.specs.Writing.{packet_of_group, packet_within, packet_made, one_body}

-- ---- the interleaved writer
module _ (kind : Kind) (m : Limits) (l n b d : ℕ) (es : List ℕ) where
  pub within-group : n ≤ l → l ≤ m.max_l → 1 ≤ b → b ≤ m.max_b → packet_within kind m l n b d es ≡ packet_of_group l n b d (entries_in kind rule.Sendable es)
  unfolding packet_within
  within-group h k p q = simp (le-ltb _ _ h, le-ltb _ _ k, le-leb _ _ p, le-leb _ _ q)

  pub made-within : (a : Limits) → opened m.max_l m.max_b ≡ Ok a → d ≤ 1 → packet_made kind (Interleaved m) l n b d es ≡ packet_within kind a l n b d es
  unfolding packet_made
  made-within a e h = let x = opened-agreed m a e in simp (x.0, le-leb _ _ h) (ap (λ (y : Limits). packet_within kind y l n b d es) (sym x.1))

-- ---- the walk, and the frame count
module _ (l n b d : ℕ) (w : EntriesRead) where
  pub group-refused : (r : Refusal) → Err r ≡ counted_of w → packet_of_group l n b d w ≡ refused_output r
  unfolding packet_of_group counted_of
  group-refused r e = go w e
    where
      go : (u : EntriesRead) → Err r ≡ counted_of u → packet_of_group l n b d u ≡ refused_output r
      go (entry.refused_entries f) x = let y : f ≡ r = cc in ap refused_output y
      go (frames fs) x = apart (cc)

  module _ (c : ℕ) (e : Ok c ≡ counted_of w) where
    frames-of : (fs : List Frame) × (w ≡ frames fs) × (c ≡ length fs)
    unfolding counted_of
    frames-of = go w refl e
      where
        go : (u : EntriesRead) → w ≡ u → Ok c ≡ counted_of u → (fs : List Frame) × (w ≡ frames fs) × (c ≡ length fs)
        go (entry.refused_entries f) q x = apart (cc)
        go (frames fs) q x = (fs, q, cc)

    pub group-count : (c ≡ (l + 1) * b → ⊥) → packet_of_group l n b d w ≡ refused_output NotSendable
    unfolding packet_of_group
    group-count h =
        let x = frames-of in
        rw (x.1, ne_eqb (length x.0) ((l + 1) * b) (λ q. h (x.2 ∙ q)))

-- the walk went through: the frames are there under no rule too, and the packet is made of them
pub record Group (kind : Kind) (l n b d : ℕ) (es : List ℕ) : Type 0 where
  pub made : packet_of_group l n b d (entries_in kind rule.Sendable es) ≡ octets (packed l n d (packet_frames l n b (group_in kind es)))
  pub count : (l + 1) * b ≡ length (group_in kind es)

pub group-made : (kind : Kind) (l n b d c : ℕ) (es : List ℕ) → Ok c ≡ counted_of (entries_in kind rule.Sendable es) → c ≡ (l + 1) * b → Group kind l n b d es
unfolding packet_of_group frames_in
group-made kind l n b d c es e h =
    let x = frames-of l n b d (entries_in kind rule.Sendable es) c e in
    let y : entries_in kind rule.Any es ≡ frames x.0 = read-any kind rule.Sendable 0 es x.0 x.1 in
    let z : length x.0 ≡ (l + 1) * b = sym x.2 ∙ h in
    let g : group_in kind es ≡ x.0 = ap frames_in y in
    record { made = rw (x.1, eq-eqb (length x.0) ((l + 1) * b) z) (ap (λ (fs : List Frame). octets (packed l n d (packet_frames l n b fs))) (sym g)); count = sym z ∙ ap length (sym g) }

-- ---- the header-free writer
pub body_refused : (w : EntriesRead) (r : Refusal) → Err r ≡ counted_of w → one_body w ≡ refused_output r
unfolding one_body counted_of
body_refused (entry.refused_entries f) r x = let y : f ≡ r = cc in ap refused_output y
body_refused (frames fs) r x = apart (cc)

pub body-count : (w : EntriesRead) (c : ℕ) → Ok c ≡ counted_of w → (c ≡ 1 → ⊥) → one_body w ≡ refused_output NotSendable
unfolding one_body counted_of
body-count (entry.refused_entries f) c x h = apart (cc)
body-count (frames []) c x h = refl
body-count (frames (f ∷ [])) c x h = absurd (h (cc))
body-count (frames (f ∷ g ∷ fs)) c x h = refl

-- one entry is its octet and its body
pub record One (kind : Kind) (es : List ℕ) : Type 0 where
  pub made : one_body (entries_in kind rule.HeaderFree es) ≡ octets (drop 1 es)
  pub some : 1 ≤ length es

no_more : (kind : Kind) (ok : Frame → Bool) (at : ℕ) (p : List ℕ) → entries kind ok at 0 p ≡ frames [] → length p ≤ 0
unfolding entries
no_more kind ok at [] e = omega arith
no_more kind ok at (x ∷ p) e =
    let s = size kind.table (kind.type_of x) in
    go (entries kind ok (at + 1) s p) (known kind.table (kind.type_of x)) (ltb (length p) s) (ok (frame_of kind x p)) e
  where
    go : (w : EntriesRead) (a b c : Bool) → entry_if at (frame_of kind x p) w a b c ≡ frames [] → length (x ∷ p) ≤ 0
    go w false b c q = apart (cc)
    go w true true c q = apart (cc)
    go w true false false q = apart (cc)
    go (frames fs) true false true q = apart (cc)
    go (entry.refused_entries f) true false true q = apart (cc)

pub one-made : (kind : Kind) (es : List ℕ) (c : ℕ) → Ok c ≡ counted_of (entries_in kind rule.HeaderFree es) → c ≡ 1 → One kind es
unfolding one_body counted_of
one-made kind es c e h = go (entries_in kind rule.HeaderFree es) refl e
  where
    go : (w : EntriesRead) → entries_in kind rule.HeaderFree es ≡ w → Ok c ≡ counted_of w → One kind es
    go (entry.refused_entries f) q x = apart (cc)
    go (frames []) q x = let z : c ≡ 0 = cc in absurd (omega arith)
    go (frames (f ∷ g ∷ fs)) q x = let z : c ≡ length (f ∷ g ∷ fs) = cc in absurd (omega arith)
    go (frames (f ∷ [])) q x =
        let y = inverted kind (allowed kind.table rule.HeaderFree) es 0 f [] q in
        let s = size kind.table (kind.type_of (get_or es 0 0)) in
        let k = no_more kind (allowed kind.table rule.HeaderFree) (0 + 1 + s) (drop (0 + 1 + s) es) y.rest in
        let b : f.body ≡ drop 1 es = y.body ∙ take_all s (drop 1 es) (omega (arith, length-drop 1 es, length-drop (0 + 1 + s) es)) in
        record { made = rw q (ap octets b); some = omega (arith, y.here) }
