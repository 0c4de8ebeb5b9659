-- The entries of the frames of packet N: where they stand, gone along once. Assumes nothing.
use Prim.Native.Nat.{ℕ, suc, ◌+◌, ◌-◌, ◌≤◌, ◌<◌}
use mathlib.Core.Path.{◌≡◌, refl, sym, ap, ◌∙◌}
use mathlib.Core.List.{List}
use native.Mathlib.Omega.{arith}
use lib.ListN.{length, take, drop, get_or, set, length-append, length-drop}
use lib.Seq.{drop-cons, drop-drop, get_or-set_same, get_or-set_other, ext_get_or}
use borrow.Author.Count.{below_more}
use Rattle.octets.proofs.OctetsLaws.{part-is}
use Rattle.frame.specs.FrameTable.{Frame, size, types_of}
use Rattle.frame.specs.declared.Vocoder.{Vocoder}
use Rattle.frame.specs.Places.{taken, frame_at, no_frame}
use Rattle.frame.proofs.PlacesLaws.{types-at, length_types}
use Rattle.entries.specs.Kind.{Kind, kind_of}
use Rattle.entries.specs.Entries.{frames, allowed, entries_from}
use Rattle.entries.specs.declared.Rule.TheVariants.{Any}
use Rattle.entries.proofs.EntriesLaws.{entry, are-frames}
use Rattle.entries.proofs.Seeking.{frames_from, Sought, seek-from}
use Rattle.packet.specs.Packet.{place_of, packet_frames, bodies_of, group_in, Picked, EntryAt}
use Rattle.packet.proofs.Packing.{length-packet, packet-at, types_at, length_at, type_at, bodies-next, bodies-within}
use Rattle.packet.proofs.Numbering.{place_in, place-next}

-- the entries gone along so far, before frame k of packet N is sought: its entry is `skip` entries further on
pub record Reached (kind : Kind) (l n k : ℕ) (es : List ℕ) (at skip : ℕ) : Type 0 where
  pub passed : ℕ
  pub further : passed + skip ≡ place_of l n k
  pub rest : frames_from kind es at ≡ drop passed (group_in kind es)

pub at_first : (kind : Kind) (l n : ℕ) (es : List ℕ) → Reached kind l n 0 es 0 n
at_first kind l n es = record { passed = 0; further = omega arith; rest = refl }

module _ (kind : Kind) (l n b k : ℕ) (es : List ℕ) (at skip : ℕ) (h : Picked kind l n b es) (q : k < b) (w : Reached kind l n k es at skip) where
  pick-few : place_of l n k < length (group_in kind es)
  pick-few = omega (arith, place_in l n b k h.index_in q, h.there)

  pub sought : Sought kind es at skip
  sought = seek-from kind es at skip (rw w.rest (omega (arith, pick-few, w.further, length-drop w.passed (group_in kind es))))

  module _ (r : ℕ) (e : r ≡ taken 1 (take skip (group_in kind (take (length es - at) (drop at es))))) where
    from-it : frames_from kind es (at + r) ≡ drop (place_of l n k) (group_in kind es)
    from-it = sought.on r e ∙ ap (drop skip) w.rest ∙ drop-drop skip w.passed (group_in kind es) ∙ ap (λ (i : ℕ). drop i (group_in kind es)) w.further

    pub found : EntryAt kind es (at + r) (frame_at (group_in kind es) (place_of l n k))
    found =
        let fs = group_in kind es in
        let some : 0 < length (frames_from kind es (at + r)) = rw from-it (omega (arith, pick-few, length-drop (place_of l n k) fs)) in
        let y = entry kind (allowed kind.table Any) es (at + r) (frame_at fs (place_of l n k)) (drop (suc (place_of l n k)) fs)
        (are-frames (entries_from kind Any (at + r) (drop (at + r) es)) 0 some ∙ ap frames (from-it ∙ drop-cons fs (place_of l n k) no_frame pick-few)) in
        record { here = y.here; type = sym y.type; octets = sym y.octets; inside = y.inside; body = sym y.body }

    pub goes_on : Reached kind l n (k + 1) es (at + r) (l + 1)
    goes_on = record { passed = place_of l n k; further = place-next l n k; rest = from-it }

-- the places of the entries of packet N's first k frames
abbrev pub Placed : Kind → ℕ → ℕ → ℕ → List ℕ → List ℕ → Type 0
Placed kind l n k es places = (j : ℕ) → j < k → EntryAt kind es (get_or places j 0) (frame_at (group_in kind es) (place_of l n j))

-- one more
pub placed-more :
    (kind : Kind) (l n k : ℕ) (es places : List ℕ) (at : ℕ) →
    Placed kind l n k es places →
    k < length places →
    EntryAt kind es at (frame_at (group_in kind es) (place_of l n k)) →
    Placed kind l n (k + 1) es (set places k at)
placed-more kind l n k es places at p h x =
    below_more (λ j. EntryAt kind es (get_or (set places k at) j 0) (frame_at (group_in kind es) (place_of l n j))) k
    (λ j q. rw (get_or-set_other places k j at 0 (λ e. omega arith)) (p j q))
    (rw (get_or-set_same places k at 0 h) x)

-- the types of the entries there are those of packet N's frames
pub types-placed :
    (v : Vocoder) (l n b : ℕ) (es places : List ℕ) →
    Placed (kind_of v) l n b es places →
    types_at es places b ≡ types_of (packet_frames l n b (group_in (kind_of v) es))
types-placed v l n b es places p =
    let gs = group_in (kind_of v) es in
    let fs = packet_frames l n b gs in
    let m = length_at es places b in
    ext_get_or 0 (types_at es places b) (types_of fs) (m ∙ sym (length_types fs ∙ length-packet l n b gs))
    (λ k q. let h : k < b = omega arith in type_at es places b k h ∙ (p k h).type ∙ sym (types-at fs k ∙ ap (λ (x : Frame). x.type) (packet-at l n b gs k h)))

-- the body of the next frame, as the code takes it, s octets behind its entry
pub record NextBody (l n b k : ℕ) (es : List ℕ) (fs : List Frame) (at s : ℕ) : Type 0 where
  pub part : take (at + 1 + s - (at + 1)) (drop (at + 1) es) ≡ (frame_at fs (place_of l n k)).body
  pub octets : s ≡ length (frame_at fs (place_of l n k)).body
  pub total : length (bodies_of (packet_frames l n (k + 1) fs)) ≡ length (bodies_of (packet_frames l n k fs)) + s
  pub within : length (bodies_of (packet_frames l n (k + 1) fs)) ≤ length (bodies_of (packet_frames l n b fs))

pub next-body :
    (kind : Kind) (l n b k : ℕ) (es : List ℕ) (fs : List Frame) (at s : ℕ) →
    EntryAt kind es at (frame_at fs (place_of l n k)) →
    s ≡ size kind.table (kind.type_of (get_or es at 0)) →
    k < b →
    NextBody l n b k es fs at s
next-body kind l n b k es fs at s x e h =
    let o : s ≡ length (frame_at fs (place_of l n k)).body = e ∙ x.octets in
    record {
      part = part-is es (at + 1) s ∙ ap (λ (i : ℕ). take i (drop (at + 1) es)) e ∙ x.body;
      octets = o;
      total = ap length (bodies-next l n k fs)
          ∙ length-append (bodies_of (packet_frames l n k fs)) (frame_at fs (place_of l n k)).body
          ∙ ap (λ (i : ℕ). length (bodies_of (packet_frames l n k fs)) + i) (sym o);
      within = bodies-within l n (k + 1) b fs (omega arith);
    }
