-- Demand 3: one packet of the group is missing.
use Rattle.std.specs.Prelude.{ℕ, suc, ◌+◌, ◌≤◌, ◌<◌, ◌≡◌, List, [], ◌∷◌, Bool, true, false, cond, eqb, length}
use Rattle.frame.specs.FrameTable.{Frame, erasure}
use Rattle.frame.specs.Shape.{Voice}
use Rattle.frame.specs.Places.{frame_at}
use Rattle.form.specs.declared.Form.{Form}
use Rattle.pouring.specs.Pouring.{in_time}
use Rattle.session.specs.declared.Session.{Session}
use Rattle.claims.specs.Joinings.{HasRoom}
use Rattle.claims.specs.Offering.{Sent, among, HoldsExactly}

-- whether a frame is an erasure
abbrev pub is_erasure : Frame → Bool
is_erasure f = eqb f.type erasure

-- how many of these frames are erasures
abbrev pub erasures : List Frame → ℕ
erasures [] = 0
erasures (f ∷ fs) = cond (is_erasure f) (suc (erasures fs)) (erasures fs)

-- "exactly one packet of two or more is missing": all packets of a group of L but x are among these
pub record OneMissing (l : ℕ) (ns : List ℕ) (x : ℕ) : Type 0 where
  pub two_or_more : 1 ≤ l
  pub in_group : x ≤ l
  pub missing : among x ns ≡ false
  pub others : (n : ℕ) → n ≤ l → (n ≡ x → ⊥) → among n ns ≡ true

-- frames of which none is an erasure
unfoldable pub NoErasure : List Frame → Type 0
NoErasure fs = (i : ℕ) → i < length fs → is_erasure (frame_at fs i) ≡ false

-- "exactly as many erasures stand there as a packet has frames, and no two are neighbours"
pub record Spread (poured : List Frame) (b : ℕ) : Type 0 where
  pub exactly_b : erasures poured ≡ b
  pub no_neighbours : (t : ℕ) → t + 1 < length poured → is_erasure (frame_at poured t) ≡ true →
      is_erasure (frame_at poured (t + 1)) ≡ true → ⊥

-- of a group without erasures of its own
unfoldable pub OneMissingPacket : Type 0
OneMissingPacket =
    (v : Voice) → HasRoom v → (form : Form) (g : Sent v form) (s : Session) (ns : List ℕ) → HoldsExactly s g ns →
    NoErasure g.group.frames → (x : ℕ) → OneMissing g.group.l ns x → Spread (in_time v s.group) g.group.b
