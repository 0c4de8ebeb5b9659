-- Document 01, "Groups" and "What the promises have to say": holdings as Groups defines them, and what they know,
-- over any shape and frame table.
use Rattle.std.specs.Prelude.{ℕ, ◌≡◌, List, [], ◌∷◌, ◌⊎◌, Bool, true, false, cond}
use Rattle.frame.specs.FrameTable.{Frame, erasure}
use Rattle.frame.specs.Shape.{Voice}
use Rattle.frame.specs.Places.{frame_at, up_to}
use Rattle.holding.specs.Group.{Shaped, held_at, bundle_at, holds}
use Rattle.bundle.specs.Bundles.{frame_of}
use Rattle.bundle.specs.declared.Bundle.{Bundle}
use Rattle.holding.specs.declared.Holding.{Holding}

-- "holdings as Groups defines them, .. each holding at least one packet"
pub record Box (v : Voice) (h : Holding) : Type 0 where
  pub shaped : Shaped v.shape h
  pub some : holds v h ≡ true

-- "equal knowledge": what is known of a packet is one value, whether it is held and its frames
pub record Known : Type 0 where
  pub held : Bool
  pub frames : List Frame

-- what is known of a packet that is not held: no frame
abbrev pub unheard : Known
unheard = record { held = false; frames = [] }

-- what is known of a packet of b frames: "which packets are held, and the frames"
unfoldable pub told : Voice → ℕ → Bool → Bundle → Known
told v b held p = cond held (record { held = true; frames = up_to (frame_of v p) b }) unheard

-- what a holding knows of packet n
unfoldable pub known_of : Voice → Holding → ℕ → Known
known_of v h n = told v h.numbers.b (held_at h n) (bundle_at v.shape h n)

-- frame k of what is known of a packet: "a place not held reads as an erasure"
abbrev pub frame_known : Known → ℕ → Frame
frame_known w k = cond w.held (frame_at w.frames k) (record { type = erasure; body = [] })

-- one of these holdings
abbrev pub Among : Holding → List Holding → Type 0
Among h [] = ⊥
Among h (x ∷ xs) = (h ≡ x) ⊎ Among h xs
