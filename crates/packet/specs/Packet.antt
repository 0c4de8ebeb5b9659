-- Document 01, "Payloads" and "Groups": the octets of a packet, and which of a group's frames it has.
use Rattle.std.specs.Prelude.{ℕ, ◌+◌, ◌*◌, ◌<◌, ◌≤◌, ◌≡◌, List, [], ◌∷◌, ◌++◌, length, take, drop, get_or}
use Rattle.frame.specs.FrameTable.{Frame, size, types_of}
use Rattle.frame.specs.Places.{frame_at, up_to}
use Rattle.entries.specs.Kind.{Kind}
use Rattle.entries.specs.Entries.{entries_in, frames_in}
use Rattle.entries.specs.declared.Rule.TheVariants.{Any}

-- "Frame k of packet N stands at time place k x (L + 1) + N."
abbrev pub place_of : ℕ → ℕ → ℕ → ℕ
place_of l n k = k * (l + 1) + n

-- the first b frames of packet N, of the group's frames in time order
unfoldable pub packet_frames : ℕ → ℕ → ℕ → List Frame → List Frame
packet_frames l n b fs = up_to (λ k. frame_at fs (place_of l n k)) b

-- "Then the bodies, in the entries' order." (Payloads)
abbrev pub bodies_of : List Frame → List ℕ
bodies_of [] = []
bodies_of (f ∷ fs) = f.body ++ bodies_of fs

-- "F = 1 says another entry follows"
abbrev pub follows : List ℕ → ℕ
follows [] = 0
follows (t ∷ ts) = 128

-- the table of contents: F x 128 + D x 64 + type; "our writer sets the same D in all"
abbrev pub toc_of : ℕ → List ℕ → List ℕ
toc_of d [] = []
toc_of d (t ∷ ts) = (follows ts + d * 64 + t) ∷ toc_of d ts

-- octet 0, with "RR written as 0", the table of contents and the bodies
abbrev pub packed : ℕ → ℕ → ℕ → List Frame → List ℕ
packed l n d fs = (l * 8 + n) ∷ (toc_of d (types_of fs) ++ bodies_of fs)

-- the frames of entries, in time order
abbrev pub group_in : Kind → List ℕ → List Frame
group_in kind es = frames_in (entries_in kind Any es)

-- entries that have every frame of packet N's first b, of a group that is not too long
pub record Picked (kind : Kind) (l n b : ℕ) (es : List ℕ) : Type 0 where
  pub length_small : l ≤ 7
  pub index_in : n ≤ l
  pub bundle_small : b ≤ 10
  pub there : (l + 1) * b ≤ length (group_in kind es)

-- the entry of a frame stands at a place of the octets, and its body behind it
pub record EntryAt (kind : Kind) (es : List ℕ) (at : ℕ) (f : Frame) : Type 0 where
  pub here : at < length es
  pub type : kind.type_of (get_or es at 0) ≡ f.type
  pub octets : size kind.table (kind.type_of (get_or es at 0)) ≡ length f.body
  pub inside : at + 1 + size kind.table (kind.type_of (get_or es at 0)) ≤ length es
  pub body : take (size kind.table (kind.type_of (get_or es at 0))) (drop (at + 1) es) ≡ f.body
