-- Document 01, "Session": "Joining two holdings", over any shape and frame table.
use Rattle.std.specs.Prelude.{ℕ, zero, suc, Bool, true, false, cond, ◌&&◌, List, get_or, eqb, Result, Ok, Err}
use Rattle.frame.specs.Shape.{Shape, Voice, packets_of}
use Rattle.answers.specs.declared.Refusal.{Refusal}
use Rattle.answers.specs.declared.Refusal.TheVariants.{PacketDiffers, NotSameGroup, NotApplicable}
use Rattle.numbers.specs.Bases.{same_numbers}
use Rattle.holding.specs.Group.{no_numbers, nothing, held_at, bundle_of, bundle_at, with_packet, holds}
use Rattle.bundle.specs.Bundles.{same_bundles}
use Rattle.octets.specs.Octets.{all_below}
use Rattle.holding.specs.declared.Holding.{Holding}
use Rattle.holding.specs.declared.Group.{Group}
use Rattle.bundle.specs.declared.Bundle.{Bundle}
use Rattle.answers.specs.Outputs.{giving}

-- "source, bases, L or B" are the same
unfoldable pub same_group : Holding → Holding → Bool
same_group a b =
    eqb a.source b.source && same_numbers a.numbers b.numbers

-- "a packet held in both" does not differ
unfoldable pub meets : Bool → Bundle → Bool → Bundle → Bool
meets h p h' q = cond h (cond h' (same_bundles p q) true) true

-- packet n does not differ in two groups of these flags, types and cells
unfoldable pub agree_in : Shape → List Bool → List ℕ → List ℕ → List Bool → List ℕ → List ℕ → ℕ → Bool
agree_in shape hs ms rs hs' ms' rs' n = meets (get_or hs n false) (bundle_of shape ms rs n) (get_or hs' n false) (bundle_of shape ms' rs' n)

-- nor in two groups whose parts the code has at hand
abbrev pub agree_of : Shape → Group → Group → ℕ → Bool
agree_of shape a b = agree_in shape a.held.now a.cells.marks.now a.cells.room.now b.held.now b.cells.marks.now b.cells.room.now

-- packet n does not differ in two holdings
abbrev pub agree_at : Shape → Holding → Holding → ℕ → Bool
agree_at shape a b n = agree_in shape a.held a.marks a.room b.held b.marks b.room n

-- no packet does: else 14
unfoldable pub agree : Shape → Holding → Holding → Bool
agree shape a b = all_below (agree_at shape a b) (packets_of shape)

-- a with b's packet n, if b holds it
unfoldable pub take_one : Shape → Holding → Holding → ℕ → Holding
take_one shape a b n = cond (held_at b n) (with_packet shape a n (bundle_at shape b n)) a

-- a with those of b's packets below n
unfoldable pub take_below : Shape → Holding → Holding → ℕ → Holding
take_below shape a b zero = a
take_below shape a b (suc n) = take_one shape (take_below shape a b n) b n

-- "every packet held in either"
abbrev pub either : Shape → Holding → Holding → Holding
either shape a b = take_below shape a b (packets_of shape)

-- a group's flags, types and cells, whatever its numbers
abbrev pub unnumbered : List Bool → List ℕ → List ℕ → Holding
unnumbered hs ms rs = record { source = 0; numbers = no_numbers; held = hs; marks = ms; room = rs }

-- the same of parts that the code has at hand
abbrev pub unnumbered_of : Group → Holding
unnumbered_of g = unnumbered g.held.now g.cells.marks.now g.cells.room.now

-- the answer of a joining, and what it made
pub record Joined : Type 0 where
  pub answer : Result Unit Refusal
  pub holding : Holding

-- a refused joining; beside the refusal stands a holding of nothing, which `joined` leaves out
unfoldable pub refused_join : Shape → Refusal → Joined
refused_join shape r = record { answer = Err r; holding = nothing shape }

-- "21 if either holds no packet; 20 if source, bases, L or B differ; 14 if a packet held in both differs; else every packet held in either"
unfoldable pub join_of : Voice → Holding → Holding → Joined
join_of v a b =
    cond (holds v a && holds v b)
    (cond (same_group a b)
    (cond (agree v.shape a b) (record { answer = (Ok tt); holding = either v.shape a b }) (refused_join v.shape PacketDiffers))
    (refused_join v.shape NotSameGroup))
    (refused_join v.shape NotApplicable)

-- what a joining gives: the holding that it made, or the refusal
abbrev pub joined : Voice → Holding → Holding → Result Holding Refusal
joined v a b = giving (join_of v a b).answer (join_of v a b).holding
