-- The calls of document 01, "Session", on sessions and holdings in octets that a host lends.
use Rattle.std.specs.Prelude.{ℕ, cond, List, replicate, Result, Ok, Err}
use Rattle.answers.specs.declared.Refusal.{Refusal}
use Rattle.octets.specs.Octets.{over}
use Rattle.frame.specs.Shape.{Voice, holding_shape}
use Rattle.answers.specs.Outputs.{Made}
use Rattle.form.specs.declared.Form.{Form}
use Rattle.answers.specs.declared.Refusal.TheVariants.{NoRoom}
use Rattle.holding.specs.Asked.{described, lost_between}
use Rattle.holding.specs.declared.Described.{Described}
use Rattle.joining.specs.Joining.{join_of}
use Rattle.pouring.specs.Pouring.{poured}
use Rattle.session.specs.Session.{Started, never_opened, opened_for, offered, pour_made, ended, copied, dropped}
use Rattle.lending.specs.Laid.{is_long, holding_in, holding_laid, session_in, session_laid}

-- "output shorter than the answer needs": 15
unfoldable pub room_in : List ℕ → Result Unit Refusal
room_in out = cond (is_long out) (Ok tt) (Err NoRoom)

-- it "always comes last": a refusal, or the room for what was done
unfoldable pub then_room : Result Unit Refusal → List ℕ → Result Unit Refusal
then_room (Ok u) out = room_in out
then_room (Err r) out = Err r

-- a call that was done lays out what it gives; a refused one "changes nothing lent"
unfoldable pub lay_if : {A : Type 0} → Result A Refusal → List ℕ → List ℕ → List ℕ
lay_if (Ok x) o w = over o 0 w
lay_if (Err r) o w = o

-- ---- opening, offering: "open session (21)", which a session that is too short is not

-- a session opened in octets, whatever they say
abbrev pub opened_in : ℕ → Form → Started
opened_in source form = opened_for holding_shape (never_opened holding_shape) source form

-- the answer to opening: 21, then 15
unfoldable pub open_answer : List ℕ → ℕ → Form → Result Unit Refusal
open_answer o source form = then_room (opened_in source form).answer o

-- the session's octets after opening
unfoldable pub open_octets : List ℕ → ℕ → Form → List ℕ
open_octets o source form = lay_if (open_answer o source form) o (session_laid (opened_in source form).session)

-- the answer to an offer is what the session in the octets answers
unfoldable pub offer_answer : Voice → List ℕ → ℕ → ℕ → ℕ → List ℕ → Result ℕ Refusal
offer_answer v o source sequence timestamp p = (offered v (session_in o) source sequence timestamp p).answer

-- the session's octets after an offer
unfoldable pub offer_octets : Voice → List ℕ → ℕ → ℕ → ℕ → List ℕ → List ℕ
offer_octets v o source sequence timestamp p =
    lay_if (offer_answer v o source sequence timestamp p) o (session_laid (offered v (session_in o) source sequence timestamp p).session)

-- ---- pouring, copying out, dropping, ending
unfoldable pub pour_of : Voice → List ℕ → Made
pour_of v o = pour_made v (session_in o)

-- the session's octets after a pouring
unfoldable pub pour_octets : List ℕ → Result ℕ Refusal → List ℕ
pour_octets o w = lay_if w o (session_laid (ended holding_shape (session_in o)))

-- the answer to copying out: 21, then 15
unfoldable pub copy_answer : Voice → List ℕ → List ℕ → Result Unit Refusal
copy_answer v o out = then_room (copied v (session_in o)).answer out

-- the holding's octets after copying out
unfoldable pub copy_octets : Voice → List ℕ → List ℕ → List ℕ
copy_octets v o out = lay_if (copy_answer v o out) out (holding_laid (copied v (session_in o)).holding)

-- the answer to dropping: 21, which a session that is too short answers
unfoldable pub drop_answer : Voice → List ℕ → Result Unit Refusal
drop_answer v o = (dropped v (session_in o)).answer

-- the session's octets after dropping
unfoldable pub drop_octets : Voice → List ℕ → List ℕ
drop_octets v o = lay_if (drop_answer v o) o (session_laid (dropped v (session_in o)).session)

-- the answer to ending: 15, or done
unfoldable pub end_answer : List ℕ → Result Unit Refusal
end_answer o = room_in o

-- "Ending a session clears all of it": its octets are zero
unfoldable pub end_octets : List ℕ → List ℕ
end_octets o = lay_if (end_answer o) o (replicate 2304 0)

-- ---- joining, and pouring a holding: 21, 20, 14, then 15
unfoldable pub join_answer : Voice → List ℕ → List ℕ → List ℕ → Result Unit Refusal
join_answer v a b out = then_room (join_of v (holding_in a) (holding_in b)).answer out

-- the joined holding's octets
unfoldable pub join_octets : Voice → List ℕ → List ℕ → List ℕ → List ℕ
join_octets v a b out = lay_if (join_answer v a b out) out (holding_laid (join_of v (holding_in a) (holding_in b)).holding)

-- what pouring a holding makes
unfoldable pub pour_held : Voice → List ℕ → Made
pour_held v o = poured v (holding_in o)

-- ---- what a host of two boxes asks: 21, which a holding that is too short answers

-- what a holding is
unfoldable pub read_held : Voice → List ℕ → Result Described Refusal
read_held v o = described v (holding_in o)

-- the lost frames between two groups
unfoldable pub lost_of : Voice → List ℕ → List ℕ → Result ℕ Refusal
lost_of v a b = lost_between v (holding_in a) (holding_in b)
