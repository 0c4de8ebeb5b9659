-- Sessions in lent octets, in parts: what lies before the bodies of the held group, and the bodies, which stay where they lie. No rule
-- is said here: each is that of Laid and of Session.
use Rattle.std.specs.Prelude.{ℕ, Bool, not, ◌&&◌, List, ◌++◌, map, eqb, take, drop, replicate}
use Rattle.octets.specs.Octets.{shifted}
use Rattle.frame.specs.Shape.{Voice}
use Rattle.holding.specs.declared.Holding.{Holding}
use Rattle.session.specs.Session.{is_open}
use Rattle.session.specs.declared.Session.{Session}
use Rattle.lending.specs.Laid.{flag_octet, number_octets, session_head}

-- which packets are held, eight octets that stand for nothing, and the types
abbrev pub type_octets : List Bool → List ℕ → List ℕ
type_octets hs ms = map flag_octet hs ++ replicate 8 0 ++ map (shifted 242) ms

-- all of a holding but its bodies: 112 octets
unfoldable pub group_octets : Holding → List ℕ
group_octets h = number_octets h ++ type_octets h.held h.marks

-- all of a session that lies before the bodies of its group: octets 0 to 143
unfoldable pub front_octets : Session → List ℕ
front_octets s = session_head s ++ group_octets s.group

-- the types of the group of a session that is laid out in o
abbrev pub types_at : List ℕ → List ℕ
types_at o = map (shifted 14) (take 80 (drop 64 o))

-- and its bodies
abbrev pub bodies_at : List ℕ → List ℕ
bodies_at o = take 1760 (drop 144 o)

-- "session open and group held": a held group has a frame to a packet
unfoldable pub has_group : Voice → Session → Bool
has_group v s = is_open v s && not (eqb s.group.numbers.b 0)
