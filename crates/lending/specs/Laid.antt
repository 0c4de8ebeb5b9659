-- Sessions and holdings in 2,304 octets that a host lends (document 01, "Groups" and "Session"; LAYOUT.md has the layout as a table).
-- All of a holding of nothing, and all of a session never opened, is zero.
use Rattle.std.specs.Prelude.{ℕ, ◌+◌, Bool, cond, ◌&&◌, List, [], ◌∷◌, ◌++◌, map, eqb, leb, length, take, drop, get_or, replicate}
use Rattle.std.specs.Prelude.{Option, Some, None, is_some}
use Rattle.octets.specs.Octets.{shifted, two_at, four_at, two_octets, four_octets, same_octets}
use Rattle.form.specs.declared.Form.{Form}
use Rattle.form.specs.declared.Form.TheVariants.{HeaderFree, Interleaved}
use Rattle.frame.specs.Shape.{Voice, holding_shape}
use Rattle.form.specs.Agreed.{voice_for}
use Rattle.numbers.specs.declared.GroupNumbers.{GroupNumbers}
use Rattle.holding.specs.Group.{nothing, voice_in}
use Rattle.holding.specs.declared.Holding.{Holding}
use Rattle.session.specs.Session.{never_opened}
use Rattle.session.specs.declared.Session.{Session}

-- a flag as an octet, and an octet as a flag
abbrev pub flag_octet : Bool → ℕ
flag_octet b = cond b 1 0

-- and whether it says yes
abbrev pub is_set : ℕ → Bool
is_set x = eqb x 1

-- ---- lent octets, whatever they are for

-- a session and a holding take 2,304 octets; those behind them are not looked at
unfoldable pub is_long : List ℕ → Bool
is_long o = leb 2304 (length o)

-- the octets are as they would be laid out: one that is too short, or "stands for nothing" and is not zero, is not
unfoldable pub is_laid : List ℕ → List ℕ → Bool
is_laid o w = is_long o && same_octets w (take 2304 o)

-- ---- a holding, in 1,872 octets: types are laid out less 14 modulo 256, so that an erasure is 0

-- the numbers of a holding: octets 0 to 15, of which the last four stand for nothing
unfoldable pub number_octets : Holding → List ℕ
number_octets h =
    four_octets h.source ++ two_octets h.numbers.sequence ++ four_octets h.numbers.timestamp ++ (h.numbers.l ∷ h.numbers.b ∷ []) ++
    replicate 4 0

-- which packets are held, eight octets that stand for nothing, the types and the bodies: octets 16 to 1,871
unfoldable pub frame_octets : Holding → List ℕ
frame_octets h = map flag_octet h.held ++ replicate 8 0 ++ map (shifted 242) h.marks ++ h.room

-- all that says something of a holding
unfoldable pub holding_octets : Holding → List ℕ
holding_octets h = number_octets h ++ frame_octets h

-- the numbers of a group that are laid out in o from index `at` on
unfoldable pub numbers_at : List ℕ → ℕ → GroupNumbers
numbers_at o at = record { sequence = two_at o at; timestamp = four_at o (at + 2); l = get_or o (at + 6) 0; b = get_or o (at + 7) 0 }

-- the holding that is laid out in o from index `at` on
unfoldable pub holding_at : List ℕ → ℕ → Holding
holding_at o at =
    record {
      source = four_at o at;
      numbers = numbers_at o (at + 4);
      held = map is_set (take 8 (drop (at + 16) o));
      marks = map (shifted 14) (take 80 (drop (at + 32) o));
      room = take 1760 (drop (at + 112) o);
    }

-- a holding in 2,304 octets
unfoldable pub holding_laid : Holding → List ℕ
holding_laid h = holding_octets h ++ replicate 432 0

-- octets are a holding if that holding, laid out, is they
unfoldable pub is_holding : List ℕ → Bool
is_holding o = is_laid o (holding_laid (holding_at o 0))

-- "octets that are no holding" count as one that holds no packet
unfoldable pub holding_in : List ℕ → Holding
holding_in o = cond (is_holding o) (holding_at o 0) (nothing holding_shape)

-- ---- a session: 32 octets, and its group

-- a form: its kind and its maxima, which are zero where there are none
unfoldable pub form_octets : Form → List ℕ
form_octets HeaderFree = 0 ∷ 0 ∷ 0 ∷ []
form_octets (Interleaved m) = 1 ∷ m.max_l ∷ m.max_b ∷ []

-- the form that three octets say
unfoldable pub form_at : List ℕ → ℕ → Form
form_at o at =
    cond (is_set (get_or o at 0)) (Interleaved (record { max_l = get_or o (at + 1) 0; max_b = get_or o (at + 2) 0 })) HeaderFree

-- the numbers of the last poured group, which are zero where none was: octets 9 to 19, of which 13 to 15 stand for nothing
unfoldable pub last_octets : Option GroupNumbers → List ℕ
last_octets None = replicate 11 0
last_octets (Some g) = two_octets g.sequence ++ (g.l ∷ g.b ∷ []) ++ replicate 3 0 ++ four_octets g.timestamp

-- what stands before the held group: octets 0 to 31, of which octet 8 says whether one was poured, and the last twelve stand for nothing
unfoldable pub session_head : Session → List ℕ
session_head s =
    (flag_octet s.«open» ∷ []) ++ form_octets s.form ++ four_octets s.source ++ (flag_octet (is_some s.last) ∷ []) ++
    last_octets s.last ++ replicate 12 0

-- a session in 2,304 octets
unfoldable pub session_laid : Session → List ℕ
session_laid s = session_head s ++ holding_octets s.group ++ replicate 400 0

-- the numbers of the last poured group, if such octets say that there is one
unfoldable pub last_at : List ℕ → Option GroupNumbers
last_at o =
    cond (is_set (get_or o 8 0))
    (Some (record { sequence = two_at o 9; timestamp = four_at o 16; l = get_or o 11 0; b = get_or o 12 0 })) None

-- the session that such octets say
unfoldable pub session_at : List ℕ → Session
session_at o =
    record {
      «open» = is_set (get_or o 0 0);
      source = four_at o 4;
      form = form_at o 1;
      group = holding_at o 32;
      last = last_at o;
    }

-- octets are a session if that session, laid out, is they
unfoldable pub is_session : List ℕ → Bool
is_session o = is_laid o (session_laid (session_at o))

-- "octets that are no session" count as one never opened
unfoldable pub session_in : List ℕ → Session
session_in o = cond (is_session o) (session_at o) (never_opened holding_shape)

-- the voice of the session in octets that a host lends
abbrev pub session_voice : List ℕ → Voice
session_voice o = voice_for (session_in o).form

-- the voice of the holding
abbrev pub holding_voice : List ℕ → Voice
holding_voice o = voice_in (holding_in o)
