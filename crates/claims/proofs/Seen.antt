-- What is seen of an outcome, the answer and what was lent by its names, from what the contracts of the calls tell of it. Assumes nothing.
use Rattle.std.proofs.Common.{Result}
use Prim.Native.Nat.{ℕ}
use mathlib.Core.List.{List}
use mathlib.Core.Path.{◌≡◌, ap}
use denote.Ref.{Bor}
use Rattle.answers.specs.declared.Refusal.{Refusal}
use Rattle.session.specs.declared.Session.{Session}
use Rattle.session.specs.declared.Standing.{Standing}
use Rattle.landing.specs.Host.{PacketTold, packet_told, FrameTold, frame_told, CountTold, count_told, WriteTold, write_told}
use Rattle.landing.specs.Host.{HoldingTold, holding_told}
use Rattle.claims.specs.Call.{WithPlace}
use Rattle.claims.specs.Calls.Lent.{LentDst, LentOut, LentSession, LentHolding, LentSessionOut, LentLNBD, LentKindStartSize}
use Rattle.claims.specs.Calls.Lent.{LentCount, LentOutWritten, LentSessionLost, LentSessionOutWritten}
use Rattle.claims.specs.Calls.Lent.{LentSourceSequenceTimestampLBHeld, LentLost, LentWholeSession, LentWholeSessionOut}
use Rattle.claims.specs.Calls.Lent.{LentWholeStandingMarksRoom}

-- ---- octets lent under one name
abbrev pub dst-lent : List ℕ → LentDst
dst-lent o = record { dst = o }

abbrev pub out-lent : List ℕ → LentOut
out-lent o = record { out = o }

abbrev pub session-lent : List ℕ → LentSession
session-lent o = record { session = o }

abbrev pub holding-lent : List ℕ → LentHolding
holding-lent o = record { holding = o }

-- ---- a session that is lent, whole and in parts
abbrev pub whole-lent : Session → LentWholeSession
whole-lent s = record { session = s }

abbrev pub standing-in : Session → Standing
standing-in s =
    record {
      «open» = s.«open»;
      source = s.source;
      form = s.form;
      group_source = s.group.source;
      numbers = s.group.numbers;
      held = s.group.held;
      last = s.last;
    }

abbrev pub parts-lent : Session → LentWholeStandingMarksRoom
parts-lent s = record { standing = standing-in s; marks = s.group.marks; room = s.group.room }

-- ---- an answer alone, a reference alone, octets alone, and an answer with octets
abbrev pub alone : {A : Type 0} → A → A × Unit {0}
alone x = (x, tt)

abbrev pub reference : Bor (List ℕ) → (List ℕ × (ℕ × ℕ)) × Unit {0}
reference x = ((x.now, x.ref_ptr), tt)

abbrev pub only : {A X : Type 0} → (A → X) → A → Unit {0} × X
only lent o = (tt, lent o)

abbrev pub answer-with : {A X : Type 0} → (List ℕ → X) → A → List ℕ → A × X
answer-with lent x o = (x, lent o)

-- ---- a pouring: the session is lent whole, or as octets
abbrev pub poured : Result ℕ Refusal → List ℕ → Session → (Result ℕ Refusal) × LentWholeSessionOut
poured x out session = (x, record { session = session; out = out })

abbrev pub lent-poured : Result ℕ Refusal → List ℕ → List ℕ → (Result ℕ Refusal) × LentSessionOut
lent-poured x out session = (x, record { session = session; out = out })

-- ---- what a host is told, and the session beside it
abbrev pub packet-seen : PacketTold → ℕ × LentLNBD
packet-seen (packet_told x l n b d) = (x, record { l = l; n = n; b = b; d = d })

abbrev pub frame-seen : FrameTold → ℕ × LentKindStartSize
frame-seen (frame_told x t s z) = (x, record { kind = t; start = s; size = z })

abbrev pub count-seen : CountTold → ℕ × LentCount
count-seen (count_told x n) = (x, record { count = n })

abbrev pub write-seen : WriteTold → ℕ × LentOutWritten
write-seen (write_told x n out) = (x, record { out = out; written = n })

abbrev pub offer-seen : CountTold → List ℕ → ℕ × LentSessionLost
offer-seen (count_told x n) session = (x, record { session = session; lost = n })

abbrev pub pour-seen : WriteTold → List ℕ → ℕ × LentSessionOutWritten
pour-seen (write_told x n out) session = (x, record { session = session; out = out; written = n })

abbrev pub holding-seen : HoldingTold → ℕ × LentSourceSequenceTimestampLBHeld
holding-seen (holding_told x s q t l b h) = (x, record { source = s; sequence = q; timestamp = t; l = l; b = b; held = h })

abbrev pub lost-seen : CountTold → ℕ × LentLost
lost-seen (count_told x n) = (x, record { lost = n })

-- ---- the same with the place of a fault beside it
abbrev pub at_place : {T X : Type 0} → (T → ℕ × X) → T → ℕ → ℕ × WithPlace X
at_place seen t p = ((seen t).0, record { place = p; rest = (seen t).1 })

abbrev pub offer-seen-at : CountTold → ℕ → List ℕ → ℕ × WithPlace LentSessionLost
offer-seen-at t p session = at_place (λ (c : CountTold). offer-seen c session) t p

-- what is told of two offers is equal
pub offer-same : {x y m n p q : ℕ} {o w : List ℕ} → count_told x m ≡ count_told y n → p ≡ q → o ≡ w →
    offer-seen-at (count_told x m) p o ≡ offer-seen-at (count_told y n) q w
offer-same {q = q} {w = w} e f g = rw (f, g) (ap (λ (c : CountTold). offer-seen-at c q w) e)
