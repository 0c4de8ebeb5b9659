-- The contracts can be met: what the definitions say is a build. Assumes nothing.
use Rattle.std.proofs.Common.{Result}
use Prim.Native.Nat.{ℕ}
use mathlib.Core.Path.{◌≡◌, refl}
use mathlib.Core.List.{List, []}
use denote.Ref.{Bor}
use denote.MutBor.{MutBor}
use contract.Lifetimes.{Lfts}
use Rattle.answers.specs.declared.Refusal.{Refusal}
use Rattle.answers.specs.Outputs.{Made, written_of, out_after}
use Rattle.entries.specs.Kind.{kind_of}
use Rattle.form.specs.Agreed.{vocoder_of, voice_for}
use Rattle.frame.specs.Shape.{holding_shape}
use Rattle.packet.specs.Writing.{packet_made, header_free_made}
use Rattle.session.specs.Session.{Offered, offered, pour_made, after_pour}
use Rattle.session.specs.declared.Session.{Session}
use Rattle.lending.specs.Calls.{offer_answer, offer_octets, pour_of, pour_octets}
use Rattle.lending.specs.Laid.{session_voice}
use Rattle.landing.specs.Host.{CountTold, count_told, count_after, WriteTold, write_told, write_after, fault_place, place_after}
use Rattle.claims.specs.Call.{Call, WithPlace, Passed, Returned, Ended, Outcome, Build}
use Rattle.claims.specs.Calls.Lent.{LentSessionLost, LentSessionOutWritten, LentWholeSessionOut}
use Rattle.claims.specs.Calls.Landing as landing
use Rattle.claims.specs.Calls.Packet as packet
use Rattle.claims.specs.Calls.Session as session
use Rattle.claims.specs.Idle.{Buildable}
use Rattle.claims.proofs.Seen.{count-seen, write-seen}

-- a reference with this content, wherever it lies
abbrev lies : {A : Type 0} → A → Bor A
lies x = record { ref_ptr = (0, 0); now = x }

-- the same of a reference that is lent to be written to
abbrev is-lent-so : {A : Type 0} → A → MutBor A
is-lent-so x = record { ref_ptr = (0, 0); ghost_name = 0; now = x }

-- what is passed so, and what comes of it, by name
exactly : {call : Call} (κs : Lfts call.lifetimes) (a : Passed call κs) (x : Returned call κs) (e : Ended call κs) → call.allows κs a x e →
    Outcome call (call.given κs a) (call.lent κs a) (call.answer κs x) (call.left κs e)
exactly κs a x e p = record {
  κs = κs;
  passed = a;
  returned = x;
  ended = e;
  allowed = p;
  is_given = refl;
  is_lent = refl;
  is_answer = refl;
  is_left = refl;
}

write-built : Build packet.write
write-built = record {
  run = λ g o. (written_of (made g) o.out, record { out = out_after (made g) o.out });
  meets = λ g o. exactly {call = packet.write} ([], ([], tt))
      (g.0, (g.1.0, (g.1.1.0, (g.1.1.1.0, (g.1.1.1.1.0, (lies g.1.1.1.1.1, (is-lent-so o.out, tt)))))))
      (written_of (made g) o.out)
      (g.0, (g.1.0, (g.1.1.0, (g.1.1.1.0, (g.1.1.1.1.0, (lies g.1.1.1.1.1, (is-lent-so (out_after (made g) o.out), tt)))))))
      (record { answer = refl; output = refl });
}
  where
    made : (packet.write).Given → Made
    made g = packet_made (kind_of (vocoder_of g.0)) g.0 g.1.0 g.1.1.0 g.1.1.1.0 g.1.1.1.1.0 g.1.1.1.1.1

header-free-built : Build packet.write_header_free
header-free-built = record {
  run = λ g o. (written_of (made g) o.out, record { out = out_after (made g) o.out });
  meets = λ g o. exactly {call = packet.write_header_free} ([], ([], tt))
      (g.0, (lies g.1, (is-lent-so o.out, tt)))
      (written_of (made g) o.out)
      (g.0, (lies g.1, (is-lent-so (out_after (made g) o.out), tt)))
      (record { answer = refl; output = refl });
}
  where
    made : (packet.write_header_free).Given → Made
    made g = header_free_made (kind_of (vocoder_of g.0)) g.0 g.1

offer-built : Build session.offer
offer-built = record {
  run = λ g l. ((made g l.session).answer, record { session = (made g l.session).session });
  meets = λ g l. exactly {call = session.offer} ([], ([], tt))
      (is-lent-so l.session, (g.0, (g.1.0, (g.1.1.0, (lies g.1.1.1, tt)))))
      (made g l.session).answer
      (is-lent-so (made g l.session).session, (g.0, (g.1.0, (g.1.1.0, (lies g.1.1.1, tt)))))
      refl;
}
  where
    made : (session.offer).Given → Session → Offered
    made g s = offered (voice_for s.form) s g.0 g.1.0 g.1.1.0 g.1.1.1

pour-built : Build session.pour
pour-built = record {
  run = λ g l. (written_of (made l.session) l.out, record { session = after l; out = out_after (made l.session) l.out });
  meets = λ g l. exactly {call = session.pour} ([], ([], tt))
      (is-lent-so l.session, (is-lent-so l.out, tt))
      (written_of (made l.session) l.out)
      (is-lent-so (after l), (is-lent-so (out_after (made l.session) l.out), tt))
      (record { answer = refl; output = refl }, refl);
}
  where
    made : Session → Made
    made s = pour_made (voice_for s.form) s

    after : LentWholeSessionOut → Session
    after l = after_pour holding_shape l.session (written_of (made l.session) l.out)

-- ---- what is told is the numbers that are told
told-count : (c : CountTold) → count_told (count-seen c).0 (count-seen c).1.count ≡ c
told-count (count_told x n) = refl

told-write : (w : WriteTold) → write_told (write-seen w).0 (write-seen w).1.written (write-seen w).1.out ≡ w
told-write (write_told x n out) = refl

host-offer-built : Build landing.lv_session_offer
host-offer-built = record {
  run = λ g o. (
    (count-seen (told g o)).0,
    record { place = place g o; rest = record { session = after g o; lost = (count-seen (told g o)).1.count } },
  );
  meets = λ g o. exactly {call = landing.lv_session_offer} ([], ([], ([], ([], tt))))
      (is-lent-so o.rest.session, (g.0, (g.1.0, (g.1.1.0, (lies g.1.1.1, (is-lent-so o.rest.lost, (is-lent-so o.place, tt)))))))
      (count-seen (told g o)).0
      (is-lent-so (after g o), (g.0, (g.1.0, (g.1.1.0, (lies g.1.1.1, (is-lent-so (count-seen (told g o)).1.count, (is-lent-so (place g o), tt)))))))
      (told-count (told g o), refl, refl);
}
  where
    taken : (landing.lv_session_offer).Given → WithPlace LentSessionLost → Result ℕ Refusal
    taken g o = offer_answer (session_voice o.rest.session) o.rest.session g.0 g.1.0 g.1.1.0 g.1.1.1

    told : (landing.lv_session_offer).Given → WithPlace LentSessionLost → CountTold
    told g o = count_after (taken g o) o.rest.lost

    place : (landing.lv_session_offer).Given → WithPlace LentSessionLost → ℕ
    place g o = place_after (fault_place (taken g o)) o.place

    after : (landing.lv_session_offer).Given → WithPlace LentSessionLost → List ℕ
    after g o = offer_octets (session_voice o.rest.session) o.rest.session g.0 g.1.0 g.1.1.0 g.1.1.1

host-pour-built : Build landing.lv_session_pour
host-pour-built = record {
  run = λ g o. ((write-seen (told o)).0, record { session = after o; out = (write-seen (told o)).1.out; written = (write-seen (told o)).1.written });
  meets = λ g o. exactly {call = landing.lv_session_pour} ([], ([], ([], tt)))
      (is-lent-so o.session, (is-lent-so o.out, (is-lent-so o.written, tt)))
      (write-seen (told o)).0
      (is-lent-so (after o), (is-lent-so (write-seen (told o)).1.out, (is-lent-so (write-seen (told o)).1.written, tt)))
      (told-write (told o), refl);
}
  where
    told : LentSessionOutWritten → WriteTold
    told o = write_after (pour_of (session_voice o.session) o.session) o.written o.out

    after : LentSessionOutWritten → List ℕ
    after o = pour_octets o.session (written_of (pour_of (session_voice o.session) o.session) o.out)

pub buildable : Buildable
buildable = record {
  writers = record { write = write-built; write_header_free = header-free-built };
  offer = offer-built;
  pour = pour-built;
  host_offer = host-offer-built;
  host_pour = host-pour-built;
}
