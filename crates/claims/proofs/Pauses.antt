-- What is lost before a group goes by the clock, and a recording is as long as the clock says. Assumes nothing.
use Prim.Native.Nat.{ℕ, ◌+◌, ◌-◌, ◌*◌}
use mathlib.Core.Path.{◌≡◌, sym, ap, ◌∙◌}
use mathlib.Core.List.{List, [], ◌∷◌, ◌++◌}
use native.Mathlib.Omega.{arith}
use lib.Dec.{T}
use lib.ListN.{length, replicate, length-append, length-replicate}
use Rattle.frame.specs.FrameTable.{Listed, AllListed}
use Rattle.frame.specs.Shape.{Voice, voice_with}
use Rattle.frame.proofs.PlacesLaws.{every_append}
use Rattle.entries.specs.Kind.{Kind, lists_erasure}
use Rattle.form.specs.Agreed.{voice_for}
use Rattle.numbers.specs.Bases.{minus}
use Rattle.numbers.specs.Place.{group_end, after_pause}
use Rattle.numbers.specs.declared.GroupNumbers.{GroupNumbers}
use Rattle.numbers.proofs.PlaceLaws.{clock-decided, frames-lost}
use Rattle.capture.specs.Run.{capture_vocoder, capture_kind, capture_form}
use Rattle.claims.specs.Demand3.{Writers, WrittenGroup}
use Rattle.claims.specs.Packets.{KindsPass}
use Rattle.claims.specs.Pauses.{ClockDecides, Spoken, end_of, InTurn, last_end, spoken_after, spoken_from, Each, SentAs, TalkIsRecorded, WrittenAs}
use Rattle.claims.specs.Pauses.{AsLongAsTheClock}
use Rattle.claims.proofs.CapturesRead.{silent, silent-listed, reads-entries}
use Rattle.claims.proofs.Demand3.{sent-so, t-source, t-numbers, t-frames}
use Rattle.claims.proofs.Joinings.{voices_have_room}
use Rattle.claims.proofs.PacketsBack.{kinds_pass}
use Rattle.claims.proofs.Talk.{talk_is_recorded}

-- ---- after a poured group
pub clock_decides : ClockDecides
clock_decides = record {
  alone = λ poured new other h k e.
      sym (clock-decided poured new h) ∙ ap (λ (t : ℕ). after_pause (minus 32 t (group_end poured))) e ∙ clock-decided poured other k;
  gap_without_pause = λ poured new h e. sym (frames-lost poured new h 0 (omega arith) (omega arith));
  pause_without_gap = λ poured new h k few e. sym (frames-lost poured new (omega arith) k few e);
}

-- ---- the frames that were spoken
module _ (kind : Kind) where
  abbrev v : Voice
  v = voice_with kind.table

  frames-listed : (g : Spoken) → SentAs v capture_form g → AllListed kind.table g.frames
  frames-listed g x = rw (← x.its_frames) x.sent.group.listed

  spoken-listed : T (lists_erasure kind) → (gs : List Spoken) → Each (SentAs v capture_form) gs → AllListed kind.table (spoken_after kind gs)
  spoken-listed z [] xs = tt
  spoken-listed z (g ∷ gs) xs =
      every_append (Listed kind.table) (replicate g.silence (silent kind)) (g.frames ++ spoken_after kind gs) (silent-listed kind z g.silence)
      (every_append (Listed kind.table) g.frames (spoken_after kind gs) (frames-listed g xs.0) (spoken-listed z gs xs.1))

  -- each group is as long as its numbers say
  many : (g : Spoken) → SentAs v capture_form g → length g.frames ≡ (g.numbers.l + 1) * g.numbers.b
  many g x = ap length (sym x.its_frames) ∙ x.sent.group.many ∙ ap (λ (i : GroupNumbers). (i.l + 1) * i.b) x.its_numbers

  -- and so are all of them, with the silences between
  as_long : (a : Spoken) (bs : List Spoken) → Each (SentAs v capture_form) bs → InTurn a bs → last_end a bs ≡ end_of a + 160 * length (spoken_after kind bs)
  as_long a [] xs t = omega arith
  as_long a (b ∷ bs) xs t =
      let i = as_long b bs xs.1 t.1 in
      let m = many b xs.0 in
      let p = length-append (replicate b.silence (silent kind)) (b.frames ++ spoken_after kind bs) in
      let q = length-append b.frames (spoken_after kind bs) in
      let r = length-replicate b.silence (silent kind) in
      omega (arith, i, m, p, q, r, t.0.in_time)

-- ---- groups that our writer wrote
module _ (writers : Writers) where
  written-sent : (g : Spoken) → WrittenAs writers g → SentAs (voice_for capture_form) capture_form g
  written-sent g x =
      let w : WrittenGroup writers = record {
        source = g.source;
        numbers = g.numbers;
        frames = g.frames;
        payload = g.payload;
        sequence_fits = x.sequence_fits;
        timestamp_fits = omega (arith, x.by_the_clock);
        written = x.written;
      } in
      record {
        sent = (sent-so writers w).sent capture_form x.admitted;
        its_source = t-source writers w capture_form x.admitted;
        its_numbers = t-numbers writers w capture_form x.admitted;
        its_frames = t-frames writers w capture_form x.admitted;
        its_payload = (sent-so writers w).its_payload capture_form x.admitted;
        by_the_clock = x.by_the_clock;
      }

  each-sent : (gs : List Spoken) → Each (WrittenAs writers) gs → Each (SentAs (voice_for capture_form) capture_form) gs
  each-sent [] xs = tt
  each-sent (g ∷ gs) xs = (written-sent g xs.0, each-sent gs xs.1)

-- ---- a talk of theirs
pub as_long_as_the_clock : AsLongAsTheClock
unfolding AsLongAsTheClock TalkIsRecorded KindsPass
as_long_as_the_clock writers a bs c talk =
    let ys = each-sent writers (a ∷ bs) talk.written in
    let t = talk.in_turn in
    let recorded = talk_is_recorded capture_kind (voices_have_room.of_sessions capture_form) a bs ys t c talk.heard in
    let after = spoken-listed capture_kind (kinds_pass capture_vocoder).erases bs ys.1 in
    let l = every_append (Listed capture_kind.table) a.frames (spoken_after capture_kind bs) (frames-listed capture_kind a ys.0) after in
    let m : 160 * length (spoken_from capture_kind a bs) ≡ last_end a bs - a.start =
    omega (arith, as_long capture_kind a bs ys.1 t, many capture_kind a ys.0, length-append a.frames (spoken_after capture_kind bs)) in
    record { read = rw recorded (reads-entries capture_kind (kinds_pass capture_vocoder).keeps (spoken_from capture_kind a bs) l); as_long = omega arith; whole = m }
