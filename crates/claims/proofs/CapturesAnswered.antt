-- What the packets of a capture are answered. Assumes nothing.
use Rattle.std.proofs.Common.{Result, Ok, Err}
use Prim.Native.Nat.{ℕ}
use mathlib.Core.Path.{◌≡◌, refl, sym, ap, ◌∙◌}
use mathlib.Core.List.{List, ◌++◌}
use mathlib.Core.Bool.{Bool, true, false, cond}
use lib.ListN.{length, replicate, get_or}
use lib.Seq.{take-length}
use Rattle.answers.specs.declared.Refusal.{Refusal}
use Rattle.octets.proofs.Logic.{apart}
use Rattle.answers.specs.declared.Refusal.TheVariants.{NotApplicable}
use Rattle.capture.specs.Capture.{Heard, packets_in, good}
use Rattle.capture.specs.Run.{and_then, first_session, lost_in, pouring, is_twelve, readied, run_of, whole_run, entries_recorded, packet_answered, answer_of}
use Rattle.capture.specs.Run.{of_good}
use Rattle.capture.specs.declared.CaptureError.TheVariants.{BadCapture}
use Rattle.capture.proofs.Answering.{step-octets, length-answers, run-answered, run-recorded, run-never-twelve, whole-answers}
use Rattle.capture.proofs.Answering.{packet-is, past-answered}
use Rattle.claims.specs.Captures.{run_before, EachPacketAnswered, AnsweredByItsStep, RecordedByItsAnswers, TwelveIsNeverTold, NoPacketAnswers21}
use Rattle.claims.specs.Captures.{BadCaptureIsTold}

pub each_packet_answered : EachPacketAnswered
unfolding EachPacketAnswered
each_packet_answered kind hs = ap length (whole-answers kind hs) ∙ length-answers kind (first_session hs) hs

pub answered_by_its_step : AnsweredByItsStep
unfolding AnsweredByItsStep
answered_by_its_step kind hs none i h = packet-is kind hs i ∙ run-answered kind (first_session hs) hs i none (Err NotApplicable) h

pub recorded_by_its_answers : RecordedByItsAnswers
unfolding entries_recorded whole_run and_then AnsweredByItsStep
recorded_by_its_answers =
    record {
      each = λ kind hs none i h.
          let a = run_before kind hs i in
          let g = get_or hs i none in
          run-recorded kind (first_session hs) hs i none h
          ∙ ap (λ (w : List ℕ). a.octets ++ w) (step-octets kind a.session g)
          ∙ ap (λ (t : Result ℕ Refusal). a.octets ++ ((readied kind a.session g).octets ++ replicate (lost_in t) kind.erasure)) (sym (answered_by_its_step kind hs none i h));
      whole = λ kind hs. ap (λ (ks : List Heard). (and_then (run_of kind (first_session hs) ks) (pouring kind.table)).octets) (sym (take-length hs));
    }

pub twelve_is_never_told : TwelveIsNeverTold
unfolding TwelveIsNeverTold is_twelve
twelve_is_never_told kind hs i = ap is_twelve (packet-is kind hs i) ∙ run-never-twelve kind (first_session hs) hs i (Err NotApplicable) refl

pub no_packet_answers_21 : NoPacketAnswers21
unfolding NoPacketAnswers21
no_packet_answers_21 = past-answered

pub bad_capture_is_told : BadCaptureIsTold
unfolding BadCaptureIsTold answer_of
bad_capture_is_told kind c i = go (good c)
  where
    never-bad : (t : Result ℕ Refusal) → of_good t ≡ Err BadCapture → true ≡ false
    never-bad (Ok n) q = apart (cc)
    never-bad (Err r) q = apart (cc)

    go : (b : Bool) →
        let a = cond b (of_good (packet_answered kind (packets_in c) i)) (Err BadCapture) in
        (b ≡ false → a ≡ Err BadCapture) × (a ≡ Err BadCapture → b ≡ false)
    go true = (λ q. apart (cc), never-bad (packet_answered kind (packets_in c) i))
    go false = (λ q. refl, λ q. refl)
