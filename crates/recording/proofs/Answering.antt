-- What the readers of a recording answer, and its writer. Assumes nothing.
use Rattle.std.proofs.Common.{Ok, Err, is_err}
use Prim.Native.Nat.{ℕ, ◌+◌, ◌≤◌, ◌<◌}
use mathlib.Core.Path.{◌≡◌, refl, sym, ap, ◌∙◌}
use mathlib.Core.List.{List, ◌++◌}
use mathlib.Core.Bool.{Bool, true, false, cond}
use native.Mathlib.Omega.{arith}
use lib.ListN.{length, take, drop, get_or, length-append}
use Rattle.octets.proofs.Logic.{apart}
use Rattle.frame.specs.FrameTable.{Frame, size}
use Rattle.frame.specs.Places.{taken, frame_at, located_of, lies_at}
use Rattle.answers.specs.Outputs as outputs
use Rattle.answers.specs.declared.Refusal.{Refusal}
use Rattle.answers.specs.declared.Refusal.TheVariants.{NotApplicable, WrongOpening}
use Rattle.answers.proofs.OutputsLaws.{writes-refusal}
use Rattle.frame.proofs.PlacesLaws.{LaidIn, asked-refused, asked-past, asked}
use Rattle.entries.specs.Kind.{Kind}
use Rattle.entries.specs.Entries.{EntriesRead, frames, refused_entries, allowed, entries_from, entries_in, frames_in, cleared}
use Rattle.entries.specs.Counting.{counted_of}
use Rattle.entries.specs.declared.Rule.TheVariants.{Any}
use Rattle.entries.proofs.EntriesLaws.{entry_of, entries-laid}
use Rattle.entries.proofs.Clearing.{entries-cleared, length-cleared, read-any}
use Rattle.recording.specs.Recording.{opens_with, recording_read, recording_made}
use Rattle.recording.specs.Shown.{given_of, given_in}

-- ---- read
module _ (kind : Kind) (p : List ℕ) where
  pub opened : opens_with kind p ≡ true → counted_of (entries_from kind Any (length kind.opening) (drop (length kind.opening) p)) ≡ counted_of (recording_read kind p)
  unfolding recording_read
  opened e = rw e

  pub not_opened : opens_with kind p ≡ false → Err WrongOpening ≡ counted_of (recording_read kind p)
  unfolding recording_read counted_of
  not_opened e = rw e

  recorded-from : (fs : List Frame) → recording_read kind p ≡ frames fs → entries_from kind Any (length kind.opening) (drop (length kind.opening) p) ≡ frames fs
  unfolding recording_read
  recorded-from fs e = go (opens_with kind p) (entries_from kind Any (length kind.opening) (drop (length kind.opening) p)) e
    where
      go : (b : Bool) (w : EntriesRead) → cond b w (refused_entries WrongOpening) ≡ frames fs → w ≡ frames fs
      go true w x = x
      go false w x = apart (cc)

  pub recorded-frames : (fs : List Frame) → recording_read kind p ≡ frames fs → entries_in kind Any (drop (length kind.opening) p) ≡ frames fs
  recorded-frames fs e = read-any kind Any (length kind.opening) (drop (length kind.opening) p) fs (recorded-from fs e)

-- ---- frame k is asked for
pub show-refused : (h : ℕ) (w : EntriesRead) (k : ℕ) (r : Refusal) → Err r ≡ counted_of w → Err r ≡ located_of (given_of h w) k
unfolding counted_of given_of
show-refused h (refused_entries f) k r e = let q : r ≡ f = cc in ap Err q ∙ asked-refused f k
show-refused h (frames fs) k r e = apart (cc)

pub show-past : (h : ℕ) (w : EntriesRead) (k n : ℕ) → Ok n ≡ counted_of w → n ≤ k → Err NotApplicable ≡ located_of (given_of h w) k
unfolding counted_of given_of
show-past h (refused_entries f) k n e q = apart (cc)
show-past h (frames fs) k n e q = let m : n ≡ length fs = cc in asked-past h 1 fs k (omega arith)

-- frame k is there: its entry stands at a place, which the search finds
pub record There (kind : Kind) (p : List ℕ) (k : ℕ) : Type 0 where
  pub few : k < length (frames_in (entries_in kind Any (drop (length kind.opening) p)))
  pub here : length kind.opening + taken 1 (take k (frames_in (entries_in kind Any (drop (length kind.opening) p)))) < length p
  pub place :
      (at : ℕ) →
      at ≡ length kind.opening + taken 1 (take k (frames_in (entries_in kind Any (drop (length kind.opening) p)))) →
      lies_at (kind.type_of (get_or p at 0)) (at + 1) (size kind.table (kind.type_of (get_or p at 0))) ≡ located_of (given_in kind p) k

pub there : (kind : Kind) (p : List ℕ) (k n : ℕ) → Ok n ≡ counted_of (recording_read kind p) → k < n → There kind p k
unfolding counted_of given_of given_in frames_in
there kind p k n q h = go (recording_read kind p) refl q
  where
    go : (w : EntriesRead) → recording_read kind p ≡ w → Ok n ≡ counted_of w → There kind p k
    go (refused_entries f) e x = apart (cc)
    go (frames fs) e x =
        let m : n ≡ length fs = cc in
        let h' : k < length fs = omega arith in
        let is : entries_in kind Any (drop (length kind.opening) p) ≡ frames fs = recorded-frames kind p fs e in
        let i = entry_of kind (allowed kind.table Any) p (length kind.opening) fs k (recorded-from kind p fs e) h' in
        let same : frames_in (entries_in kind Any (drop (length kind.opening) p)) ≡ fs = ap frames_in is in
        record {
          few = rw same h';
          here = rw same i.here;
          place = λ at a.
              let j : at ≡ length kind.opening + taken 1 (take k fs) = a ∙ ap (λ (l : List Frame). length kind.opening + taken 1 (take k l)) same in
              let b : at + 1 ≡ length kind.opening + taken 1 (take k fs) + 1 = omega arith in
              let t : kind.type_of (get_or p at 0) ≡ (frame_at fs k).type = ap (λ (m : ℕ). kind.type_of (get_or p m 0)) j ∙ sym i.type in
              let s : size kind.table (kind.type_of (get_or p at 0)) ≡ length (frame_at fs k).body = ap (λ (m : ℕ). size kind.table (kind.type_of (get_or p m 0))) j ∙ sym i.octets in
              rw e (cc (t, b, s, asked (length kind.opening) 1 fs k h'));
        }

-- what a recording gives lies in it
pub laid_in : (kind : Kind) (p : List ℕ) → LaidIn p (given_in kind p)
unfolding given_of given_in
laid_in kind p = go (recording_read kind p) refl
  where
    go : (w : EntriesRead) → recording_read kind p ≡ w → LaidIn p (given_of (length kind.opening) w)
    go (refused_entries f) e = tt
    go (frames fs) e = entries-laid kind (allowed kind.table Any) p (length kind.opening) fs (recorded-from kind p fs e)

-- ---- write
pub made-refused : (kind : Kind) (es : List ℕ) (r : Refusal) → Err r ≡ counted_of (entries_in kind Any es) → recording_made kind es ≡ outputs.refused_output r
unfolding recording_made counted_of
made-refused kind es r e = go (entries_in kind Any es) refl e
  where
    go : (w : EntriesRead) → entries_in kind Any es ≡ w → Err r ≡ counted_of w → recording_made kind es ≡ outputs.refused_output r
    go (refused_entries f) q x = let y : f ≡ r = cc in rw (q, y)
    go (frames fs) q x = apart (cc)

-- a refusal of the walk is the answer, wherever it is handed on, and nothing is written
module _ (kind : Kind) (es out : List ℕ) (h : is_err (counted_of (entries_from kind Any 0 es)) ≡ true) where
  refused-whole : outputs.Writes (recording_made kind es) out (counted_of (entries_from kind Any 0 es)) out
  unfolding counted_of
  refused-whole = go (entries_from kind Any 0 es) refl h
    where
      go : (w : EntriesRead) → entries_from kind Any 0 es ≡ w → is_err (counted_of w) ≡ true → outputs.Writes (recording_made kind es) out (counted_of w) out
      go (refused_entries f) q x = writes-refusal _ out f (made-refused kind es f (rw q refl))
      go (frames fs) q x = apart (cc)

  pub refused_answer : outputs.written_of (recording_made kind es) out ≡ counted_of (entries_from kind Any 0 es)
  refused_answer = sym refused-whole.answer

  pub refused_rest : outputs.out_after (recording_made kind es) out ≡ out
  refused_rest = sym refused-whole.output

pub made-frames : (kind : Kind) (es : List ℕ) (n : ℕ) → Ok n ≡ counted_of (entries_in kind Any es) → recording_made kind es ≡ outputs.octets (kind.opening ++ cleared kind 0 es)
unfolding recording_made counted_of
made-frames kind es n e = go (entries_in kind Any es) refl e
  where
    go : (w : EntriesRead) → entries_in kind Any es ≡ w → Ok n ≡ counted_of w → recording_made kind es ≡ outputs.octets (kind.opening ++ cleared kind 0 es)
    go (refused_entries f) q x = apart (cc)
    go (frames fs) q x = rw q (ap (λ (l : List ℕ). outputs.octets (kind.opening ++ l)) (entries-cleared kind (allowed kind.table Any) 0 es fs q))

pub made-length : (kind : Kind) (es : List ℕ) → length (kind.opening ++ cleared kind 0 es) ≡ length kind.opening + length es
made-length kind es = length-append kind.opening (cleared kind 0 es) ∙ ap (λ (n : ℕ). length kind.opening + n) (length-cleared kind 0 es)
