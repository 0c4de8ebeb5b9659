-- Read after write, and write after read, of entries and recordings, of any kind that keeps types. Assumes nothing.
use Prim.Native.Nat.{ℕ}
use mathlib.Core.Path.{◌≡◌, refl, ap}
use mathlib.Core.List.{List, ◌++◌}
use mathlib.Core.Bool.{Bool, true, false, cond}
use lib.Dec.{T}
use lib.ListN.{length, drop}
use lib.Seq.{drop-append_seam}
use Rattle.octets.proofs.Logic.{apart}
use Rattle.frame.specs.FrameTable.{Frame}
use Rattle.answers.specs.Outputs as outputs
use Rattle.answers.specs.declared.Refusal.TheVariants.{WrongOpening}
use Rattle.entries.specs.Kind.{Kind, keeps_types}
use Rattle.entries.specs.Entries.{frames, refused_entries, entries, allowed, entries_from, entries_in, entries_of, cleared}
use Rattle.entries.specs.declared.Rule.TheVariants.{Any}
use Rattle.entries.proofs.Clearing.{entries-cleared}
use Rattle.entries.proofs.Written.{entries-written, entries-listed, entries-ok}
use Rattle.recording.specs.Recording.{opens_with, recording_read, recording_made}
use Rattle.recording.proofs.Opening.{begins-self, begins-split}
use Rattle.recording.proofs.Answering.{recorded-frames}

-- the frames of entries, written as entries, are read as those frames
entries-back : (kind : Kind) → T (keeps_types kind) → (ok : Frame → Bool) (at : ℕ) (es : List ℕ) (fs : List Frame) → entries kind ok 0 0 es ≡ frames fs →
    entries kind ok at 0 (entries_of fs) ≡ frames fs
entries-back kind h ok at es fs e = entries-written kind h ok at fs (entries-listed kind ok es 0 fs e) (entries-ok kind ok es 0 fs e)

pub read-after-write : (kind : Kind) → T (keeps_types kind) → (es : List ℕ) (fs : List Frame) → entries_in kind Any es ≡ frames fs →
    (w : List ℕ) → recording_made kind es ≡ outputs.octets w → recording_read kind w ≡ frames fs
unfolding recording_made recording_read
read-after-write kind h es fs e w q =
    let x : kind.opening ++ entries_of fs ≡ w = cc (rw e at q) in
    rw (← x, begins-self kind (entries_of fs), drop-append_seam kind.opening (entries_of fs)) (entries-back kind h (allowed kind.table Any) (length kind.opening) es fs e)

pub write-after-read : (kind : Kind) → T (keeps_types kind) → (p : List ℕ) (fs : List Frame) → recording_read kind p ≡ frames fs →
    recording_made kind (entries_of fs) ≡ outputs.octets (kind.opening ++ cleared kind 0 (drop (length kind.opening) p))
unfolding recording_made
write-after-read kind h p fs e =
    let x = recorded-frames kind p fs e in
    rw (entries-back kind h (allowed kind.table Any) 0 (drop (length kind.opening) p) fs x)
    (ap (λ (l : List ℕ). outputs.octets (kind.opening ++ l)) (entries-cleared kind (allowed kind.table Any) 0 (drop (length kind.opening) p) fs x))

-- a recording that was read is its opening octets and the rest
pub whole : (kind : Kind) (p : List ℕ) (fs : List Frame) → recording_read kind p ≡ frames fs → kind.opening ++ drop (length kind.opening) p ≡ p
unfolding recording_read
whole kind p fs e = go (opens_with kind p) refl e
  where
    go : (b : Bool) → opens_with kind p ≡ b →
        cond b (entries_from kind Any (length kind.opening) (drop (length kind.opening) p)) (refused_entries WrongOpening) ≡ frames fs →
        kind.opening ++ drop (length kind.opening) p ≡ p
    go true q x = begins-split kind p q
    go false q x = apart (cc)
