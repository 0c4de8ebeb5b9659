-- Document 01, "Payloads": the agreed form of a session, and its maxima.
use Rattle.std.specs.Prelude.{ℕ, Bool, cond, ◌&&◌, leb, Result, Ok, Err}
use Rattle.answers.specs.declared.Refusal.{Refusal}
use Rattle.answers.specs.declared.Refusal.TheVariants.{NotApplicable}
use Rattle.frame.specs.FrameTable.{FrameTable, rows_of}
use Rattle.frame.specs.Shape.{Voice, voice_with}
use Rattle.frame.specs.declared.Vocoder.{Vocoder}
use Rattle.frame.specs.declared.Vocoder.TheVariants.{Evrc}
use Rattle.form.specs.declared.Limits.{Limits}
use Rattle.form.specs.declared.Form.{Form}
use Rattle.form.specs.declared.Form.TheVariants.{Interleaved}

-- "The agreed maxima have named defaults, 5 and 10"
abbrev pub defaults : Limits
defaults = record { max_l = 5; max_b = 10 }

-- the interleaved form under these
abbrev pub default_form : Form
default_form = Interleaved defaults

-- "L at most 0 to 7, B at most 1 to 10"
abbrev pub in_range : Limits → Bool
in_range m = leb m.max_l 7 && leb 1 m.max_b && leb m.max_b 10

-- "A reader given maxima out of range answers 21 first."
abbrev pub opened : ℕ → ℕ → Result Limits Refusal
opened l b =
    cond (in_range (record { max_l = l; max_b = b })) (Ok (record { max_l = l; max_b = b }))
    (Err NotApplicable)

-- the vocoder that is spoken in a form: EVRC, as yet in each
abbrev pub vocoder_of : Form → Vocoder
vocoder_of form = Evrc

-- its frame table
abbrev pub table_of : Form → FrameTable
table_of form = rows_of (vocoder_of form)

-- and its voice in a session, which has a holding
abbrev pub voice_for : Form → Voice
voice_for form = voice_with (table_of form)
