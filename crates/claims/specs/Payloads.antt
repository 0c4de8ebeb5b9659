-- Document 01, "Payloads": what holds of every payload, over any frame table.
use Rattle.std.specs.Prelude.{ℕ, ◌+◌, ◌*◌, ◌<◌, ◌≡◌, List, [], ◌∷◌, Err}
use Rattle.frame.specs.FrameTable.{FrameTable}
use Rattle.frame.specs.Places.{located_of, body_of}
use Rattle.form.specs.declared.Limits.{Limits}
use Rattle.form.specs.declared.Form.{Form}
use Rattle.form.specs.declared.Form.TheVariants.{Interleaved}
use Rattle.answers.specs.declared.Refusal.{Refusal}
use Rattle.payload.specs.Payload.{read_as}
use Rattle.payload.specs.Shown.{given_as}

-- "RR is .. ignored when read": whatever RR octet 0 has, the payload is read as with RR 0
unfoldable pub RRIgnored : Type 0
RRIgnored =
    (v : FrameTable) (m : Limits) (rr l n : ℕ) (es : List ℕ) → l < 8 → n < 8 →
    read_as v (Interleaved m) ((rr * 64 + l * 8 + n) ∷ es) ≡ read_as v (Interleaved m) ((l * 8 + n) ∷ es)

-- "A refusal's part is empty."
unfoldable pub RefusalsPartEmpty : Type 0
RefusalsPartEmpty =
    (v : FrameTable) (f : Form) (p : List ℕ) (k : ℕ) (r : Refusal) →
    located_of (given_as v f p) k ≡ Err r → body_of (given_as v f p) k ≡ []
