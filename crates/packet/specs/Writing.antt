-- Document 01, "Writing packets": what the writers make, of entries of any kind.
use Rattle.std.specs.Prelude.{ℕ, ◌+◌, ◌*◌, List, [], ◌∷◌, cond, ◌&&◌, eqb, leb, ltb, length}
use Rattle.form.specs.Agreed.{in_range}
use Rattle.answers.specs.Outputs.{Made, octets, refused_output}
use Rattle.form.specs.declared.Limits.{Limits}
use Rattle.form.specs.declared.Form.{Form}
use Rattle.form.specs.declared.Form.TheVariants.{HeaderFree, Interleaved}
use Rattle.answers.specs.declared.Refusal.TheVariants.{IndexPastLength, LengthPastMaximum, BundleOutOfRange, NotSendable, NotApplicable}
use Rattle.entries.specs.Kind.{Kind}
use Rattle.entries.specs.Entries.{EntriesRead, frames, entries_in}
use Rattle.entries.specs.Entries as entries
use Rattle.entries.specs.declared.Rule.TheVariants as rule
use Rattle.packet.specs.Packet.{packet_frames, packed}

-- "the whole input is walked, each entry for 5, 19, 17; then 17 if the number of entries is not (L + 1) x B"
unfoldable pub packet_of_group : ℕ → ℕ → ℕ → ℕ → EntriesRead → Made
packet_of_group l n b d (entries.refused_entries r) = refused_output r
packet_of_group l n b d (frames fs) =
    cond (eqb (length fs) ((l + 1) * b)) (octets (packed l n d (packet_frames l n b fs))) (refused_output NotSendable)

-- "2, 3, 6 (B is 0 or too great)", under maxima in range
unfoldable pub packet_within : Kind → Limits → ℕ → ℕ → ℕ → ℕ → List ℕ → Made
packet_within kind m l n b d es =
    cond (ltb l n) (refused_output IndexPastLength)
    (cond (ltb m.max_l l) (refused_output LengthPastMaximum)
    (cond (leb 1 b && leb b m.max_b) (packet_of_group l n b d (entries_in kind rule.Sendable es)) (refused_output BundleOutOfRange)))

-- "Output: packet N. Checks: 21 (form not interleaved, maxima out of range, or D above 1)"
unfoldable pub packet_made : Kind → Form → ℕ → ℕ → ℕ → ℕ → List ℕ → Made
packet_made kind HeaderFree l n b d es = refused_output NotApplicable
packet_made kind (Interleaved m) l n b d es =
    cond (in_range m && leb d 1) (packet_within kind m l n b d es) (refused_output NotApplicable)

-- "then 17 if there isn't exactly one entry"
unfoldable pub one_body : EntriesRead → Made
one_body (entries.refused_entries r) = refused_output r
one_body (frames []) = refused_output NotSendable
one_body (frames (f ∷ [])) = octets f.body
one_body (frames (f ∷ g ∷ fs)) = refused_output NotSendable

-- "The header-free writer takes one entry: 21 (form not header-free), the same walk with 17 for Blank too"
unfoldable pub header_free_made : Kind → Form → List ℕ → Made
header_free_made kind (Interleaved m) es = refused_output NotApplicable
header_free_made kind HeaderFree es = one_body (entries_in kind rule.HeaderFree es)
