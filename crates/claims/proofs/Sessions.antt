-- What holds of every session. Assumes nothing.
use Rattle.std.proofs.Common.{Ok, Err}
use Prim.Native.Nat.{ℕ, ◌+◌}
use mathlib.Core.Path.{◌≡◌, refl, sym, ap, ◌∙◌}
use mathlib.Core.List.{List, [], ◌∷◌}
use mathlib.Core.Bool.{Bool, true, false, cond}
use native.Mathlib.Omega.{arith}
use lib.ListN.{length, length-append}
use borrow.Author.Tests.{eq-eqb, ne_eqb}
use Rattle.octets.proofs.Logic.{apart}
use Rattle.frame.specs.FrameTable.{Frame}
use Rattle.frame.specs.Shape.{Shape}
use Rattle.answers.specs.Outputs.{octets, refused_output}
use Rattle.form.specs.declared.Form.{Form}
use Rattle.answers.specs.declared.Refusal.TheVariants.{NotApplicable}
use Rattle.payload.specs.Payload.{packet}
use Rattle.entries.specs.Entries.{entries_of}
use Rattle.numbers.specs.Place.{differ, at_distance, with_held, decided}
use Rattle.holding.specs.Group.{bundle_at, holds}
use Rattle.bundle.specs.Bundles.{same_bundles}
use Rattle.bundle.specs.LaidOut.{laid}
use Rattle.holding.proofs.GroupLaws.{nothing_is}
use Rattle.pouring.specs.Pouring.{in_time, poured}
use Rattle.session.specs.Session.{Arrival, Offered, vacant, never_opened, fresh, opened_for, is_open, refuse, accept}
use Rattle.session.specs.Session.{poured_before, group_before, begins, belongs, placed_by, placed, arrival, judged, received, offered}
use Rattle.session.proofs.Ends.{Ends, refuses, places, Seen, kept, took, seen, offer-ends, fresh-open, refused-keeps}
use Rattle.knowledge.proofs.PacketLaws.{packets-refl}
use Rattle.claims.specs.Sessions.{RefusedOfferChangesNothing, AnotherSourceIs10, AnotherSourcesWordsAreNotHeard, OpeningForgets}
use Rattle.claims.specs.Sessions.{EndingForgets, EndedTakesNothing, FirstPacketBeginsAlone, RepeatChangesNothing, lost_before}
use Rattle.claims.specs.Sessions.{LostFramesByFormula, body_octets, OctetCountByFormula}

-- ---- how an offer ends
pub refused_offer_changes_nothing : RefusedOfferChangesNothing
unfolding RefusedOfferChangesNothing
refused_offer_changes_nothing = refused-keeps

pub lost_frames_by_formula : LostFramesByFormula
unfolding LostFramesByFormula refuse accept
lost_frames_by_formula v s source q t p l n d fs r lost e = go (offered v s source q t p) (offer-ends v s source q t p) e
  where
    counted : (m : ℕ) (o : Offered) → Seen s m o → o.answer ≡ Ok lost → lost ≡ m
    counted m o (kept x f) h = let z : Err x ≡ Ok lost = sym (ap (λ (y : Offered). y.answer) f) ∙ h in apart (cc)
    counted m o (took u f) h = let z : Ok m ≡ Ok lost = sym (ap (λ (y : Offered). y.answer) f) ∙ h in cc

    go : (o : Offered) → Ends v s source q t p o → o.answer ≡ Ok lost → lost ≡ lost_before v.shape s (arrival v.shape q t l n fs).numbers
    go o (refuses x k f) h = let z : Err x ≡ Ok lost = sym (ap (λ (y : Offered). y.answer) f) ∙ h in apart (cc)
    go o (places a b l' n' d' fs' c x) h =
        let z : packet l n d fs ≡ packet l' n' d' fs' = sym r ∙ c in
        let y : arrival v.shape q t l' n' fs' ≡ arrival v.shape q t l n fs = cc in
        counted _ o (seen v.shape s (arrival v.shape q t l' n' fs') o x) h ∙ ap (λ (a : Arrival). lost_before v.shape s a.numbers) y

-- ---- another source
pub another_source_is_10 : AnotherSourceIs10
unfolding AnotherSourceIs10 offered received
another_source_is_10 v s o source q t n p = simp (o, ne_eqb source s.source n)

pub another_sources_words_are_not_heard : AnotherSourcesWordsAreNotHeard
unfolding AnotherSourcesWordsAreNotHeard offered received
another_sources_words_are_not_heard v s source q t n p p' = simp (ne_eqb source s.source n)

-- ---- opening and ending
pub opening_forgets : OpeningForgets
unfolding OpeningForgets opened_for
opening_forgets shape s t source form e = (simp e, simp e)

pub ended_takes_nothing : EndedTakesNothing
unfolding EndedTakesNothing offered is_open never_opened vacant
ended_takes_nothing v source q t p = refl

fresh-placed : (u : Shape) (source : ℕ) (form : Form) (a : Arrival) → placed u (fresh u source form) a ≡ begins u (fresh u source form) a 0
unfolding placed group_before poured_before decided placed_by fresh vacant
fresh-placed u source form a = simp (nothing_is u)

pub first_packet_begins_alone : FirstPacketBeginsAlone
unfolding FirstPacketBeginsAlone offered received judged fresh vacant
first_packet_begins_alone v source form e q t p l n d fs r = rw (fresh-open v source form e, eq-eqb source source refl, r) (fresh-placed v.shape source form (arrival v.shape q t l n fs))

-- ---- a repeat
pub repeat_changes_nothing : RepeatChangesNothing
unfolding RepeatChangesNothing offered received judged placed group_before decided with_held at_distance differ placed_by belongs arrival
repeat_changes_nothing v s o q t l n d fs x p r =
    let z : same_bundles (bundle_at v.shape s.group n) (laid v.shape fs) ≡ true = rw x.frames (packets-refl (laid v.shape fs)) in
    simp (o, eq-eqb s.source s.source refl, r, x.some, x.base, eq-eqb _ _ x.same_length, eq-eqb _ _ x.same_bundle, eq-eqb _ _ x.time, x.held, z)

-- ---- the octet count
pub entries-length : (fs : List Frame) → length (entries_of fs) ≡ length fs + body_octets fs
entries-length [] = refl
entries-length (f ∷ fs) = omega (arith, length-append f.body (entries_of fs), entries-length fs)

pub octet_count_by_formula : OctetCountByFormula
unfolding OctetCountByFormula poured
octet_count_by_formula v h w e = go (holds v h) e
  where
    go : (b : Bool) → cond b (octets (entries_of (in_time v h))) (refused_output NotApplicable) ≡ octets w → length w ≡ length (in_time v h) + body_octets (in_time v h)
    go true q = let z : entries_of (in_time v h) ≡ w = cc in sym (ap length z) ∙ entries-length (in_time v h)
    go false q = apart (cc)

-- ---- ending
pub ending_forgets : EndingForgets
unfolding EndingForgets
ending_forgets κs a x s p = p
