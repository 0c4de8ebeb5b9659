-- What holds of every capture. Assumes nothing.
use Rattle.std.proofs.Common.{Ok}
use Prim.Native.Nat.{ℕ}
use mathlib.Core.Path.{◌≡◌, refl, ap, ap₂, ◌∙◌}
use mathlib.Core.List.{List, [], ◌∷◌, ◌++◌, map, append-nil}
use mathlib.Core.Bool.{Bool, true, false, cond}
use lib.Dec.{eqb}
use lib.ListN.{replicate}
use borrow.Author.Tests.{eq-eqb}
use Rattle.frame.specs.Shape.{Voice, holding_shape, voice_with}
use Rattle.entries.specs.Kind.{Kind}
use Rattle.frame.specs.Places.{up_to}
use Rattle.form.specs.declared.Form.{Form}
use Rattle.pouring.specs.Pouring.{in_time}
use Rattle.session.specs.Session.{never_opened, fresh, vacant, form_right, is_open, refuse, received, offered, pour_made}
use Rattle.session.specs.declared.Session.{Session}
use Rattle.answers.specs.declared.Refusal.TheVariants.{AnotherSource, NotApplicable}
use Rattle.holding.proofs.GroupLaws.{nothing_is}
use Rattle.capture.specs.Capture.{Heard, packets_in}
use Rattle.capture.specs.Run.{capture_kind, Step, readied, and_then, capture_form, first_session, offered_to, taken_of, offering, poured_of, pouring, is_twelve, step_of}
use Rattle.capture.specs.Run.{run_of, whole_run, entries_recorded, capture_recording}
use Rattle.capture.proofs.RunLaws.{table_fits, table-erases}
use Rattle.capture.proofs.Largest.{step-source}
use Rattle.capture.proofs.RunLaws.{largest-is}
use Rattle.capture.proofs.CaptureLaws.{good-means}
use Rattle.claims.specs.Offering.{Sent, sent_numbers, FreshIsReady, offer_one, offer_all, AllAccepted, Within, Delivered, OffersDeliver}
use Rattle.claims.specs.Joinings.{HasRoom}
use Rattle.claims.specs.Sessions.{lost_before}
use Rattle.claims.specs.Captures.{heard_of, GroupIsRecorded, from_source, FirstSourceAlone, OthersAreNotHeard, NoPacketGivesOpening}
use Rattle.claims.specs.Captures.{NothingIsLarger, CaptureExactlyIf}
use Rattle.claims.proofs.Offering.{fresh_is_ready, offers_deliver}

-- ---- what a step leaves: the session after it, and the octets that it records
pub record Leaves (s : Session) (w : List ℕ) (a : Step) : Type 0 where
  pub session : a.session ≡ s
  pub octets : a.octets ≡ w

-- two steps that leave the same session and record the same octets
record Alike (a b : Step) : Type 0 where
  session : a.session ≡ b.session
  octets : a.octets ≡ b.octets

-- where it is not 12, the packet is offered once
offered-once : (kind : Kind) (s : Session) (h : Heard) → is_twelve (offered_to kind.table s h).answer ≡ false → Alike (step_of kind s h) (offering kind s h)
unfolding step_of readied and_then
offered-once kind s h e = rw e (record { session = refl; octets = refl })

once : (kind : Kind) (s t : Session) (w : List ℕ) (h : Heard) → is_twelve (offered_to kind.table s h).answer ≡ false → Leaves t w (offering kind s h) → Leaves t w (step_of kind s h)
once kind s t w h e x = let a = offered-once kind s h e in record { session = a.session ∙ x.session; octets = a.octets ∙ x.octets }

-- ---- another source leaves no trace
other-offer : (kind : Kind) (s : Session) (h : Heard) → eqb h.source s.source ≡ false →
    (is_twelve (offered_to kind.table s h).answer ≡ false) × Leaves s [] (offering kind s h)
unfolding offering taken_of is_twelve offered_to offered received refuse
other-offer kind s h e = rw e (go (is_open (voice_with kind.table) s))
  where
    go :
        (b : Bool) →
        let o = cond b (refuse s AnotherSource) (refuse s NotApplicable) in
        (is_twelve o.answer ≡ false) × Leaves s [] (taken_of kind s o.session o.answer)
    go true = (refl, record { session = refl; octets = refl })
    go false = (refl, record { session = refl; octets = refl })

other_step : (kind : Kind) (s : Session) (h : Heard) → eqb h.source s.source ≡ false → Leaves s [] (step_of kind s h)
other_step kind s h e = let x = other-offer kind s h e in once kind s s [] h x.0 x.1

from-source : (kind : Kind) (s : Session) (x : ℕ) → s.source ≡ x → (hs : List Heard) → Alike (run_of kind s hs) (run_of kind s (from_source x hs))
unfolding run_of and_then
from-source kind s x q [] = record { session = refl; octets = refl }
from-source kind s x q (h ∷ hs) = go (λ (t : Session) (e : t.source ≡ x). from-source kind t x e hs) (eqb h.source x) refl
  where
    go :
        ((t : Session) → t.source ≡ x → Alike (run_of kind t hs) (run_of kind t (from_source x hs))) →
        (b : Bool) →
        eqb h.source x ≡ b →
        Alike (run_of kind s (h ∷ hs)) (run_of kind s (cond b (h ∷ from_source x hs) (from_source x hs)))
    go again true e =
        let a = again (step_of kind s h).session (step-source kind s h ∙ q) in
        record { session = a.session; octets = ap (λ (o : List ℕ). (step_of kind s h).octets ++ o) a.octets }
    go again false e =
        let d = other_step kind s h (ap (eqb h.source) q ∙ e) in
        let a = again s q in
        record { session = rw d.session a.session; octets = rw (d.octets, d.session) a.octets }

pub first_source_alone : FirstSourceAlone
unfolding FirstSourceAlone entries_recorded whole_run and_then first_session fresh vacant
first_source_alone kind h hs =
    let s = fresh holding_shape h.source capture_form in
    let e : eqb h.source h.source ≡ true = eq-eqb h.source h.source refl in
    let f : from_source h.source (h ∷ hs) ≡ h ∷ from_source h.source hs = simp e in
    let a = from-source kind s h.source refl (h ∷ hs) in
    ap₂ (λ (o : List ℕ) (t : Session). o ++ (pouring kind.table t).octets) a.octets a.session
    ∙ ap (λ (ks : List Heard). (and_then (run_of kind s ks) (pouring kind.table)).octets) f

pub others_are_not_heard : OthersAreNotHeard
unfolding OthersAreNotHeard FirstSourceAlone
others_are_not_heard kind h hs e = first_source_alone kind h hs ∙ ap (λ (ks : List Heard). entries_recorded kind (h ∷ ks)) e

-- ---- no packet, and the most
pub no_packet_gives_opening : NoPacketGivesOpening
unfolding NoPacketGivesOpening capture_recording entries_recorded whole_run packets_in up_to run_of and_then first_session pouring poured_of pour_made is_open never_opened vacant
no_packet_gives_opening kind c e = rw e (append-nil kind.opening)

pub nothing_is_larger : NothingIsLarger
unfolding NothingIsLarger
nothing_is_larger c g = largest-is capture_kind table_fits table-erases c refl g

-- ---- demand 3 through a capture
-- a packet that is accepted is taken, and what was lost before it is recorded
accepted-offer : (kind : Kind) (s : Session) (h : Heard) (lost : ℕ) → (offered_to kind.table s h).answer ≡ Ok lost →
    Leaves (offered_to kind.table s h).session (replicate lost kind.erasure) (offering kind s h)
unfolding offering taken_of
accepted-offer kind s h lost e = rw e (record { session = refl; octets = refl })

accepted-step : (kind : Kind) (s : Session) (h : Heard) (lost : ℕ) → (offered_to kind.table s h).answer ≡ Ok lost →
    Leaves (offered_to kind.table s h).session (replicate lost kind.erasure) (step_of kind s h)
unfolding is_twelve
accepted-step kind s h lost e = once kind s (offered_to kind.table s h).session (replicate lost kind.erasure) h (ap is_twelve e) (accepted-offer kind s h lost e)

-- one that is answered 12 pours the held group first
poured-step : (kind : Kind) (s t : Session) (w : List ℕ) (h : Heard) (lost : ℕ) → is_twelve (offered_to kind.table s h).answer ≡ true → Leaves t w (pouring kind.table s) →
    (offered_to kind.table t h).answer ≡ Ok lost → Leaves (offered_to kind.table t h).session (w ++ replicate lost kind.erasure) (step_of kind s h)
unfolding step_of readied and_then
poured-step kind s t w h lost e p a =
    let x = accepted-offer kind t h lost a in
    rw e (rw (p.session, p.octets) (record { session = x.session; octets = ap (λ (o : List ℕ). w ++ o) x.octets }))

-- the packets behind the first
all-taken : (kind : Kind) {form : Form} (g : Sent (voice_with kind.table) form) (s : Session) (ns : List ℕ) → AllAccepted s g 0 ns →
    Leaves (offer_all s g ns) [] (run_of kind s (map (heard_of g) ns))
unfolding run_of and_then offer_all AllAccepted offered_to
all-taken kind g s [] x = record { session = refl; octets = refl }
all-taken kind g s (n ∷ ns) x =
    let d = accepted-step kind s (heard_of g n) 0 x.0 in
    let i = all-taken kind g (offer_one s g n).session ns x.1 in
    record { session = rw d.session i.session; octets = rw (d.octets, d.session) i.octets }

-- the packets of a group, where the first one's step is known
from_first : (kind : Kind) {form : Form} (g : Sent (voice_with kind.table) form) (s t : Session) (w : List ℕ) (lost n : ℕ) (ns : List ℕ) → AllAccepted t g lost (n ∷ ns) →
    Leaves (offer_one t g n).session w (step_of kind s (heard_of g n)) → Leaves (offer_all t g (n ∷ ns)) w (run_of kind s (map (heard_of g) (n ∷ ns)))
unfolding run_of and_then offer_all AllAccepted
from_first kind g s t w lost n ns x d =
    let i = all-taken kind g (offer_one t g n).session ns x.1 in
    record { session = rw d.session i.session; octets = rw (d.octets, d.session) (ap (λ (o : List ℕ). w ++ o) i.octets ∙ append-nil w) }

-- a group that a session takes, and one that it takes after it has poured the group that it held
group-taken : (kind : Kind) {form : Form} (g : Sent (voice_with kind.table) form) (s : Session) (lost n : ℕ) (ns : List ℕ) → AllAccepted s g lost (n ∷ ns) →
    Leaves (offer_all s g (n ∷ ns)) (replicate lost kind.erasure) (run_of kind s (map (heard_of g) (n ∷ ns)))
unfolding AllAccepted offered_to
group-taken kind g s lost n ns x = from_first kind g s s (replicate lost kind.erasure) lost n ns x (accepted-step kind s (heard_of g n) lost x.0)

pub group-after : (kind : Kind) {form : Form} (g : Sent (voice_with kind.table) form) (s t : Session) (w : List ℕ) (lost n : ℕ) (ns : List ℕ) → is_twelve (offer_one s g n).answer ≡ true →
    Leaves t w (pouring kind.table s) → AllAccepted t g lost (n ∷ ns) →
    Leaves (offer_all t g (n ∷ ns)) (w ++ replicate lost kind.erasure) (run_of kind s (map (heard_of g) (n ∷ ns)))
unfolding AllAccepted offered_to
group-after kind g s t w lost n ns e p x = from_first kind g s t (w ++ replicate lost kind.erasure) lost n ns x (poured-step kind s t w (heard_of g n) lost e p x.0)

pub accepted-as : {v : Voice} {form : Form} (g : Sent v form) (s : Session) (m k : ℕ) (ns : List ℕ) → m ≡ k → AllAccepted s g m ns → AllAccepted s g k ns
accepted-as g s m k ns e x = rw (← e) x

-- the first group of a capture: the session takes it, and nothing is recorded before it is poured
pub fresh-taken : (kind : Kind) → HasRoom (voice_with kind.table) → (g : Sent (voice_with kind.table) capture_form) (n : ℕ) (ns : List ℕ) → Within g.group.l (n ∷ ns) →
    let s = fresh holding_shape g.group.source capture_form in Leaves (offer_all s g (n ∷ ns)) [] (run_of kind s (map (heard_of g) (n ∷ ns))) × Delivered s g n ns
unfolding FreshIsReady OffersDeliver capture_form form_right fresh vacant
fresh-taken kind r g n ns h =
    let s = fresh holding_shape g.group.source capture_form in
    let d = offers_deliver (voice_with kind.table) r capture_form g s (fresh_is_ready _ capture_form refl _ _) n ns h in
    let z : lost_before holding_shape s (sent_numbers g.group) ≡ 0 = simp (nothing_is holding_shape) in
    let x = accepted-as g s (lost_before holding_shape s (sent_numbers g.group)) 0 (n ∷ ns) z d.accepted in
    (group-taken kind g s 0 n ns x, d)

pub group_is_recorded : GroupIsRecorded
unfolding GroupIsRecorded capture_recording entries_recorded whole_run and_then first_session pouring poured_of
group_is_recorded kind r g n ns h c e =
    let y = fresh-taken kind r g n ns h in
    record {
      frames = in_time (voice_with kind.table) (offer_all (fresh holding_shape g.group.source capture_form) g (n ∷ ns)).group;
      behind_opening = rw (e, y.0.octets, y.0.session, y.1.poured);
      places = y.1.places;
    }

pub capture_exactly_if : CaptureExactlyIf
unfolding CaptureExactlyIf
capture_exactly_if c = good-means c
