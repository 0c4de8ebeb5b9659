-- No idle build meets the contracts. Assumes nothing.
use Rattle.std.proofs.Common.{Result, Ok, Err}
use Prim.Native.Nat.{ℕ, zero, suc, ◌+◌, ◌-◌, ◌*◌, ◌≤◌, ◌<◌}
use mathlib.Core.Path.{◌≡◌, refl, sym, ap, ap₂, subst, ◌∙◌}
use mathlib.Core.List.{List, [], ◌∷◌}
use mathlib.Core.Bool.{Bool, true, false, cond, ◌||◌}
use native.Mathlib.Omega.{arith}
use lib.Dec.{eqb}
use lib.ListN.{length, take, drop, get_or, replicate, length-replicate}
use lib.Seq.{take_at, drop_at}
use borrow.Author.Tests.{eq-eqb, ne_eqb}
use Rattle.answers.specs.declared.Refusal.{Refusal}
use Rattle.octets.proofs.Logic.{apart}
use Rattle.answers.specs.Outputs.{octets, refused_output}
use Rattle.answers.specs.declared.Refusal.TheVariants.{NotApplicable}
use Rattle.entries.specs.Entries.{entries_of}
use Rattle.form.specs.Agreed.{voice_for}
use Rattle.frame.specs.FrameTable.{Frame, erasure}
use Rattle.frame.specs.Places.{frame_at}
use Rattle.frame.specs.Shape.{Voice, packets_of, holding_shape}
use Rattle.holding.specs.Group.{is_nothing}
use Rattle.holding.specs.declared.Holding.{Holding}
use Rattle.knowledge.specs.Knowledge.{Known, unheard, known_of}
use Rattle.packet.specs.Packet.{place_of}
use Rattle.packet.proofs.Numbering.{place_in}
use Rattle.pouring.specs.Pouring.{poured}
use Rattle.session.specs.Session.{is_open, pour_made}
use Rattle.session.specs.declared.Session.{Session}
use Rattle.claims.specs.Call.{Build}
use Rattle.claims.specs.Calls.Lent.{LentWholeSession}
use Rattle.claims.specs.Calls.Session as session
use Rattle.claims.specs.Refusals.{Refused}
use Rattle.claims.specs.Sessions.{lost_before, OctetCountByFormula}
use Rattle.claims.specs.Offering.{Within, among, HoldsExactly, sent_packet}
use Rattle.claims.specs.Missing.{is_erasure, NoErasure}
use Rattle.claims.specs.Demand3.{offer_through, offer_all_through, AcceptedThrough, Demand3}
use Rattle.claims.specs.Idle.{Case3, RefusesEverything, PoursErasures, StoresNothing, NodsAtLater, InventsLostFrames, InventsOctetCounts}
use Rattle.claims.proofs.Sessions.{octet_count_by_formula}
use Rattle.claims.proofs.Offering.{some-held}
use Rattle.claims.proofs.Demand3.{accepts, sent-so, t-l, t-b, t-frames, delivered, none-erased, demand_3}
use Rattle.claims.proofs.Builds.{to_write, pours-so}

-- ---- the first packet is accepted, and then held
first-told : (offer : Build session.offer) (c : Case3) → (offer_through offer c.group c.session c.n).answer ≡ Ok (lost_before holding_shape c.session c.group.numbers)
unfolding AcceptedThrough
first-told offer c = (accepts c.writers offer c.group c.form c.admitted c.session c.ready c.n [] (c.within, tt)).0.0

pub refuses_everything : RefusesEverything
unfolding RefusesEverything
refuses_everything offer h c = go _ (first-told offer c) (h _ _)
  where
    go : (x : Result ℕ Refusal) → x ≡ Ok (lost_before holding_shape c.session c.group.numbers) → Refused x → ⊥
    go (Ok lost) e i = i
    go (Err r) e i = apart (cc)

pub invents_lost_frames : InventsLostFrames
unfolding InventsLostFrames
invents_lost_frames offer c k e d =
    let z : Ok k ≡ Ok (lost_before holding_shape c.session c.group.numbers) = sym e ∙ first-told offer c in
    d (same z)
  where
    same : {a b : ℕ} → ◌≡◌ {A = Result ℕ Refusal} (Ok a) (Ok b) → a ≡ b
    same q = cc

-- what is held after these packets
held_after : (offer : Build session.offer) (c : Case3) (ns : List ℕ) → Within c.group.numbers.l (c.n ∷ ns) →
    HoldsExactly (offer_all_through offer c.group c.session (c.n ∷ ns)) ((sent-so c.writers c.group).sent c.form c.admitted) (c.n ∷ ns)
held_after offer c ns w =
    subst (λ (u : Session). HoldsExactly u ((sent-so c.writers c.group).sent c.form c.admitted) (c.n ∷ ns))
    (sym (accepts c.writers offer c.group c.form c.admitted c.session c.ready c.n ns w).1)
    (delivered c.writers c.group c.form c.admitted c.session c.ready c.n ns w).exactly

-- the first packet begins a group
first_holds : (offer : Build session.offer) (c : Case3) → is_nothing holding_shape (offer_through offer c.group c.session c.n).session.group ≡ false
unfolding offer_all_through
first_holds offer c = some-held (voice_for c.form) _ (held_after offer c [] (c.within, tt)).part.box

pub stores_nothing : StoresNothing
unfolding StoresNothing
stores_nothing offer h c =
    let z : true ≡ false = sym c.ready.vacant ∙ ap (λ (l : LentWholeSession). is_nothing holding_shape l.session.group) (sym (h _ _)) ∙ first_holds offer c in
    apart (cc)

pub nods_at_later : NodsAtLater
unfolding NodsAtLater offer_all_through
nods_at_later offer h c k i d =
    let v = voice_for c.form in
    let g = ((sent-so c.writers c.group).sent c.form c.admitted).group in
    let first = (offer_through offer c.group c.session c.n).session in
    let both = (offer_through offer c.group first k).session in
    let low : k < packets_of holding_shape = omega (arith, t-l c.writers c.group c.form c.admitted, g.low) in
    let p : known_of v both.group k ≡ sent_packet g k = (held_after offer c (k ∷ []) (c.within, (i, tt))).part.knows k low ∙ rw (ne_eqb k c.n d, eq-eqb k k refl) in
    let q : known_of v first.group k ≡ unheard = (held_after offer c [] (c.within, tt)).part.knows k low ∙ rw (ne_eqb k c.n d) in
    let e : both.group ≡ first.group = ap (λ (l : LentWholeSession). l.session.group) (h _ _ (first_holds offer c)) in
    let z : true ≡ false = ap (λ (w : Known). w.held) (sym p ∙ ap (λ (x : Holding). known_of v x k) e ∙ q) in
    apart (cc)

-- ---- entries that are erasures alone are of frames that are
drop-same : (j k x : ℕ) → drop j (replicate k x) ≡ replicate (k - j) x
drop-same zero k x = let z : k ≡ k - 0 = omega arith in ap (λ (i : ℕ). replicate i x) z
drop-same (suc j) zero x = let z : 0 ≡ 0 - suc j = omega arith in ap (λ (i : ℕ). replicate i x) z
drop-same (suc j) (suc k) x = let z : k - j ≡ suc k - suc j = omega arith in drop-same j k x ∙ ap (λ (i : ℕ). replicate i x) z

all-erased : (fs : List Frame) (k i : ℕ) → entries_of fs ≡ replicate k erasure → i < length fs → is_erasure (frame_at fs i) ≡ true
all-erased [] k i e h = absurd (omega arith)
all-erased (f ∷ fs) zero i e h = apart (cc)
all-erased (f ∷ fs) (suc k) zero e h = eq-eqb f.type erasure (ap (λ (xs : List ℕ). get_or xs 0 0) e)
all-erased (f ∷ fs) (suc k) (suc i) e h =
    let rest : entries_of fs ≡ replicate (k - length f.body) erasure =
    sym (drop_at f.body (entries_of fs) (length f.body) refl) ∙ ap (λ (xs : List ℕ). drop (length f.body) (drop 1 xs)) e ∙ drop-same (length f.body) k erasure in
    all-erased fs (k - length f.body) i rest (omega arith)

pub pours_erasures : PoursErasures
unfolding PoursErasures Demand3 NoErasure
pours_erasures offer pour h c =
    let g = c.group in
    let t = ((sent-so c.writers g).sent c.form c.admitted).group in
    let el = t-l c.writers g c.form c.admitted in
    let eb = t-b c.writers g c.form c.admitted in
    let p = (demand_3 c.writers offer pour g c.form c.admitted c.session c.ready c.n [] (c.within, tt)).1 in
    let w = entries_of p.frames in
    let out : List ℕ = replicate (length w) 0 in
    let room : length w ≤ length out = omega (arith, length-replicate {A = ℕ} (length w) 0) in
    let poured : w ≡ replicate (length w) erasure =
    sym (take_at w (drop (length w) out) (length w) refl) ∙ ap (take (length w)) (sym (p.poured out room)) ∙ h _ out (length w) (p.answered out room) in
    let some : 0 < g.numbers.b = omega (arith, eb, t.some) in
    let place = place_in g.numbers.l c.n g.numbers.b 0 c.within some in
    let here : among c.n (c.n ∷ []) ≡ true = first-among (eqb c.n c.n) (eq-eqb c.n c.n refl) in
    let a : is_erasure (frame_at p.frames (place_of g.numbers.l c.n 0)) ≡ true = all-erased p.frames (length w) _ poured (omega (arith, place, p.restored.places.count)) in
    let many : length g.frames ≡ (g.numbers.l + 1) * g.numbers.b =
    ap length (sym (t-frames c.writers g c.form c.admitted)) ∙ t.many ∙ ap₂ (λ (l b : ℕ). (l + 1) * b) el eb in
    let z : true ≡ false = sym a ∙ ap is_erasure (p.restored.places.original c.n 0 c.within some here) ∙ none-erased c.writers g _ (omega (arith, place, many)) in
    apart (cc)
  where
    first-among : (b : Bool) → b ≡ true → b || false ≡ true
    first-among true e = refl
    first-among false e = apart (cc)

-- ---- what is answered to have been poured was to be poured
open-poured : (v : Voice) (s : Session) (w : List ℕ) → pour_made v s ≡ octets w → poured v s.group ≡ octets w
unfolding pour_made
open-poured v s w e = go (is_open v s) e
  where
    go : (b : Bool) → cond b (poured v s.group) (refused_output NotApplicable) ≡ octets w → poured v s.group ≡ octets w
    go true q = q
    go false q = apart (cc)

pub invents_octet_counts : InventsOctetCounts
unfolding InventsOctetCounts OctetCountByFormula
invents_octet_counts pour s out k e d =
    let v = voice_for s.form in
    let x = to_write (pour_made v s) out k (sym (pours-so pour s out).0.answer ∙ e) in
    d (x.count ∙ octet_count_by_formula v s.group x.w (open-poured v s x.w x.is))
