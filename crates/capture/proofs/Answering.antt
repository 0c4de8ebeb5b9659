-- What the packets of a capture are answered, one after the other. Assumes nothing.
use Rattle.std.proofs.Common.{Result, Ok, Err}
use Prim.Native.Nat.{ℕ, zero, suc, ◌+◌, ◌≤◌, ◌<◌}
use mathlib.Core.Bool.{Bool, true, false, cond}
use mathlib.Core.Path.{◌≡◌, refl, sym, ap, ap₂, ◌∙◌}
use mathlib.Core.List.{List, [], ◌∷◌, ◌++◌, append-nil}
use native.Mathlib.Nat.{le_of_suc-le-suc}
use native.Mathlib.Numerals.{add-one}
use native.Mathlib.Omega.{arith}
use lib.Dec.{eqb}
use lib.ListN.{length, take, replicate, get_or, get_or-eq_default}
use lib.Seq.{take-suc}
use Rattle.octets.proofs.Logic.{apart}
use Rattle.frame.specs.Shape.{holding_shape, voice_with}
use Rattle.frame.specs.FrameTable.{FrameTable}
use Rattle.frame.specs.Places.{up_to}
use Rattle.answers.specs.Answers.{number_of}
use Rattle.answers.specs.Outputs.{Made, octets, refused_output}
use Rattle.answers.specs.declared.Refusal.{Refusal}
use Rattle.answers.specs.declared.Refusal.TheVariants.{NotApplicable}
use Rattle.entries.specs.Kind.{Kind}
use Rattle.holding.specs.Group.{is_nothing}
use Rattle.holding.proofs.GroupLaws.{nothing_is}
use Rattle.pouring.specs.Pouring.{poured}
use Rattle.session.specs.Session.{Arrival, Offered, is_open, refuse, accept, begins, arrival, offered, pour_made, ended}
use Rattle.session.specs.declared.Session.{Session}
use Rattle.session.proofs.Ends.{open-has, group-has, Placed, no, again, put, first, next, Ends, refuses, places, offer-ends}
use Rattle.frame.proofs.PlacesLaws.{length-upTo, upTo-at}
use Rattle.capture.specs.Capture.{Heard, count_of, heard_at, packets_in, good}
use Rattle.capture.specs.Run.{Step, still, and_then, first_session, offered_to, taken_of, offering, poured_of, pouring, is_twelve, readied, step_of}
use Rattle.capture.specs.Run.{answered_by, run_of, lost_in, whole_run, packet_answered, answer_of}
use Rattle.capture.specs.Run.{of_good}
use Rattle.capture.proofs.RunLaws.{run-last}

-- ---- a step answers its one packet
taken-answers : (kind : Kind) (s t : Session) (a : Result ℕ Refusal) → (taken_of kind s t a).answers ≡ a ∷ []
unfolding taken_of
taken-answers kind s t (Ok lost) = refl
taken-answers kind s t (Err r) = refl

offering-answers : (kind : Kind) (s : Session) (h : Heard) → (offering kind s h).answers ≡ (offered_to kind.table s h).answer ∷ []
unfolding offering
offering-answers kind s h = taken-answers kind s (offered_to kind.table s h).session (offered_to kind.table s h).answer

pouring-answers : (v : FrameTable) (s : Session) → (pouring v s).answers ≡ []
unfolding pouring poured_of
pouring-answers v s = go (pour_made (voice_with v) s)
  where
    go : (m : Made) → (poured_of s m).answers ≡ []
    go (octets w) = refl
    go (refused_output r) = refl

readied-answers : (kind : Kind) (s : Session) (h : Heard) → (readied kind s h).answers ≡ []
unfolding readied
readied-answers kind s h = go (is_twelve (offered_to kind.table s h).answer)
  where
    go : (b : Bool) → (cond b (pouring kind.table s) (still s [])).answers ≡ []
    go true = pouring-answers kind.table s
    go false = refl

pub step-answers : (kind : Kind) (s : Session) (h : Heard) → (step_of kind s h).answers ≡ answered_by kind s h ∷ []
unfolding step_of and_then
step-answers kind s h = ap₂ ◌++◌ (readied-answers kind s h) (offering-answers kind (readied kind s h).session h)

-- ---- and records the group that it pours on 12, and an erasure for each lost frame of its answer
offering-octets : (kind : Kind) (s : Session) (h : Heard) → (offering kind s h).octets ≡ replicate (lost_in (offered_to kind.table s h).answer) kind.erasure
unfolding offering taken_of lost_in
offering-octets kind s h = go (offered_to kind.table s h).session (offered_to kind.table s h).answer
  where
    go : (t : Session) (a : Result ℕ Refusal) → (taken_of kind s t a).octets ≡ replicate (lost_in a) kind.erasure
    go t (Ok lost) = refl
    go t (Err r) = refl

pub step-octets : (kind : Kind) (s : Session) (h : Heard) → (step_of kind s h).octets ≡ (readied kind s h).octets ++ replicate (lost_in (answered_by kind s h)) kind.erasure
unfolding step_of and_then
step-octets kind s h = ap (λ (w : List ℕ). (readied kind s h).octets ++ w) (offering-octets kind (readied kind s h).session h)

-- ---- 12 comes of an open session that holds a group; pouring ends that group, so the second answer is never 12
module _ (v : FrameTable) (h : Heard) where
  pub twelve-held : (s : Session) → is_twelve (offered_to v s h).answer ≡ true → (is_open (voice_with v) s ≡ true) × (is_nothing holding_shape s.group ≡ false)
  unfolding offered_to is_twelve refuse accept begins
  twelve-held s = go (offered (voice_with v) s h.source h.sequence h.timestamp h.payload) (offer-ends (voice_with v) s h.source h.sequence h.timestamp h.payload)
    where
      unlike : {A : Type 0} (o x : Offered) → o ≡ x → is_twelve x.answer ≡ false → is_twelve o.answer ≡ true → A
      unlike o x e n t = let z : false ≡ true = sym n ∙ ap (λ (y : Offered). is_twelve y.answer) (sym e) ∙ t in apart (cc)

      held : (o : Offered) (r : Refusal) → o ≡ refuse s r → is_twelve o.answer ≡ true → (b : Bool) → (b ≡ true → eqb (number_of r) 12 ≡ false) → b ≡ false
      held o r e t true n = unlike o (refuse s r) e (n refl) t
      held o r e t false n = refl

      by_place : (a : Arrival) (o : Offered) → Placed holding_shape s a o → is_twelve o.answer ≡ true → is_nothing holding_shape s.group ≡ false
      by_place a o (no r n e) t = held o r e t (is_nothing holding_shape s.group) n
      by_place a o (again q e) t = q
      by_place a o (put q k l b e) t = q
      by_place a o (first q p e) t = unlike o _ e refl t
      by_place a o (next q gp p lost f g e) t = unlike o _ e refl t

      go : (o : Offered) → Ends (voice_with v) s h.source h.sequence h.timestamp h.payload o → is_twelve o.answer ≡ true →
          (is_open (voice_with v) s ≡ true) × (is_nothing holding_shape s.group ≡ false)
      go o (refuses r n e) t = unlike o (refuse s r) e n t
      go o (places i q l n d fs r x) t = (i, by_place (arrival holding_shape h.sequence h.timestamp l n fs) o x t)

  -- with no group held it is not 12
  nothing-held : (s : Session) → is_nothing holding_shape s.group ≡ true → is_twelve (offered_to v s h).answer ≡ false
  nothing-held s q = go (is_twelve (offered_to v s h).answer) refl
    where
      go : (b : Bool) → is_twelve (offered_to v s h).answer ≡ b → b ≡ false
      go true e = let z : false ≡ true = sym (twelve-held s e).1 ∙ q in apart (cc)
      go false e = refl

  pub pouring-ends : (s : Session) → is_open (voice_with v) s ≡ true → is_nothing holding_shape s.group ≡ false → (pouring v s).session ≡ ended holding_shape s
  unfolding pouring poured_of pour_made poured
  pouring-ends s i q = simp (i, (group-has (voice_with v) s (open-has (voice_with v) s i).group q).0)

  second-answer : (s : Session) → is_twelve (offered_to v s h).answer ≡ true → is_twelve (offered_to v (pouring v s).session h).answer ≡ false
  unfolding ended
  second-answer s t =
      let d = twelve-held s t in
      rw (pouring-ends s d.0 d.1) (nothing-held (ended holding_shape s) (nothing_is holding_shape))

twelve-never : (kind : Kind) (s : Session) (h : Heard) → is_twelve (answered_by kind s h) ≡ false
unfolding readied
twelve-never kind s h = go (is_twelve (offered_to kind.table s h).answer) refl
  where
    go : (b : Bool) → is_twelve (offered_to kind.table s h).answer ≡ b →
        is_twelve (offered_to kind.table (cond b (pouring kind.table s) (still s [])).session h).answer ≡ false
    go true e = second-answer kind.table h s e
    go false e = e

-- ---- the run answers each of its packets
module _ (kind : Kind) where
  pub length-answers : (s : Session) (hs : List Heard) → length (run_of kind s hs).answers ≡ length hs
  unfolding run_of and_then
  length-answers s [] = refl
  length-answers s (h ∷ hs) = rw (step-answers kind s h) (ap suc (length-answers (step_of kind s h).session hs))

  -- what packet i is answered is what the session before it answers
  pub run-answered : (s : Session) (hs : List Heard) (i : ℕ) (d : Heard) (e : Result ℕ Refusal) → i < length hs →
      get_or (run_of kind s hs).answers i e ≡ answered_by kind (run_of kind s (take i hs)).session (get_or hs i d)
  unfolding run_of and_then
  run-answered s [] i d e q = absurd (omega arith)
  run-answered s (h ∷ hs) zero d e q = ap (λ (w : List (Result ℕ Refusal)). get_or (w ++ (run_of kind (step_of kind s h).session hs).answers) 0 e) (step-answers kind s h)
  run-answered s (h ∷ hs) (suc i) d e q =
      ap (λ (w : List (Result ℕ Refusal)). get_or (w ++ (run_of kind (step_of kind s h).session hs).answers) (suc i) e) (step-answers kind s h)
      ∙ run-answered (step_of kind s h).session hs i d e (le_of_suc-le-suc q)

  pub run-recorded : (s : Session) (hs : List Heard) (i : ℕ) (d : Heard) → i < length hs →
      (run_of kind s (take (i + 1) hs)).octets ≡ (run_of kind s (take i hs)).octets ++ (step_of kind (run_of kind s (take i hs)).session (get_or hs i d)).octets
  unfolding and_then
  run-recorded s hs i d q = rw (add-one i) (ap (λ (gs : List Heard). (run_of kind s gs).octets) (take-suc hs i d q) ∙ ap (λ (a : Step). a.octets) (run-last kind s (take i hs) (get_or hs i d)))

  pub run-never-twelve : (s : Session) (hs : List Heard) (i : ℕ) (e : Result ℕ Refusal) → is_twelve e ≡ false → is_twelve (get_or (run_of kind s hs).answers i e) ≡ false
  unfolding run_of and_then
  run-never-twelve s [] i e n = n
  run-never-twelve s (h ∷ hs) zero e n = rw (step-answers kind s h) (twelve-never kind s h)
  run-never-twelve s (h ∷ hs) (suc i) e n = rw (step-answers kind s h) (run-never-twelve (step_of kind s h).session hs i e n)

-- ---- of a capture
pub whole-answers : (kind : Kind) (hs : List Heard) → (whole_run kind hs).answers ≡ (run_of kind (first_session hs) hs).answers
unfolding whole_run and_then
whole-answers kind hs =
    let a = run_of kind (first_session hs) hs in
    ap (λ (w : List (Result ℕ Refusal)). a.answers ++ w) (pouring-answers kind.table a.session) ∙ append-nil a.answers

pub packet-is : (kind : Kind) (hs : List Heard) (i : ℕ) → packet_answered kind hs i ≡ get_or (run_of kind (first_session hs) hs).answers i (Err NotApplicable)
unfolding packet_answered
packet-is kind hs i = ap (λ (w : List (Result ℕ Refusal)). get_or w i (Err NotApplicable)) (whole-answers kind hs)

-- 21 where there is no packet i
pub past-answered : (kind : Kind) (hs : List Heard) (i : ℕ) → length hs ≤ i → packet_answered kind hs i ≡ Err NotApplicable
past-answered kind hs i h =
    let ws = (run_of kind (first_session hs) hs).answers in
    let k : length ws ≤ i = omega (arith, length-answers kind (first_session hs) hs) in
    packet-is kind hs i ∙ get_or-eq_default ws (Err NotApplicable) k

take-up_to : (f : ℕ → Heard) (n i : ℕ) → i ≤ n → take i (up_to f n) ≡ up_to f i
unfolding up_to
take-up_to f n zero h = refl
take-up_to f n (suc i) h =
    take-suc (up_to f n) i (f i) (omega (arith, length-upTo f n))
    ∙ ap₂ (λ (xs : List Heard) (x : Heard). xs ++ (x ∷ [])) (take-up_to f n i (omega arith)) (upTo-at f n i (f i) (omega arith))

module _ (kind : Kind) (c : List ℕ) where
  pub packet-answered : (n i : ℕ) (t : Session) (a : Result ℕ Refusal) → n ≡ count_of c → i < n →
      t ≡ (run_of kind (first_session (packets_in c)) (up_to (heard_at c) i)).session → a ≡ answered_by kind t (heard_at c i) →
      a ≡ packet_answered kind (packets_in c) i
  unfolding packets_in
  packet-answered n i t a q h e x =
      let hs = up_to (heard_at c) (count_of c) in
      let s = first_session hs in
      let k : i < count_of c = omega arith in
      let y = run-answered kind s hs i (heard_at c i) (Err NotApplicable) (omega (arith, length-upTo (heard_at c) (count_of c))) in
      let z : answered_by kind (run_of kind s (take i hs)).session (get_or hs i (heard_at c i)) ≡ answered_by kind t (heard_at c i) =
      ap₂ (λ (u : Session) (g : Heard). answered_by kind u g)
      (ap (λ (gs : List Heard). (run_of kind s gs).session) (take-up_to (heard_at c) (count_of c) i (omega arith)) ∙ sym e)
      (upTo-at (heard_at c) (count_of c) i (heard_at c i) k) in
      x ∙ sym z ∙ sym y ∙ sym (packet-is kind hs i)

  pub no-packet : (n i : ℕ) → n ≡ count_of c → n ≤ i → Err NotApplicable ≡ packet_answered kind (packets_in c) i
  unfolding packets_in
  no-packet n i q h = sym (past-answered kind (packets_in c) i (omega (arith, length-upTo (heard_at c) (count_of c))))

  pub told-answer : (i : ℕ) (a : Result ℕ Refusal) → good c ≡ true → a ≡ packet_answered kind (packets_in c) i → of_good a ≡ answer_of kind c i
  unfolding answer_of
  told-answer i a e q = simp e (ap of_good q)
