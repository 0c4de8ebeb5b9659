-- The run over a capture, step by step. Assumes nothing.
use Rattle.std.proofs.Common.{Result, Ok}
use Prim.Native.Nat.{ℕ, zero, suc, ◌+◌, ◌≤◌}
use mathlib.Core.Bool.{Bool, true, false}
use mathlib.Core.Path.{◌≡◌, refl, sym, ap, ap₂, ◌∙◌}
use mathlib.Core.List.{List, [], ◌∷◌, ◌++◌, append_assoc, append-nil}
use native.Mathlib.Nat.{le_refl, add-zero, zero-add}
use native.Mathlib.Omega.{arith}
use lib.ListN.{length, drop, length-append}
use lib.Dec.{T}
use borrow.Author.Tests.{le-leb}
use Rattle.answers.specs.declared.Refusal.{Refusal}
use Rattle.octets.specs.Octets.{over}
use Rattle.octets.proofs.OctetsLaws.{over-append, over_nothing, length_over}
use Rattle.frame.specs.FrameTable.{FrameTable, within, erases}
use Rattle.frame.specs.Shape.{holding_shape}
use Rattle.frame.specs.Places.{up_to}
use Rattle.answers.specs.Outputs.{Made, octets, written_of, out_after, Writes}
use Rattle.entries.specs.Kind.{Kind}
use Rattle.entries.specs.Entries.{entries}
use Rattle.recording.specs.Recording.{recording_made}
use Rattle.numbers.specs.Place.{minute}
use Rattle.session.specs.Session.{Offered, never_opened, vacant, fresh, is_open, pour_made}
use Rattle.session.specs.declared.Session.{Session}
use Rattle.frame.proofs.PlacesLaws.{length-upTo, upTo-more, up_to-first}
use Rattle.frame.proofs.FrameTableLaws.{rows-within, rows-erases}
use Rattle.capture.specs.Capture.{Heard, count_of, heard_at, packets_in, good}
use Rattle.capture.specs.Run.{Run, capture_vocoder, capture_kind, Step, still, and_then, capture_form, first_session, offered_to, offering, poured_of, pouring, is_twelve}
use Rattle.capture.specs.Run.{lost_in, readied, answered_by, step_of, run_of, whole_run, entries_recorded, capture_recording, largest, Put, Does, record_answer}
use Rattle.capture.specs.Run.{record_output}
use Rattle.capture.proofs.Largest.{lost-few, run-few, all-few}
use Rattle.capture.proofs.CaptureLaws.{good-is}

-- the frame table of a capture: no body is longer than 22 octets, and an erasure has none
pub table_fits : T (within 22 capture_kind.table)
table_fits = rows-within capture_vocoder

pub table-erases : T (erases capture_kind.table)
table-erases = rows-erases capture_vocoder

-- ---- a run over one list and then another, and over one packet more
-- a step with octets and answers put before its own
abbrev before : Step → Step → Step
before a b = record { session = b.session; octets = a.octets ++ b.octets; answers = a.answers ++ b.answers }

abbrev recorded : Session → List ℕ → List (Result ℕ Refusal) → Step
recorded s o w = record { session = s; octets = o; answers = w }

pub run-append : (kind : Kind) (s : Session) (hs ks : List Heard) → run_of kind s (hs ++ ks) ≡ and_then (run_of kind s hs) (λ t. run_of kind t ks)
unfolding run_of and_then
run-append kind s [] ks = refl
run-append kind s (h ∷ hs) ks =
    let a = step_of kind s h in
    let x = run_of kind a.session hs in
    let y = run_of kind x.session ks in
    ap (before a) (run-append kind a.session hs ks)
    ∙ ap₂ (recorded y.session) (sym (append_assoc a.octets x.octets y.octets)) (sym (append_assoc a.answers x.answers y.answers))

one-step : (kind : Kind) (s : Session) (h : Heard) → run_of kind s (h ∷ []) ≡ step_of kind s h
unfolding run_of and_then
one-step kind s h = ap₂ (recorded (step_of kind s h).session) (append-nil (step_of kind s h).octets) (append-nil (step_of kind s h).answers)

pub run-last : (kind : Kind) (s : Session) (hs : List Heard) (h : Heard) → run_of kind s (hs ++ (h ∷ [])) ≡ and_then (run_of kind s hs) (λ t. step_of kind t h)
unfolding and_then
run-last kind s hs h = let a = run_of kind s hs in run-append kind s hs (h ∷ []) ∙ ap (before a) (one-step kind a.session h)

pub run_more : (kind : Kind) (s : Session) (f : ℕ → Heard) (i : ℕ) → run_of kind s (up_to f (i + 1)) ≡ and_then (run_of kind s (up_to f i)) (λ t. step_of kind t (f i))
run_more kind s f i = ap (run_of kind s) (upTo-more f i) ∙ run-last kind s (up_to f i) (f i)

-- ---- the first session
pub first_some : (c : List ℕ) (n : ℕ) → n ≡ count_of c → (n ≡ 0 → ⊥) → fresh holding_shape (heard_at c 0).source capture_form ≡ first_session (packets_in c)
unfolding packets_in first_session
first_some c n e z = go (count_of c) (λ (q : count_of c ≡ 0). z (e ∙ q))
  where
    go : (m : ℕ) → (m ≡ 0 → ⊥) → fresh holding_shape (heard_at c 0).source capture_form ≡ first_session (up_to (heard_at c) m)
    go zero h = absurd (h refl)
    go (suc m) h = ap first_session (sym (up_to-first (heard_at c) m))

-- ---- written where it fits
put-nothing : (d : List ℕ) (at : ℕ) → Put d at [] d
put-nothing d at h = over_nothing d at

put_then : (d e f : List ℕ) (at : ℕ) (xs ys : List ℕ) → Put d at xs e → Put e (at + length xs) ys f → Put d at (xs ++ ys) f
put_then d e f at xs ys p q h =
    let n = length-append xs ys in
    let a : e ≡ over d at xs = p (omega arith) in
    let l : length e ≡ length d = ap length a ∙ length_over d at xs (omega arith) in
    q (omega arith) ∙ ap (λ (o : List ℕ). over o (at + length xs) ys) a ∙ over-append d at xs ys (omega arith)

-- ---- steps that are done
does-then : (a g : Step) (f : Session → Step) (at : ℕ) (d e e' : List ℕ) (r r' : Run) → Does a at d r e → g ≡ f a.session → Does g r.octets e r' e' → Does (and_then a f) at d r' e'
unfolding and_then
does-then a g f at d e e' r r' x q y =
    let n : length g.octets ≡ length (f a.session).octets = ap (λ (b : Step). length b.octets) q in
    let ys = (f a.session).octets in
    let p : Put e (at + length a.octets) ys e' = rw (← x.counted, ← q) y.written in
    record {
      session = y.session ∙ ap (λ (b : Step). b.session) q;
      counted = y.counted ∙ omega (arith, x.counted, n, length-append a.octets ys);
      written = put_then d e e' at a.octets ys x.written p;
    }

does-as : (a b : Step) (at : ℕ) (d e : List ℕ) (r : Run) → a ≡ b → Does a at d r e → Does b at d r e
does-as a b at d e r q x = rw (← q) x

-- nothing is done
pub does-nothing : (a : Step) (d : List ℕ) (r : Run) (w : List (Result ℕ Refusal)) → a ≡ still r.session w → Does a r.octets d r d
does-nothing a d r w q = rw q (record { session = refl; counted = sym (add-zero r.octets); written = put-nothing d r.octets })

-- ---- an offer
readied-later : (kind : Kind) (s : Session) (h : Heard) (b : Bool) → b ≡ is_twelve (offered_to kind.table s h).answer → b ≡ true → pouring kind.table s ≡ readied kind s h
unfolding readied
readied-later kind s h b e q = let z : is_twelve (offered_to kind.table s h).answer ≡ true = sym e ∙ q in simp z

readied-once : (kind : Kind) (s : Session) (h : Heard) (b : Bool) → b ≡ is_twelve (offered_to kind.table s h).answer → b ≡ false → readied kind s h ≡ still s []
unfolding readied
readied-once kind s h b e q = let z : is_twelve (offered_to kind.table s h).answer ≡ false = sym e ∙ q in simp z

-- ---- the last offer of a packet: the first, or on 12 a second after pouring
module _ (kind : Kind) (h : Heard) (d : List ℕ) (r : Run) (o : Offered) (b : Bool) (first : o ≡ offered_to kind.table r.session h) (twelve : b ≡ is_twelve o.answer) where
  asked : b ≡ is_twelve (offered_to kind.table r.session h).answer
  asked = twelve ∙ ap (λ (y : Offered). is_twelve y.answer) first

  pub once-ready : b ≡ false → Does (readied kind r.session h) r.octets d r d
  once-ready q = does-nothing _ d r [] (readied-once kind r.session h b asked q)

  pub later-ready : (p : Run) (e : List ℕ) → b ≡ true → Does (pouring kind.table r.session) r.octets d p e → Does (readied kind r.session h) r.octets d p e
  later-ready p e q x = does-as _ _ r.octets d e p (readied-later kind r.session h b asked q) x

-- ---- a step: what is done before, and then the offer
module _ (kind : Kind) (s : Session) (h : Heard) (at : ℕ) (d e : List ℕ) (p : Run) (x : Does (readied kind s h) at d p e) where
  pub step-does : (e' : List ℕ) (r : Run) → Does (offering kind p.session h) p.octets e r e' → Does (step_of kind s h) at d r e'
  unfolding step_of
  step-does e' r z = does-then (readied kind s h) _ (λ t. offering kind t h) at d e e' p r x (ap (λ (t : Session). offering kind t h) x.session) z

  pub step-answered : (a : Result ℕ Refusal) → a ≡ (offered_to kind.table p.session h).answer → a ≡ answered_by kind s h
  step-answered a q = q ∙ ap (λ (t : Session). (offered_to kind.table t h).answer) x.session

pub lost-fit : (v : FrameTable) (s : Session) (h : Heard) (o : Offered) → o ≡ offered_to v s h → lost_in o.answer ≤ minute
lost-fit v s h o e = rw e (lost-few v s h)

-- ---- the run over the packets, one after the other
module _ (kind : Kind) (s : Session) (at : ℕ) (d : List ℕ) where
  pub run_none : (f : ℕ → Heard) (r : Run) → r.session ≡ s → r.octets ≡ at → Does (run_of kind s (up_to f 0)) at d r d
  unfolding run_of up_to
  run_none f r e q = record { session = e; counted = q ∙ sym (add-zero at); written = put-nothing d at }

  pub run-again :
      (f : ℕ → Heard) (i : ℕ) (r r' : Run) (e e' : List ℕ) →
      Does (run_of kind s (up_to f i)) at d r e →
      Does (step_of kind r.session (f i)) r.octets e r' e' →
      Does (run_of kind s (up_to f (i + 1))) at d r' e'
  run-again f i r r' e e' x y =
      does-as _ _ at d e' r' (sym (run_more kind s f i)) (does-then (run_of kind s (up_to f i)) _ (λ t. step_of kind t (f i)) at d e e' r r' x (ap (λ (t : Session). step_of kind t (f i)) x.session) y)

  pub run-first : (f : ℕ → Heard) (i n : ℕ) (r : Run) (e : List ℕ) → i ≡ n → Does (run_of kind s (up_to f i)) at d r e → Does (run_of kind s (up_to f n)) at d r e
  run-first f i n r e q x = rw (← q) x

  pub run-all : (c : List ℕ) (i : ℕ) (r : Run) (e : List ℕ) → i ≡ count_of c → Does (run_of kind s (up_to (heard_at c) i)) at d r e → Does (run_of kind s (packets_in c)) at d r e
  unfolding packets_in
  run-all c i r e q x = run-first (heard_at c) i (count_of c) r e q x

-- what it has recorded is few octets
pub run_fits : (kind : Kind) → T (within 22 kind.table) → T (erases kind.table) → (c : List ℕ) → good c ≡ true → (i n at : ℕ) → n ≡ count_of c → i ≤ n → at ≡ 7
    → (s : Session) → s ≡ first_session (packets_in c)
    → (d e : List ℕ) (r : Run) → Does (run_of kind s (up_to (heard_at c) i)) at d r e → r.octets ≤ largest
run_fits kind w z c g i n at q h a s f d e r x =
    let few : length (up_to (heard_at c) i) ≤ 256 = omega (arith, length-upTo (heard_at c) i, (good-is c g).few) in
    let y = run-few kind w z (packets_in c) (up_to (heard_at c) i) few in
    let k : length (run_of kind s (up_to (heard_at c) i)).octets ≡ length (run_of kind (first_session (packets_in c)) (up_to (heard_at c) i)).octets =
    ap (λ (t : Session). length (run_of kind t (up_to (heard_at c) i)).octets) f in
    omega (arith, y, x.counted)

pub all-fits :
    (kind : Kind) →
    T (within 22 kind.table) →
    T (erases kind.table) →
    (c : List ℕ) →
    good c ≡ true →
    (s : Session) →
    s ≡ first_session (packets_in c) →
    (d e : List ℕ) (r : Run) →
    Does (run_of kind s (packets_in c)) 7 d r e →
    r.octets ≤ largest
unfolding packets_in
all-fits kind w z c g s f d e r x = run_fits kind w z c g (count_of c) (count_of c) 7 refl (le_refl _) refl s f d e r x

-- ---- the opening octets, written before anything else
pub opening-put : (kind : Kind) (out out' : List ℕ) (r : Result ℕ Refusal) → Writes (recording_made kind []) out r out' → Put out 0 kind.opening out'
unfolding recording_made entries out_after over
opening-put kind out out' r x h =
    let e : recording_made kind [] ≡ octets kind.opening = ap octets (append-nil kind.opening) in
    let k : length kind.opening ≤ length out = omega arith in
    x.output ∙ ap (λ (m : Made). out_after m out) e ∙ simp (le-leb _ _ k) (ap (λ (i : ℕ). kind.opening ++ drop i out) (sym (zero-add (length kind.opening))))

-- ---- the whole
whole : (kind : Kind) (c out out₁ out₂ : List ℕ) (r : Run) → length kind.opening ≡ 7 → Put out 0 kind.opening out₁
    → Does (and_then (run_of kind (first_session (packets_in c)) (packets_in c)) (pouring kind.table)) 7 out₁ r out₂
    → (r.octets ≡ length (capture_recording kind c)) × Put out 0 (capture_recording kind c) out₂
unfolding capture_recording entries_recorded whole_run
whole kind c out out₁ out₂ r l p d =
    let ys = (and_then (run_of kind (first_session (packets_in c)) (packets_in c)) (pouring kind.table)).octets in
    let e : 0 + length kind.opening ≡ 7 = omega arith in
    let q : Put out₁ (0 + length kind.opening) ys out₂ = rw e d.written in
    (d.counted ∙ omega (arith, length-append kind.opening ys, l), put_then out out₁ out₂ 0 kind.opening ys p q)

pub whole_run_lem : (kind : Kind) (c out out₁ out₂ out₃ : List ℕ) (s : Session) (r r' : Run) → length kind.opening ≡ 7 → s ≡ first_session (packets_in c) → Put out 0 kind.opening out₁
    → Does (run_of kind s (packets_in c)) 7 out₁ r out₂ → Does (pouring kind.table r.session) r.octets out₂ r' out₃
    → (r'.octets ≡ length (capture_recording kind c)) × Put out 0 (capture_recording kind c) out₃
whole_run_lem kind c out out₁ out₂ out₃ s r r' l e p x y =
    let k : Does (run_of kind (first_session (packets_in c)) (packets_in c)) 7 out₁ r out₂ = rw (← e) x in
    whole kind c out out₁ out₃ r' l p (does-then (run_of kind (first_session (packets_in c)) (packets_in c)) _ (pouring kind.table) 7 out₁ out₂ out₃ r r' k (ap (pouring kind.table) k.session) y)

-- of no packet it is the opening
pub none-recorded : (kind : Kind) (c : List ℕ) (n : ℕ) → n ≡ count_of c → n ≡ 0 → capture_recording kind c ≡ kind.opening
unfolding capture_recording entries_recorded whole_run packets_in up_to run_of and_then first_session pouring poured_of pour_made is_open never_opened vacant
none-recorded kind c n e z = let q : count_of c ≡ 0 = sym e ∙ z in rw q (append-nil kind.opening)

-- nothing is larger
pub largest-is : (kind : Kind) → T (within 22 kind.table) → T (erases kind.table) → (c : List ℕ) → length kind.opening ≡ 7 → good c ≡ true → length (capture_recording kind c) ≤ largest
unfolding capture_recording entries_recorded whole_run packets_in
largest-is kind w z c l g =
    let few : length (packets_in c) ≤ 256 = omega (arith, length-upTo (heard_at c) (count_of c), (good-is c g).few) in
    let y = all-few kind w z (packets_in c) (packets_in c) few in
    omega (arith, y, length-append kind.opening (and_then (run_of kind (first_session (packets_in c)) (packets_in c)) (pouring kind.table)).octets)

module _ (kind : Kind) (c out : List ℕ) where
  pub answer-octets : good c ≡ true → length (capture_recording kind c) ≤ length out → (n : ℕ) (after : List ℕ) → n ≡ length (capture_recording kind c) → Put out 0 (capture_recording kind c) after
      → (Ok n ≡ record_answer kind c out) × (after ≡ record_output kind c out)
  unfolding record_answer record_output written_of out_after over
  answer-octets e h n after q p =
      let w = capture_recording kind c in
      let k : 0 + length w ≤ length out = omega arith in
      (simp (e, le-leb _ _ h) (ap Ok q), simp (e, le-leb _ _ h) (p k ∙ ap (λ (i : ℕ). w ++ drop i out) (zero-add (length w))))
