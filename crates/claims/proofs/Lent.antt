-- Sessions and holdings in lent octets. Assumes nothing.
use Rattle.std.proofs.Common.{Result, Ok, Err}
use Prim.Native.Nat.{ℕ, ◌+◌, ◌≤◌}
use mathlib.Core.Bool.{Bool, true, false, cond, ◌&&◌}
use mathlib.Core.Path.{◌≡◌, refl, sym, ap, ◌∙◌}
use mathlib.Core.List.{List, ◌++◌}
use native.Mathlib.Omega.{arith}
use lib.ListN.{length, take, drop, length-take, take-append-drop}
use Rattle.answers.specs.declared.Refusal.{Refusal}
use Rattle.octets.specs.Octets.{over, same_octets, any_set, two_at, four_at, two_octets, four_octets}
use Rattle.frame.specs.Shape.{Voice, holding_shape}
use Rattle.octets.proofs.Logic.{apart}
use Rattle.octets.proofs.OctetsLaws.{same_true}
use Rattle.holding.specs.Group.{Shaped, begun, nothing}
use Rattle.holding.proofs.GroupLaws.{nothing-held}
use Rattle.holding.specs.declared.Holding.{Holding}
use Rattle.pouring.specs.Pouring.{poured}
use Rattle.session.specs.Session.{Offered, vacant, never_opened, is_open, refuse, accept, offered}
use Rattle.session.proofs.Ends.{open-has, Ends, refuses, places, offer-ends}
use Rattle.session.specs.declared.Session.{Session}
use Rattle.lending.specs.Laid.{is_long, is_laid, number_octets, frame_octets, holding_octets, numbers_at, holding_at, is_holding, holding_in, holding_laid}
use Rattle.lending.specs.Laid.{form_octets, form_at, last_octets, last_at, session_head, session_laid, session_at, is_session, session_in}
use Rattle.lending.specs.Calls.{lay_if, offer_answer, offer_octets}
use Rattle.lending.proofs.LaidLaws.{too_short, laid-long, at-shaped}
use Rattle.lending.proofs.PartsLaws.{open-laid}
use Rattle.claims.specs.Lent.{LentIsShaped, ZeroIsNeverOpened, ShortIsNone, NoSessionTakesNothing, NoHoldingHoldsNothing, SessionLaysBack}
use Rattle.claims.specs.Lent.{HoldingLaysBack, EqualIsEqualOctets, RepeatChangesNoOctet, EqualKnowledgeEqualOctets}
use Rattle.claims.specs.Joinings.{EqualKnowledge}
use Rattle.claims.specs.Sessions.{RepeatChangesNothing}
use Rattle.claims.proofs.Joinings.{equal_knowledge}
use Rattle.claims.proofs.Sessions.{repeat_changes_nothing}

pub zero_is_never_opened : ZeroIsNeverOpened
unfolding same_octets two_at four_at two_octets four_octets begun nothing vacant never_opened is_long is_laid number_octets frame_octets holding_octets
    numbers_at holding_at form_octets form_at last_octets last_at session_head session_laid session_at is_session session_in
zero_is_never_opened = record { read = refl; laid = refl }

pub short_is_none : ShortIsNone
unfolding ShortIsNone is_session is_holding is_laid
short_is_none o h = rw (too_short o h) (refl, refl)

pub no_session_takes_nothing : NoSessionTakesNothing
unfolding NoSessionTakesNothing session_in offered is_open never_opened vacant
no_session_takes_nothing v o e source q t p = rw e

pub no_holding_holds_nothing : NoHoldingHoldsNothing
unfolding NoHoldingHoldsNothing holding_in poured
no_holding_holds_nothing v o e = rw (e, nothing-held v holding_shape) (refl, refl)

-- ---- octets that are as they would be laid out
pub are-laid : (o w : List ℕ) → is_laid o w ≡ true → w ≡ take 2304 o
unfolding is_laid
are-laid o w e = go (is_long o) e
  where
    go : (b : Bool) → (b && same_octets w (take 2304 o)) ≡ true → w ≡ take 2304 o
    go true q = same_true w (take 2304 o) q
    go false q = apart (cc)

-- ---- what is read is as long as its type makes it
pub nothing-shaped : Shaped holding_shape (nothing holding_shape)
unfolding nothing begun
nothing-shaped = record { long_held = refl; long_marks = refl; long_room = refl }

pub lent_is_shaped : LentIsShaped
unfolding holding_in is_holding session_in is_session session_at never_opened vacant
lent_is_shaped = record { holdings = λ o. holding o (is_laid o (holding_laid (holding_at o 0))) refl; sessions = λ o. session o (is_laid o (session_laid (session_at o))) refl }
  where
    holding : (o : List ℕ) (b : Bool) → is_laid o (holding_laid (holding_at o 0)) ≡ b → Shaped holding_shape (cond b (holding_at o 0) (nothing holding_shape))
    holding o true e = let l = laid-long o (holding_laid (holding_at o 0)) e in at-shaped o 0 (omega arith)
    holding o false e = nothing-shaped

    session : (o : List ℕ) (b : Bool) → is_laid o (session_laid (session_at o)) ≡ b → Shaped holding_shape (cond b (session_at o) (never_opened holding_shape)).group
    session o true e = let l = laid-long o (session_laid (session_at o)) e in at-shaped o 32 (omega arith)
    session o false e = nothing-shaped

-- a holding that holds a packet was read from such octets
held-laid : (o : List ℕ) → any_set (holding_in o).held ≡ true → is_holding o ≡ true
unfolding holding_in nothing begun any_set
held-laid o e = go (is_holding o) e
  where
    go : (b : Bool) → any_set (cond b (holding_at o 0) (nothing holding_shape)).held ≡ true → b ≡ true
    go true q = refl
    go false q = apart (cc)

pub session_lays_back : SessionLaysBack
unfolding SessionLaysBack session_in is_session
session_lays_back o e =
    let l : is_laid o (session_laid (session_at o)) ≡ true = open-laid o e in
    ap (λ (b : Bool). session_laid (cond b (session_at o) (never_opened holding_shape))) l ∙ are-laid o (session_laid (session_at o)) l

pub holding_lays_back : HoldingLaysBack
unfolding HoldingLaysBack holding_in is_holding
holding_lays_back o e =
    let l : is_laid o (holding_laid (holding_at o 0)) ≡ true = held-laid o e in
    ap (λ (b : Bool). holding_laid (cond b (holding_at o 0) (nothing holding_shape))) l ∙ are-laid o (holding_laid (holding_at o 0)) l

pub equal_is_equal_octets : EqualIsEqualOctets
unfolding SessionLaysBack HoldingLaysBack
equal_is_equal_octets = record {
  sessions = λ a b e q. sym (session_lays_back a e) ∙ ap session_laid q
      ∙ session_lays_back b (ap (λ (s : Session). s.«open») (sym q) ∙ e);
  holdings = λ a b e q. sym (holding_lays_back a e) ∙ ap holding_laid q
      ∙ holding_lays_back b (ap (λ (h : Holding). any_set h.held) (sym q) ∙ e);
}

-- ---- a repeat
over-same : (o : List ℕ) → 2304 ≤ length o → over o 0 (take 2304 o) ≡ o
unfolding over
over-same o h =
    let l : 0 + length (take 2304 o) ≡ 2304 = simp length-take (omega arith) in
    ap (λ (i : ℕ). take 2304 o ++ drop i o) l ∙ take-append-drop 2304 o

-- what is accepted was offered to an open session
accepted-open : (v : Voice) (s : Session) (source q t : ℕ) (p : List ℕ) (lost : ℕ) → (offered v s source q t p).answer ≡ Ok lost → s.«open» ≡ true
unfolding refuse
accepted-open v s source q t p lost e = go (offered v s source q t p) (offer-ends v s source q t p) e
  where
    go : (o : Offered) → Ends v s source q t p o → o.answer ≡ Ok lost → s.«open» ≡ true
    go o (refuses r n x) y = let z : Err r ≡ Ok lost = ap (λ (w : Offered). w.answer) (sym x) ∙ y in apart (cc)
    go o (places x _ l n d fs _ _) y = (open-has v s x).opened

kept-octets : (v : Voice) (o : List ℕ) (source q t : ℕ) (p : List ℕ) → (offered v (session_in o) source q t p).session ≡ session_in o → offer_octets v o source q t p ≡ o
unfolding SessionLaysBack offer_octets offer_answer lay_if is_session
kept-octets v o source q t p e = go (offered v (session_in o) source q t p).answer refl
  where
    go : (y : Result ℕ Refusal) → (offered v (session_in o) source q t p).answer ≡ y → lay_if y o (session_laid (offered v (session_in o) source q t p).session) ≡ o
    go (Err r) f = refl
    go (Ok lost) f =
        let a : (session_in o).«open» ≡ true = accepted-open v (session_in o) source q t p lost f in
        ap (λ (s : Session). over o 0 (session_laid s)) e ∙ ap (over o 0) (session_lays_back o a) ∙ over-same o (laid-long o (session_laid (session_at o)) (open-laid o a))

pub repeat_changes_no_octet : RepeatChangesNoOctet
unfolding RepeatChangesNothing accept
repeat_changes_no_octet = record {
  kept = kept-octets;
  repeated = λ v o e q t l n d fs x p r.
      kept-octets v o (session_in o).source q t p (ap (λ (w : Offered). w.session) (repeat_changes_nothing v (session_in o) e q t l n d fs x p r));
}

pub equal_knowledge_equal_octets : EqualKnowledgeEqualOctets
unfolding EqualKnowledgeEqualOctets EqualKnowledge
equal_knowledge_equal_octets v r a b x y g k = ap holding_laid (equal_knowledge v r a b x y g k)
