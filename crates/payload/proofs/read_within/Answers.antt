-- `payload::read_within` meets its contract: each check is a law of `Checks`. Assumes nothing.
use Rattle.std.proofs.Common.{◌≡◌, sym, ap, ◌∙◌, arith, length, length-drop}
use Rattle.std.specs.Option.{option_copied}
use Rattle.std.proofs.lemmas.Option.{slice_get_within}
use Rattle.answers.proofs.Exits.{exits}
use Rattle.payload.proofs.Checks.{no-octet, n-above, l-above, at-fault, bodies-cut, octets-left, exact}
use Rattle.answers.proofs.Exits.{same_ok}
use Rattle.payload.specs.declared.Contents.{Contents}
use Rattle.payload.proofs.Tables.{counted}
use Rattle.payload.proofs.read_within.Goals as goal

pub returns-in_default-clause-value : goal.returns-in_default-clause-value
returns-in_default-clause-value c = no-octet _ _ _ (sym c.first.ensures.value ∙ ap option_copied c.in_default.is)

pub returns-then-l-n-clause-value : goal.returns-then-l-n-clause-value
returns-then-l-n-clause-value c = n-above _ _ _ _ (sym c.first.ensures.value ∙ ap option_copied c.in-Some.is) c.if-l-n.true

pub returns-then-limits-l-clause-value : goal.returns-then-limits-l-clause-value
returns-then-limits-l-clause-value c =
    l-above _ _ _ _ (sym c.first.ensures.value ∙ ap option_copied c.in-Some.is) c.if-l-n.false c.if-limits-l.true

pub returns-in_err-count-clause-value : goal.returns-in_err-count-clause-value
returns-in_err-count-clause-value c =
    exits _ _ c.from_residual.ensures.1
    ∙ at-fault _ _ _ _ (sym c.first.ensures.value ∙ ap option_copied c.in-Some.is) c.if-l-n.false c.if-limits-l.false _
    (sym c.in_err-count.was ∙ c.walk.ensures.value)

pub overflow_sub-left-2 : goal.overflow_sub-left-2
overflow_sub-left-2 c =
    omega (arith, (counted _ _ _ _ _ _ (sym c.in_ok-count.was ∙ c.walk.ensures.value)).within, length-drop 1 c.args.payload.now)

pub first_cut-requires : goal.first_cut-requires
first_cut-requires c =
    let h = counted _ _ _ _ _ _ (sym c.in_ok-count.was ∙ c.walk.ensures.value) in
    let there = slice_get_within c.args.payload.now 0 c.in-Some.head.now (sym c.first.ensures.value ∙ ap option_copied c.in-Some.is) in
    let s : length c.walk.new.sums ≡ length c.args.sums.now = c.walk.auto.sums in (
      h.some,
      omega (arith, there, h.within, length-drop 1 c.args.payload.now),
      omega (arith, h.few, s),
      c.walk.ensures.sums_kept _ _ _ c.in_ok-count.was 0 h.some,
    )

pub returns-then-left-size-clause-value : goal.returns-then-left-size-clause-value
returns-then-left-size-clause-value c =
    let first = c.first_cut.ensures _ (c.walk.ensures.sums_kept _ _ _ c.in_ok-count.was) in
    bodies-cut _ _ _ _ (sym c.first.ensures.value ∙ ap option_copied c.in-Some.is) c.if-l-n.false c.if-limits-l.false _ _ _
    (sym c.in_ok-count.was ∙ c.walk.ensures.value) _ first c.if-left-size.true

pub returns-then-size-left-clause-value : goal.returns-then-size-left-clause-value
returns-then-size-left-clause-value c =
    octets-left _ _ _ _ (sym c.first.ensures.value ∙ ap option_copied c.in-Some.is) c.if-l-n.false c.if-limits-l.false _ _ _
    (sym c.in_ok-count.was ∙ c.walk.ensures.value) c.if-size-left.true

pub overflow_cast-b : goal.overflow_cast-b
overflow_cast-b c = omega (arith, (counted _ _ _ _ _ _ (sym c.in_ok-count.was ∙ c.walk.ensures.value)).few)

pub returns-clause-value : goal.returns-clause-value
returns-clause-value c =
    exact _ _ _ _ (sym c.first.ensures.value ∙ ap option_copied c.in-Some.is) c.if-l-n.false c.if-limits-l.false _ _ _
    (sym c.in_ok-count.was ∙ c.walk.ensures.value) c.if-left-size.false c.if-size-left.false

pub returns-clause-sums_kept : goal.returns-clause-sums_kept
returns-clause-sums_kept c = λ l n b d e i q.
    let f = ap (λ (x : Contents). x.b) (same_ok _ _ e) in
    c.walk.ensures.sums_kept _ _ _ c.in_ok-count.was i (omega (arith, f))
