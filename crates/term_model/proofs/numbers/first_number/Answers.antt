use Rattle.std.proofs.Common.{◌+◌, ◌-◌, ◌*◌, arith, ◌∙◌, length, drop, get_or, take_all, length-drop}
use Rattle.term_model.proofs.NumberLemmas.{numbers_from-separator, numbers_from-digit, numbers_from-end}
use Rattle.term_model.proofs.numbers.first_number.Goals as goal

pub loop-i-preserved : goal.loop-i-preserved
loop-i-preserved c =
    let so_far = c.loop-i.invariant in
    let digit = get_or c.args.params.now c.loop-i.i 0 - 48 in (
      10 * so_far.0 + digit,
      c.min-value.ensures ∙ omega (arith, so_far.1, c.from.ensures, c.saturating_sub.ensures),
      so_far.2 ∙ numbers_from-digit _ _ _ c.loop-i-test.true c.if-b-eq59.false,
    )

pub returns-then-b-eq59-clause-value : goal.returns-then-b-eq59-clause-value
returns-then-b-eq59-clause-value c =
    let params = c.args.params.now in
    let so_far = c.loop-i.invariant in
    rw (take_all (length params - (c.loop-i.i + 1)) (drop (c.loop-i.i + 1) params) (omega (arith, length-drop (c.loop-i.i + 1) params)))
    (rw so_far.1 (so_far.2 ∙ numbers_from-separator _ _ _ c.loop-i-test.true c.if-b-eq59.true))

pub returns-clause-value : goal.returns-clause-value
returns-clause-value c =
    let so_far = c.loop-i.invariant in
    rw so_far.1 (so_far.2 ∙ numbers_from-end _ _ _ c.loop-i-test.false)
