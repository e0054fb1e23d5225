use Rattle.std.proofs.Common.{ap, sym, ◌∙◌}
use Rattle.std.specs.Str.{bytes_eq}
use Rattle.completers.specs.Nested.{words_of}
use Rattle.completers.proofs.NestingLemmas.{option_found, option_passed}
use Rattle.completers.proofs.nesting.words_of.Goals as goal

pub returns-then-eq : goal.returns-then-eq
returns-then-eq c =
    let same = ap (λ t. bytes_eq t c.args.name.now) (sym c.as_slice.ensures) ∙ sym c.eq.ensures ∙ c.if-eq.true in
    c.as_ref.ensures.value
    ∙ sym (ap words_of (sym c.loop-option.invariant ∙ option_found c.args.name.now c.args.options.now c.loop-option.option-index c.option-item.result c.loop-option-test.true c.option-item.is same))

pub loop-option-preserved : goal.loop-option-preserved
loop-option-preserved c =
    let other = ap (λ t. bytes_eq t c.args.name.now) (sym c.as_slice.ensures) ∙ sym c.eq.ensures ∙ c.if-eq.false in
    option_passed c.args.name.now c.args.options.now c.loop-option.option-index c.option-item.result c.loop-option-test.true c.option-item.is other
    ∙ c.loop-option.invariant
