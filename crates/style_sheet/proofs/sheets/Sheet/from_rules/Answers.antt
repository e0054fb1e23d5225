use Rattle.std.proofs.Common.{subst, ◌∙◌, ap}
use Rattle.std.proofs.lemmas.Result.{err_from_is_err_and}
use Rattle.style_sheet.specs.Grammar.{IsCauseOf, parts_of}
use Rattle.style_sheet.proofs.RuleTexts.{none_outside, only_no_memory, told_outside, spelled-same, spells-parts}
use Rattle.style_sheet.proofs.sheets.Sheet.from_rules.Goals as goal

pub returns-in_err-rules-clause-only : goal.returns-in_err-rules-clause-only
returns-in_err-rules-clause-only c =
    let p = err_from_is_err_and c.from_residual.result c.from_residual.ensures.1 in
    rw (p.1, p.2)
    (only_no_memory c.args.rules.now c.in_err-rules.field-0.0 (subst (λ text. IsCauseOf text c.in_err-rules.field-0.0) c.as_slice.ensures c.in_err-rules.ensures.cause))

pub returns-in_err-rules-clause-outside : goal.returns-in_err-rules-clause-outside
returns-in_err-rules-clause-outside c =
    let p = err_from_is_err_and c.from_residual.result c.from_residual.ensures.1 in
    rw (p.1, p.2)
    (told_outside c.args.rules.now c.in_err-rules.field-0.0 (subst (λ text. IsCauseOf text c.in_err-rules.field-0.0) c.as_slice.ensures c.in_err-rules.ensures.cause))

pub returns-clause-read : goal.returns-clause-read
returns-clause-read c =
    spells-parts c.args.rules.now c.in_ok-rules.rules.items c.in_ok-rules.ensures.each (c.in_ok-rules.ensures.parts ∙ ap (λ text. parts_of text) c.as_slice.ensures)

pub returns-clause-only : goal.returns-clause-only
returns-clause-only c = λ sheet spelled.
    spelled-same c.args.rules.now c.in_ok-rules.rules.items sheet c.in_ok-rules.ensures.each (c.in_ok-rules.ensures.parts ∙ ap (λ text. parts_of text) c.as_slice.ensures) spelled

pub returns-clause-outside : goal.returns-clause-outside
returns-clause-outside c = λ at first.
    none_outside c.args.rules.now c.in_ok-rules.rules.items at c.in_ok-rules.ensures.each (c.in_ok-rules.ensures.parts ∙ ap (λ text. parts_of text) c.as_slice.ensures) first
