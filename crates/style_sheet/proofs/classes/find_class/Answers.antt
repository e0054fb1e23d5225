use Rattle.std.proofs.Common.{ap, ◌∙◌, arith}
use borrow.Author.Count.{below_more}
use Rattle.std.proofs.lemmas.Bool.{false≢true}
use Rattle.std.proofs.lemmas.List.{get_or_default}
use Rattle.style_sheet.specs.declared.classes.Class.TheVariants.{Prompt}
use Rattle.style_sheet.specs.ClassName.{class_name, classes, place}
use Rattle.style_sheet.proofs.Tables.{at_place, place-below}
use Rattle.style_sheet.proofs.classes.find_class.Goals as goal

pub loop-class-preserved : goal.loop-class-preserved
loop-class-preserved c = below_more _ _ c.loop-class.invariant (λ named.
    false≢true (c.if-is_named.ensures.1 (ap (λ k. class_name k) (get_or_default classes c.loop-class.class-index _ Prompt c.loop-class-test.true) ∙ named)))

pub returns-clause-none : goal.returns-clause-none
returns-clause-none c = λ class named.
    c.loop-class.invariant (place class) (omega (arith, place-below class)) (ap (λ k. class_name k) (at_place class) ∙ named)
