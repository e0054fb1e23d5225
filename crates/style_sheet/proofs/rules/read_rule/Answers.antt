use Rattle.std.proofs.Common.{◌≡◌, ◌++◌, ◌∷◌}
use Rattle.std.proofs.lemmas.Option.{MatchOption-at_none, MatchOption-at_some}
use Rattle.style_sheet.specs.declared.classes.Class.{Class}
use Rattle.style_sheet.specs.ClassName.{class_name}
use Rattle.style_sheet.proofs.RuleTexts.{unknown_class}
use Rattle.style_sheet.proofs.rules.read_rule.Goals as goal

pub returns-in_default-2-clause-none : goal.returns-in_default-2-clause-none
returns-in_default-2-clause-none c =
    unknown_class c.args.text.now c.cut.result.0.now c.in-Some.words.now
    (MatchOption-at_some (c.args.text.now ≡ c.cut.result.0.now) (λ behind. c.args.text.now ≡ c.cut.result.0.now ++ 61 ∷ behind.now) c.in-Some.words c.in-Some.is c.cut.ensures.whole)
    c.cut.ensures.first
    (MatchOption-at_none ((class : Class) → class_name class ≡ c.cut.result.0.now → ⊥) (λ _. Unit {0}) c.in_default-2.is c.in_ok-class.ensures.none)
