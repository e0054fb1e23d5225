use Rattle.std.proofs.Common.{◌≡◌, false}
use Rattle.std.proofs.lemmas.Option.{MatchOption-at_none}
use Rattle.style_sheet.specs.Ascii.{is_ascii}
use Rattle.style_sheet.proofs.RuleTexts.{class_name-unlike}
use Rattle.style_sheet.proofs.rules.read_class.Goals as goal

pub returns-in_default-clause-none : goal.returns-in_default-clause-none
returns-in_default-clause-none c =
    class_name-unlike c.args.name.now (MatchOption-at_none (is_ascii c.args.name.now ≡ false) (λ _. Unit {0}) c.in_default.is c.in_ok-bytes.ensures.none)
