use Rattle.std.proofs.Common.{◌≡◌, false}
use Rattle.std.proofs.lemmas.Option.{MatchOption-at_none}
use Rattle.style_sheet.specs.Ascii.{is_ascii}
use Rattle.style_sheet.proofs.WordTexts.{change_word-unlike}
use Rattle.style_sheet.proofs.rules.read_change.Goals as goal

pub returns-in_default-clause-none : goal.returns-in_default-clause-none
returns-in_default-clause-none c =
    change_word-unlike c.args.word.now (MatchOption-at_none (is_ascii c.args.word.now ≡ false) (λ _. Unit {0}) c.in_default.is c.in_ok-bytes.ensures.none)
