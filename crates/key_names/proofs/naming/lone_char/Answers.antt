use Rattle.std.proofs.Common.{sym, ◌∙◌}
use Rattle.key_names.proofs.Words.{chars-lone, not_lone}
use Rattle.key_names.proofs.naming.lone_char.Goals as goal

pub returns-in-Some-clause-none : goal.returns-in-Some-clause-none
returns-in-Some-clause-none c =
    let whole = c.chars-chars.ensures.rest in
    let first = sym whole ∙ c.in_ok-first.ensures.steps.0 in
    not_lone _ _ _ _ _ c.utf8.text first c.in-Some.ensures.steps.0

pub returns-in-None-clause-found : goal.returns-in-None-clause-found
returns-in-None-clause-found c =
    let whole = c.chars-chars.ensures.rest in
    let first = sym whole ∙ c.in_ok-first.ensures.steps.0 in
    chars-lone _ _ _ c.utf8.text first c.in-None.ensures.steps.0.0
