use Rattle.std.proofs.Common.{◌+◌, ◌≤◌, ◌∷◌, ◌++◌, [], length, sym, ap, ◌∙◌, arith, length-append}
use Rattle.text_doc.specs.declared.documents.TheConstants.{MAX_LENGTH}
use Rattle.line_history.specs.Reading.{before_line, front}
use Rattle.line_history.proofs.Fronts.{front_all, front_full}
use Rattle.line_history.proofs.progress.begun_line.Goals as goal

pub returns-then-len-gt-MAX_LENGTH-clause-text : goal.returns-then-len-gt-MAX_LENGTH-clause-text
returns-then-len-gt-MAX_LENGTH-clause-text c =
    let text = c.in-Some.text in
    let short : length text ≤ MAX_LENGTH + 1 = c.requires text c.in-Some.is in
    sym (ap (λ u. front (before_line u)) c.in-Some.is ∙ front_full text (10 ∷ []) (omega arith) short)

pub returns-clause-text : goal.returns-clause-text
returns-clause-text c =
    let text = c.in-Some.text in
    c.in_ok-push.ensures.ok
    ∙ sym (ap (λ u. front (before_line u)) c.in-Some.is ∙ front_all (text ++ 10 ∷ []) (omega (arith, length-append text (10 ∷ []))))
