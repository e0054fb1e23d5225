use Rattle.std.proofs.Common.{◌++◌, ap, ◌∙◌}
use Rattle.bstr.specs.Utf8.{lossy_chars}
use Rattle.line_history.specs.Reading.{before_line, front}
use Rattle.line_history.proofs.Fronts.{front-front_append}
use Rattle.line_history.proofs.progress.extended_text.Goals as goal

pub returns-clause-text : goal.returns-clause-text
returns-clause-text c =
    let chars = lossy_chars c.args.line.now in
    c.in_ok-push_chars.ensures.text ∙ ap (λ t. front (t ++ chars)) c.in_ok-text.ensures.text
    ∙ front-front_append (before_line c.args.unfinished) chars
