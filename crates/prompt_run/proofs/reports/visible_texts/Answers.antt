use Rattle.std.proofs.Common.{◌≡◌, ◌++◌, ap, ◌∙◌, drop, ◌+◌}
use Rattle.prompt_run.specs.Report.{row_texts, trimmed, text_of}
use Rattle.prompt_run.proofs.WindowLemmas.{texts_more}
use Rattle.prompt_run.proofs.reports.visible_texts.Goals as goal

pub loop-at-preserved : goal.loop-at-preserved
loop-at-preserved c =
    let made : c.in_ok-text.text ≡ trimmed (text_of c.line.result.now) =
    c.in_ok-text.ensures.text ∙ ap (λ cells. trimmed (text_of cells)) c.as_slice.ensures.value in
    ap (λ texts. texts ++ row_texts (drop (c.loop-at.at + 1) c.args.terminal.now.lines)) c.in_ok-push.ensures.ok
    ∙ texts_more c.args.terminal.now.lines c.loop-at.at c.line.result.now c.loop-at.texts c.in_ok-text.text _ c.line.ensures made c.loop-at.invariant
