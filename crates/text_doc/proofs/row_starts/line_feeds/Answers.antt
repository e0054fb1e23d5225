use Rattle.std.proofs.Common.{eqb, sym, ap, ◌∙◌, arith, take_all}
use Rattle.std.specs.List.{count_by}
use Rattle.text_doc.proofs.StartLists.{length_row_starts}
use Rattle.text_doc.proofs.row_starts.line_feeds.Goals as goal

pub returns-clause-count : goal.returns-clause-count
returns-clause-count c =
    let chars = c.args.chars.now in
    c.loop-c.invariant.counted ∙ ap (count_by (λ x. eqb x 10)) (take_all c.loop-c.c-index chars (omega arith)) ∙ sym (length_row_starts chars)
