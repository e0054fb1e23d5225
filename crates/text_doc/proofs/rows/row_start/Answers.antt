use Rattle.std.proofs.Common.{◌≡◌, ◌<◌, min, length, ◌∙◌, arith}
use Rattle.text_doc.specs.RowStarts.{row_starts}
use Rattle.text_doc.proofs.StartRows.{row_start_first, row_start_at}
use Rattle.text_doc.proofs.rows.row_start.Goals as goal

pub returns-then-number-eq0-clause-start : goal.returns-then-number-eq0-clause-start
returns-then-number-eq0-clause-start c =
    let text = c.args.text.now in
    let number : c.min-number.result ≡ min c.args.row (length (row_starts text)) = omega (arith, c.min-number.ensures, c.last_row.ensures) in
    row_start_first text c.args.row c.min-number.result number c.if-number-eq0.true

pub returns-else-number-eq0-clause-start : goal.returns-else-number-eq0-clause-start
returns-else-number-eq0-clause-start c =
    let text = c.args.text.now in
    let number : c.min-number.result ≡ min c.args.row (length (row_starts text)) = omega (arith, c.min-number.ensures, c.last_row.ensures) in
    let some : 0 < c.min-number.result = omega (arith, c.if-number-eq0.false) in
    c.start_of.ensures.start ∙ row_start_at text c.args.row c.min-number.result number some
