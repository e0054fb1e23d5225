use Rattle.std.proofs.Common.{◌≡◌, ◌-◌, ◌<◌, ◌≤◌, length, get_or, ap, ◌∙◌, arith}
use Rattle.text_doc.specs.Rows.{row_of}
use Rattle.text_doc.specs.RowStarts.{row_starts}
use Rattle.text_doc.proofs.StartRows.{IsEndOf-next, IsEndOf-last}
use Rattle.text_doc.proofs.rows.line_end.Goals as goal

pub returns-then-row-last_row-clause-end : goal.returns-then-row-last_row-clause-end
returns-then-row-last_row-clause-end c =
    let text = c.args.text.now in
    let row = c.row_of-row.result in
    let below : row < length (row_starts text) = omega (arith, c.if-row-last_row.true, c.last_row.ensures) in
    let start : c.start_of.result ≡ get_or (row_starts text) row 0 = c.start_of.ensures.start ∙ ap (λ n. get_or (row_starts text) n 0) (omega arith) in
    let end = IsEndOf-next text c.args.place row c.requires c.row_of-row.ensures.row below in
    ap (λ n. n - 1) start ∙ end.is

pub returns-then-row-last_row-clause-behind : goal.returns-then-row-last_row-clause-behind
returns-then-row-last_row-clause-behind c =
    let text = c.args.text.now in
    let row = c.row_of-row.result in
    let below : row < length (row_starts text) = omega (arith, c.if-row-last_row.true, c.last_row.ensures) in
    let start : c.start_of.result ≡ get_or (row_starts text) row 0 = c.start_of.ensures.start ∙ ap (λ n. get_or (row_starts text) n 0) (omega arith) in
    let end = IsEndOf-next text c.args.place row c.requires c.row_of-row.ensures.row below in
    omega (arith, end.behind)

pub returns-else-row-last_row-clause-end : goal.returns-else-row-last_row-clause-end
returns-else-row-last_row-clause-end c =
    let text = c.args.text.now in
    let last : length (row_starts text) ≤ row_of text c.args.place = omega (arith, c.if-row-last_row.false, c.last_row.ensures, c.row_of-row.ensures.row) in
    c.len.ensures.len ∙ IsEndOf-last text c.args.place c.requires last
