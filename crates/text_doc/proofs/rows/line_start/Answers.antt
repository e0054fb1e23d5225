use Rattle.std.proofs.Common.{◌≡◌, ap, ◌∙◌, arith}
use Rattle.text_doc.specs.Rows.{line_start, row_start}
use Rattle.text_doc.proofs.StartRows.{IsRowOf-place}
use Rattle.text_doc.proofs.rows.line_start.Goals as goal

pub returns-clause-start : goal.returns-clause-start
returns-clause-start c =
    let text = c.args.text.now in
    let row = IsRowOf-place text c.args.place c.requires in
    c.row_start.ensures.start ∙ ap (row_start text) c.row_of.ensures.row ∙ row.line

pub returns-clause-within : goal.returns-clause-within
returns-clause-within c =
    let text = c.args.text.now in
    let row = IsRowOf-place text c.args.place c.requires in
    let is : c.row_start.result ≡ line_start text c.args.place = c.row_start.ensures.start ∙ ap (row_start text) c.row_of.ensures.row ∙ row.line in
    omega (arith, row.within)
