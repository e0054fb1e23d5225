use Rattle.std.proofs.Common.{◌≡◌, ◌+◌, ◌-◌, arith, ◌∙◌, ap}
use Rattle.text_doc.specs.Rows.{line_start, row_of}
use Rattle.text_doc.proofs.RowLaws.{index_of-row_col}
use Rattle.text_doc.proofs.documents.Doc.row_col_of.Goals as goal

pub returns-clause-round_trip : goal.returns-clause-round_trip
returns-clause-round_trip c =
    let row : c.row_of-row.result ≡ row_of c.args.self.now.text c.args.place = c.row_of-row.ensures.row ∙ ap (λ t. row_of t c.args.place) c.indexed-text.ensures.text in
    let start : c.line_start-start.result ≡ line_start c.args.self.now.text c.args.place = c.line_start-start.ensures.start ∙ ap (λ t. line_start t c.args.place) c.indexed-text.ensures.text in
    let within = c.line_start-start.ensures.within in
    let column : line_start c.args.self.now.text c.args.place + (c.args.place - c.line_start-start.result) ≡ c.args.place = rw (← start) (omega arith) in
    rw row (index_of-row_col c.args.self.now.text c.args.place (c.args.place - c.line_start-start.result) c.requires column)
