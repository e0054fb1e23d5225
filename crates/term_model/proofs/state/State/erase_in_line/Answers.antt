use Rattle.std.proofs.Common.{◌-◌, ℕ, List, replicate, set, ap, ◌∙◌, arith}
use Rattle.cell_grid.specs.declared.cell.Cell.{Cell}
use Rattle.cell_grid.specs.Row.{laid_at}
use Rattle.cell_grid.specs.Grid.{row_at}
use Rattle.term_model.specs.Fields.{term_of}
use Rattle.term_model.specs.Obeying.{wiped, forgotten, line_of}
use Rattle.term_model.proofs.KeepLemmas.{row-line}
use Rattle.term_model.proofs.state.State.erase_in_line.Goals as goal

pub erase_in-requires-clause-whole : goal.erase_in-requires-clause-whole
erase_in-requires-clause-whole c = (row-line (term_of c.args.self.now) c.requires).whole

pub erase_in-requires-clause-within : goal.erase_in-requires-clause-within
erase_in-requires-clause-within c = omega (arith, (row-line (term_of c.args.self.now) c.requires).long, c.requires.col)

pub returns : goal.returns
returns c =
    let t = term_of c.args.self.now in
    let row = row_at t.lines (line_of t) in
    let erased = c.erase_in.ensures ∙ ap (λ (k : ℕ). set t.lines (line_of t) (laid_at row t.col (replicate (k - t.col) (wiped t.pen)))) (row-line t c.requires).long in
    c.forget.ensures ∙ ap (λ (lines : List (List Cell)). forgotten (record t { lines = lines })) erased
