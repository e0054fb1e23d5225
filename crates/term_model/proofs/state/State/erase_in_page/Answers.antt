use Rattle.std.proofs.Common.{◌≡◌, ◌+◌, ◌-◌, ◌++◌, ℕ, List, length, take, replicate, set, subst, sym, ap, ◌∙◌, arith}
use Rattle.cell_grid.specs.declared.cell.Cell.{Cell}
use Rattle.cell_grid.specs.Row.{laid_at}
use Rattle.cell_grid.specs.Grid.{AllRows, row_at}
use Rattle.term_model.specs.Fields.{term_of}
use Rattle.term_model.specs.Term.{Term}
use Rattle.term_model.specs.Obeying.{wiped, wiped_row, forgotten, line_of, erased_line}
use Rattle.cell_grid.proofs.GridLemmas.{AllRows-set}
use Rattle.term_model.proofs.EraseLemmas.{page_erased}
use Rattle.term_model.proofs.KeepLemmas.{row-line, row-erased_line, within-lines}
use Rattle.term_model.proofs.state.State.erase_in_page.Goals as goal

pub erase_in-requires-clause-whole : goal.erase_in-requires-clause-whole
erase_in-requires-clause-whole c = (row-line (term_of c.args.self.now) c.requires).whole

pub erase_in-requires-clause-within : goal.erase_in-requires-clause-within
erase_in-requires-clause-within c = omega (arith, (row-line (term_of c.args.self.now) c.requires).long, c.requires.col)

-- the lines after the cursor's line was erased
line_erased : (t : Term) (lines : List (List Cell)) → length (row_at t.lines (line_of t)) ≡ t.cols
    → (let row = row_at t.lines (line_of t) in lines ≡ set t.lines (line_of t) (laid_at row t.col (replicate (length row - t.col) (wiped t.pen))))
    → lines ≡ set t.lines (line_of t) (erased_line t)
line_erased t lines long is =
    is ∙ ap (λ (k : ℕ). set t.lines (line_of t) (laid_at (row_at t.lines (line_of t)) t.col (replicate (k - t.col) (wiped t.pen)))) long

pub erase_lines-requires-clause-wide : goal.erase_lines-requires-clause-wide
erase_lines-requires-clause-wide c =
    let t = term_of c.args.self.now in
    let is = line_erased t c.erase_in.new.lines.items (row-line t c.requires).long c.erase_in.ensures in
    subst (AllRows t.cols) (sym is) (AllRows-set t.cols t.lines (line_of t) (erased_line t) c.requires.wide (row-erased_line t c.requires))

pub returns : goal.returns
returns c =
    let t = term_of c.args.self.now in
    let lines = c.erase_in.new.lines in
    let is = line_erased t lines.items (row-line t c.requires).long c.erase_in.ensures in
    let from = line_of t + 1 in
    let both =
    c.erase_lines.ensures
    ∙ ap (λ (k : ℕ). take from lines.items ++ replicate (k - from) (wiped_row t)) lines.ok.0
    ∙ ap (λ (rows : List (List Cell)). take from rows ++ replicate (length rows - from) (wiped_row t)) is
    ∙ page_erased t.lines (line_of t) t.rows t.row (erased_line t) (wiped_row t) (within-lines t c.requires) (omega (arith, c.requires.count, c.requires.row)) in
    c.forget.ensures ∙ ap (λ (rows : List (List Cell)). forgotten (record t { lines = rows })) both
