use Rattle.cell_grid.proofs.GridLemmas.{block-blank_row, cut_in_rows-blank_row}
use Rattle.cell_grid.proofs.grid.Grid.blank.Goals as goal

pub invariant_of-result : goal.invariant_of-result
invariant_of-result c =
    let all = c.in_ok-cells.ensures.items_if_clones_equal (λ y h. h) in
    rw (all, c.start_of.ensures, c.blank.ensures)
    (block-blank_row c.args.rows c.args.cols c.requires.some_rows c.requires.few_rows c.requires.some_cols c.requires.few_cols)

pub returns : goal.returns
returns c =
    let all = c.in_ok-cells.ensures.items_if_clones_equal (λ y h. h) in
    rw (all, c.start_of.ensures, c.blank.ensures) (cut_in_rows-blank_row c.args.rows c.args.cols)
