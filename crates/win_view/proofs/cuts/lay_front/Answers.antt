use Rattle.std.proofs.Common.{◌≡◌, ◌+◌, ◌-◌, List, [], ◌∷◌, length, set, false, refl, sym, ap, subst, ◌∙◌, arith}
use Rattle.cell_grid.specs.declared.cell.Cell.{Cell}
use Rattle.cell_grid.specs.Grid.{row_at}
use Rattle.cell_grid.specs.Row.{IsWhole, laid_at}
use Rattle.win_view.specs.Views.{half_of, spaced_end}
use Rattle.win_view.proofs.ColumnCuts.{spaced_end-empty, spaced_end-other, spaced_end-wide, whole-before}
use Rattle.win_view.proofs.Laid.{set-behind}
use Rattle.win_view.proofs.cuts.lay_front.Goals as goal
use Rattle.win_view.proofs.cuts.lay_front.Goals.{else-len-gt0-via-then-len-gt0+else-is_wide, else-len-gt0-via-else-len-gt0}

pub lay-requires-clause-whole : goal.lay-requires-clause-whole
lay-requires-clause-whole c =
    let cells = c.args.cells.now in
    let front = c.split_at.result.0.now in
    let attrs = c.attrs_of.result in
    let cut = spaced_end-wide cells front (length cells - 1) c.index-cells-len.result c.index-cells-len-then-is_wide.result (half_of attrs) attrs (omega arith) c.split_at.ensures.front
    c.index-cells-len.is c.if-is_wide.ensures c.index-cells-len-then-is_wide.is c.attrs_of.ensures refl in
    whole-before false front attrs (subst IsWhole cut c.requires.whole)

pub returns-then-is_wide-clause-laid : goal.returns-then-is_wide-clause-laid
returns-then-is_wide-clause-laid c =
    let cells = c.args.cells.now in
    let grid = c.args.grid.now in
    let row = c.args.row in
    let col = c.args.col in
    let front = c.split_at.result.0.now in
    let half = c.half_of-half.result in
    let attrs = c.attrs_of.result in
    let place = col + (length cells - 1) in
    let cut = spaced_end-wide cells front (length cells - 1) c.index-cells-len.result c.index-cells-len-then-is_wide.result half attrs (omega arith) c.split_at.ensures.front
    c.index-cells-len.is c.if-is_wide.ensures c.index-cells-len-then-is_wide.is c.attrs_of.ensures c.half_of-half.ensures in
    let halved = spaced_end-wide cells front (length cells - 1) c.index-cells-len.result c.index-cells-len-then-is_wide.result (half_of attrs) attrs (omega arith) c.split_at.ensures.front
    c.index-cells-len.is c.if-is_wide.ensures c.index-cells-len-then-is_wide.is c.attrs_of.ensures refl in
    let whole = whole-before false front attrs (subst IsWhole halved c.requires.whole) in
    c.lay-then-is_wide.ensures.laid
    ∙ ap (λ (rows : List (List Cell)). set rows row (laid_at (row_at rows row) place (half ∷ []))) c.lay.ensures.laid
    ∙ set-behind c.cols.result grid row col place front (half ∷ []) c.cols.ensures.every c.requires.row_within whole
    (omega (arith, c.split_at.ensures.front_len, c.requires.fits, c.cols.ensures.value)) (omega (arith, c.split_at.ensures.front_len))
    ∙ ap (λ (all : List Cell). set grid row (laid_at (row_at grid row) col all)) (sym cut)

pub lay-requires-2-clause-whole : goal.lay-requires-2-clause-whole
lay-requires-2-clause-whole c =
    let cells = c.args.cells.now in
    elim c.else-len-gt0.branch [
      | else-len-gt0-via-then-len-gt0+else-is_wide w ↦
          subst IsWhole (sym (spaced_end-other cells (length cells - 1) w.index-cells-len.result (omega arith) w.index-cells-len.is w.if-is_wide.ensures)) c.requires.whole
      | else-len-gt0-via-else-len-gt0 w ↦ subst IsWhole (sym (spaced_end-empty cells (omega arith))) c.requires.whole
    ]

pub returns-clause-laid : goal.returns-clause-laid
returns-clause-laid c =
    let cells = c.args.cells.now in
    let same : cells ≡ spaced_end cells =
    elim c.else-len-gt0.branch [
      | else-len-gt0-via-then-len-gt0+else-is_wide w ↦
          spaced_end-other cells (length cells - 1) w.index-cells-len.result (omega arith) w.index-cells-len.is w.if-is_wide.ensures
      | else-len-gt0-via-else-len-gt0 w ↦ spaced_end-empty cells (omega arith)
    ]
    in
    c.lay-2.ensures.laid ∙ ap (λ (all : List Cell). set c.args.grid.now c.args.row (laid_at (row_at c.args.grid.now c.args.row) c.args.col all)) same
