-- What a contract sees of a drawing: the rows of its grid, and the cursor's row and column.
use Rattle.cell_grid.specs.declared.drawing.Drawing.{Drawing}

-- the rows of cells as `grid`, and the cursor's place as `row` and `col`
abbrev pub Drawn : Type 0
Drawn = Drawing
