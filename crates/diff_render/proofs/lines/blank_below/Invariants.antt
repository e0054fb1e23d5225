use Rattle.std.proofs.Common.{◌≡◌, ◌-◌, ◌≤◌, ◌<◌, ℕ}
use Rattle.cell_grid.specs.Row.{blank_row}
use Rattle.cell_grid.specs.Grid.{columns, row_at}
use Rattle.diff_render.specs.Redrawn.{IsDrawnRow}
use Rattle.diff_render.proofs.lines.blank_below.Given as goal

abbrev pub invariant-loop-row : goal.invariant-loop-row
invariant-loop-row l = record {
  within : l.end ≤ l.row;
  blanks : (k : ℕ) → l.end ≤ k → k < l.row → row_at l.grid k ≡ blank_row (columns l.grid);
  drawn : 0 < l.end → IsDrawnRow (l.end - 1) l.grid;
}
