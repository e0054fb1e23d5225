use Rattle.std.proofs.Common.{◌≡◌, ◌≤◌, ◌<◌, ℕ}
use Rattle.cell_grid.specs.Cell.{blank}
use Rattle.diff_render.specs.Changes.{cell_at}
use Rattle.diff_render.proofs.rows.blank_from.Given as goal

abbrev pub invariant-loop-at : goal.invariant-loop-at
invariant-loop-at l = record {
  within : l.end ≤ l.at;
  blanks : (k : ℕ) → l.end ≤ k → k < l.at → cell_at l.cells k ≡ blank;
}
