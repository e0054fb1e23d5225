use Rattle.std.proofs.Common.{◌≡◌, length, fold, take, flat_map, All}
use Rattle.cell_grid.specs.Grid.{columns}
use Rattle.cell_grid.specs.Row.{IsWhole}
use Rattle.win_view.specs.Rows.{rows_of}
use Rattle.win_view.specs.Showing.{HasRoom, passed}
use Rattle.win_view.proofs.layings.Laying.show_lines.Given as goal

abbrev pub invariant-loop-line : goal.invariant-loop-line
invariant-loop-line l = record {
  passed : (l.self, l.grid) ≡ fold passed (l.initial.self, l.initial.grid) (flat_map (rows_of (length l.initial.self.spaces.items)) (take l.line-index l.lines));
  whole : All IsWhole (take l.line-index l.lines);
  room : HasRoom l.self l.grid;
  cols : columns l.grid ≡ columns l.initial.grid;
}
