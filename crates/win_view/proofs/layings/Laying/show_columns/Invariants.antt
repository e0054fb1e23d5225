use Rattle.std.proofs.Common.{◌≡◌, length, fold, take, map, All}
use Rattle.cell_grid.specs.Grid.{columns}
use Rattle.cell_grid.specs.Row.{IsWhole}
use Rattle.win_view.specs.Showing.{HasRoom, passed}
use Rattle.win_view.specs.Views.{columns_from}
use Rattle.win_view.proofs.layings.Laying.show_columns.Given as goal

abbrev pub invariant-loop-line : goal.invariant-loop-line
invariant-loop-line l = record {
  passed : (l.self, l.grid) ≡ fold passed (l.initial.self, l.initial.grid) (map (columns_from l.across (length l.initial.self.spaces.items)) (take l.line-index l.lines));
  whole : All IsWhole (take l.line-index l.lines);
  inside : l.self.above ≡ 0;
  room : HasRoom l.self l.grid;
  cols : columns l.grid ≡ columns l.initial.grid;
}
