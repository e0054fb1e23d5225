use Rattle.std.proofs.Common.{length, ◌≡◌, take}
use Rattle.std.specs.List.{flat_map}
use Rattle.win_view.specs.Rows.{rows_of}
use Rattle.win_view.proofs.heights.wrapped_height.Given as goal

abbrev pub invariant-loop-line : goal.invariant-loop-line
invariant-loop-line l = record {
  value : l.rows ≡ length (flat_map (rows_of l.width) (take l.line-index l.lines));
}
