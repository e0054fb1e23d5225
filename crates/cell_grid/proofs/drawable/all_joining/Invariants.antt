use Rattle.std.proofs.Common.{drop, ◌↔◌}
use Rattle.cell_grid.specs.Drawable.{AllJoining}
use Rattle.cell_grid.proofs.drawable.all_joining.Given as goal

abbrev pub invariant-loop-c : goal.invariant-loop-c
invariant-loop-c l = AllJoining (drop l.c-index l.text) ↔ AllJoining l.text
