use Rattle.std.proofs.Common.{◌≡◌, ◌-◌, length}
use Rattle.win_view.specs.Views.{filled_with}
use Rattle.prompt_view.proofs.menus.fill.Given as goal

-- the row filled up is the first one filled up
abbrev pub invariant-loop-attrs : goal.invariant-loop-attrs
invariant-loop-attrs l = filled_with l.attrs l.width l.row ≡ filled_with l.attrs l.width l.initial.row

abbrev pub decreases-loop-attrs : goal.decreases-loop-attrs
decreases-loop-attrs l = l.width - length l.row
