use Rattle.std.proofs.Common.{◌≡◌, ◌+◌, ◌++◌, drop}
use Rattle.prompt_view.specs.Bars.{stacked_from}
use Rattle.prompt_view.proofs.drawings.push_bars.Given as goal

-- the bars so far and those that are left are all bars
abbrev pub invariant-loop-pane : goal.invariant-loop-pane
invariant-loop-pane l = record {
  row : l.row ≡ l.fn.window.rows + l.pane-index;
  all : l.placed ++ stacked_from l.fn.window.cols l.row (drop l.pane-index l.bars) ≡ l.initial.placed ++ stacked_from l.fn.window.cols l.fn.window.rows l.bars;
}
