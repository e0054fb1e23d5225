use Rattle.std.proofs.Common.{◌≡◌, ◌≤◌, ◌++◌, [], length}
use Rattle.session_core.proofs.commands.keys_behind.Given as goal

-- the held keys are those that were taken and those that are left
abbrev pub invariant-loop-key : goal.invariant-loop-key
invariant-loop-key l = record {
  all : l.kept ++ l.held ≡ l.fn.held;
  fewer : length l.held ≤ length l.fn.held;
}

abbrev pub decreases-loop-key : goal.decreases-loop-key
decreases-loop-key l = length l.held

-- and so are these with the keys behind them
abbrev pub invariant-loop-key-2 : goal.invariant-loop-key-2
invariant-loop-key-2 l = record {
  all : l.kept ++ l.left ≡ l.fn.held ++ l.fn.keys;
  none : l.held ≡ [];
}

abbrev pub decreases-loop-key-2 : goal.decreases-loop-key-2
decreases-loop-key-2 l = length l.left
