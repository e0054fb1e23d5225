use Rattle.std.proofs.Common.{◌≡◌, None, length}
use Rattle.session_core.specs.Keys.{ran_keys}
use Rattle.session_core.proofs.sessions.Session.run_keys.Given as goal

-- the prompt goes on, and running the keys that are left gives what running all of them gave
abbrev pub invariant-loop-key : goal.invariant-loop-key
invariant-loop-key l = record {
  on : l.self.outcome ≡ None;
  ran : ran_keys l.self l.left ≡ ran_keys l.fn.self l.fn.keys;
}

abbrev pub decreases-loop-key : goal.decreases-loop-key
decreases-loop-key l = length l.left
