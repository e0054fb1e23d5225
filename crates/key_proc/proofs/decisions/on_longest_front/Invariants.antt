use Rattle.std.proofs.Common.{◌≡◌, ◌≤◌, List}
use Rattle.key_names.specs.declared.key.Key.{Key}
use Rattle.key_proc.specs.declared.bindings.Binding.{Binding}
use Rattle.key_proc.specs.Choices.{IsFound}
use Rattle.key_proc.specs.Decisions.{decided_on_longest}
use Rattle.key_proc.proofs.decisions.on_longest_front.Given as goal

abbrev pub invariant-loop-used : goal.invariant-loop-used
invariant-loop-used l = record {
  within : l.used ≤ l.count;
  rest : (bindings : List Binding) (keys : List Key) → IsFound bindings keys l.found → decided_on_longest keys bindings l.used ≡ decided_on_longest keys bindings l.count;
}

abbrev pub decreases-loop-used : goal.decreases-loop-used
decreases-loop-used l = l.used
