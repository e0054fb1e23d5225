-- What the decision on the longest front is, where a front has a best binding or none.
use Rattle.std.proofs.Common.{◌≡◌, ℕ, ◌-◌, ◌≤◌, List, take, Some, None, ap, arith}
use Prim.Native.Nat.{zero, suc}
use Rattle.std.specs.Option.{option_map, option_or}
use Rattle.key_names.specs.declared.key.Key.{Key}
use Rattle.key_proc.specs.declared.bindings.Binding.{Binding}
use Rattle.key_proc.specs.declared.choices.Choice.{Choice}
use Rattle.key_proc.specs.Firing.{matching}
use Rattle.key_proc.specs.Choices.{best_of}
use Rattle.key_proc.specs.Decisions.{fire, decided_on_longest}

-- a front that has a best binding
pub longest-some : (keys : List Key) (bindings : List Binding) (n : ℕ) (choice : Choice) → 1 ≤ n → Some choice ≡ best_of (matching (take n keys)) bindings →
    Some (fire n choice) ≡ decided_on_longest keys bindings n
longest-some keys bindings zero choice some best = absurd (omega arith)
longest-some keys bindings (suc n) choice some best = ap (λ o. option_or (option_map (fire (suc n)) o) (decided_on_longest keys bindings n)) best

-- a front that has none
pub longest-none : (keys : List Key) (bindings : List Binding) (n : ℕ) → 1 ≤ n → None ≡ best_of (matching (take n keys)) bindings →
    decided_on_longest keys bindings (n - 1) ≡ decided_on_longest keys bindings n
longest-none keys bindings zero some best = absurd (omega arith)
longest-none keys bindings (suc n) some best =
    let less : suc n - 1 ≡ n = omega arith in
    rw less (ap (λ o. option_or (option_map (fire (suc n)) o) (decided_on_longest keys bindings n)) best)
