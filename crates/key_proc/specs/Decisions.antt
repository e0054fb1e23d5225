-- What is decided of held keys by the bindings that were found for them, and the answer that it becomes.
use Rattle.std.specs.Prelude.{ℕ, ◌-◌, ◌≤◌, Bool, true, false, ◌&&◌, not, List, ◌∷◌, length, take, Option, Some, None, unwrap_or, slice_index_or}
use Rattle.std.specs.List.{list_any}
use Rattle.std.specs.Option.{option_map, option_or}
use Prim.Native.Nat.{zero, suc}
use Rattle.key_names.specs.declared.key.Key.{Key}
use Rattle.key_names.specs.declared.key.KeyPress.{KeyPress}
use Rattle.key_proc.specs.declared.bindings.Binding.{Binding}
use Rattle.key_proc.specs.declared.choices.Choice.{Choice}
use Rattle.key_proc.specs.declared.decisions.Decision.{Decision}
use Rattle.key_proc.specs.declared.decisions.Decision.TheVariants as decision
use Rattle.key_proc.specs.declared.held.Fired.{Fired}
use Rattle.key_proc.specs.declared.held.Fired.TheVariants as fired
use Rattle.key_proc.specs.Firing.{matching, eager_matching, longer}
use Rattle.key_proc.specs.Choices.{best_of}

-- a binding fires on n keys
abbrev pub fire : ℕ → Choice → Decision
fire n choice = decision.Fire choice n

-- the decision on the longest of the first n, n - 1, .., 1 keys that a binding matches, if there is one
abbrev pub decided_on_longest : List Key → List Binding → ℕ → Option Decision
decided_on_longest keys bindings zero = None
decided_on_longest keys bindings (suc n) = option_or (option_map (fire (suc n)) (best_of (matching (take (suc n) keys)) bindings)) (decided_on_longest keys bindings n)

-- the decision to wait
abbrev pub awaited : Bool → Option Decision
awaited true = Some decision.Wait
awaited false = None

-- the decision on these keys
abbrev pub decided : List Binding → List Key → Bool → Decision
decided bindings keys flush =
    unwrap_or (option_or (option_map (fire (length keys)) (best_of (eager_matching keys) bindings))
    (option_or (awaited (not flush && list_any (longer keys) bindings)) (decided_on_longest keys bindings (length keys)))) decision.Drop

-- what fires takes one to n keys
abbrev pub UsesSome : Decision → ℕ → Type 0
UsesSome (decision.Fire choice used) n = (1 ≤ used) × (used ≤ n)
UsesSome decision.Wait n = Unit {0}
UsesSome decision.Drop n = Unit {0}

-- the answer of a decision, where a first press and more are held
abbrev pub answer_of : KeyPress → List KeyPress → Decision → Fired
answer_of first more (decision.Fire choice used) = fired.Fire choice.command choice.save (slice_index_or (first ∷ more) (used - 1) first) used
answer_of first more decision.Wait = fired.Wait
answer_of first more decision.Drop = fired.Dropped first
