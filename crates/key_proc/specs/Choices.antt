-- What is kept of the bindings while a table is walked: for each rule, what is needed of the one that it chooses.
use Rattle.std.specs.Prelude.{◌≡◌, Bool, true, false, List, take, filter, Option, Some, None, nat_lt, if◌then◌else◌}
use Rattle.std.specs.List.{list_any}
use Rattle.std.specs.Option.{option_map}
use Rattle.key_names.specs.declared.key.Key.{Key}
use Rattle.key_proc.specs.declared.bindings.Binding.{Binding}
use Rattle.key_proc.specs.declared.choices.Choice.{Choice}
use Rattle.key_proc.specs.declared.choices.Found.{Found}
use Rattle.key_proc.specs.Firing.{any_of, chosen, matching, eager_matching, longer}

-- what is kept of a binding
abbrev pub choice_of : Binding → Choice
choice_of binding = record { any = any_of binding; command = binding.command; save = binding.save }

-- what is kept of the binding that is chosen among those that pass a test
abbrev pub best_of : (Binding → Bool) → List Binding → Option Choice
best_of test bindings = option_map choice_of (chosen (filter test bindings))

-- the better of the best so far and one behind it
abbrev pub better_of : Option Choice → Choice → Option Choice
better_of None choice = Some choice
better_of (Some other) choice = if nat_lt other.any choice.any then Some other else Some choice

-- the same, where the one behind counts
abbrev pub better : Bool → Option Choice → Choice → Option Choice
better false best choice = best
better true best choice = better_of best choice

-- what was found among these bindings for these keys
pub record IsFound (bindings : List Binding) (keys : List Key) (found : Found) : Type 0 where
  pub eager : found.eager ≡ best_of (eager_matching keys) bindings
  pub longer : found.longer ≡ list_any (longer keys) bindings
  pub one : found.one ≡ best_of (matching (take 1 keys)) bindings
  pub two : found.two ≡ best_of (matching (take 2 keys)) bindings
  pub three : found.three ≡ best_of (matching (take 3 keys)) bindings
