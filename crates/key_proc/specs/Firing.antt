-- Which binding fires. Each rule filters the list of the active bindings, and the first rule that has an answer gives it.
use Rattle.std.specs.Prelude.{ℕ, ◌-◌, Bool, true, false, ◌&&◌, not, List, [], ◌∷◌, length, take, map, filter, nat_le, slice_get, slice_index_or, Option, Some, None, unwrap_or}
use Prim.Native.Nat.{zero, suc}
use Rattle.std.specs.List.{list_any, list_all}
use Rattle.std.specs.Option.{option_map, option_or}
use Rattle.key_names.specs.declared.key.Key.{Key}
use Rattle.key_names.specs.declared.key.KeyPress.{KeyPress}
use Rattle.key_proc.specs.declared.facts.Fact.{Fact}
use Rattle.key_proc.specs.declared.bindings.Binding.{Binding}
use Rattle.key_proc.specs.declared.held.Fired.{Fired}
use Rattle.key_proc.specs.declared.held.Fired.TheVariants.{Fire, Dropped, Wait, Nothing}
use Rattle.key_proc.specs.Filters.{holds}
use Rattle.key_proc.specs.Matching.{matches, begins, count_any}

-- the keys of presses
abbrev pub keys_of : List KeyPress → List Key
keys_of held = map (λ press. press.key) held

-- the active bindings of a table: those whose filter holds
abbrev pub active : List Binding → (Fact → Bool) → List Binding
active table facts = filter (λ binding. holds facts binding.filter) table

-- whether a binding matches these keys
abbrev pub matching : List Key → Binding → Bool
matching keys binding = matches binding.keys keys

-- whether a binding is eager, and matches these keys
abbrev pub eager_matching : List Key → Binding → Bool
eager_matching keys binding = binding.eager && matches binding.keys keys

-- whether a binding has more keys than these, which its first keys match
abbrev pub longer : List Key → Binding → Bool
longer keys binding = begins binding.keys keys

-- how many `Any` a binding has
abbrev pub any_of : Binding → ℕ
any_of binding = count_any binding.keys

-- those of several bindings that have the fewest `Any`: none has fewer
abbrev pub with_fewest_any : List Binding → List Binding
with_fewest_any bindings = filter (λ binding. list_all (λ other. nat_le (any_of binding) (any_of other)) bindings) bindings

-- the last item of a list
abbrev pub last_of : List Binding → Option Binding
last_of bindings = slice_get bindings (length bindings - 1)

-- of several bindings the one with the fewest `Any`, and among these the one added last
abbrev pub chosen : List Binding → Option Binding
chosen bindings = last_of (with_fewest_any bindings)

-- the answer where a binding fires on the first n of these presses, of which there is a first
abbrev pub fire_on : KeyPress → List KeyPress → ℕ → Binding → Fired
fire_on first more n binding = Fire binding.command binding.save (slice_index_or (first ∷ more) (n - 1) first) n

-- the answer by the bindings that match the first n presses, if there is one
abbrev pub fired : KeyPress → List KeyPress → ℕ → List Binding → Option Fired
fired first more n bindings = option_map (fire_on first more n) (chosen bindings)

-- the answer by the bindings that match the longest of the first n, n - 1, .., 1 presses, if there is one
abbrev pub fired_on_longest : KeyPress → List KeyPress → List Binding → ℕ → Option Fired
fired_on_longest first more bindings zero = None
fired_on_longest first more bindings (suc n) =
    option_or (fired first more (suc n) (filter (matching (take (suc n) (keys_of (first ∷ more)))) bindings)) (fired_on_longest first more bindings n)

-- the answer of keys that wait for more
abbrev pub waiting : Bool → Option Fired
waiting true = Some Wait
waiting false = None

-- the first answer among eager bindings that match all presses, longer ones without a flush, and those that match all presses or the longest front of them
abbrev pub answer : List Binding → KeyPress → List KeyPress → Bool → Option Fired
answer bindings first more flush =
    option_or (fired first more (length (first ∷ more)) (filter (eager_matching (keys_of (first ∷ more))) bindings))
    (option_or (waiting (not flush && list_any (longer (keys_of (first ∷ more))) bindings)) (fired_on_longest first more bindings (length (first ∷ more))))

-- what happens to the held presses under some bindings: where no rule answers, the first is dropped
abbrev pub fires_among : List Binding → List KeyPress → Bool → Fired
fires_among bindings [] flush = Nothing
fires_among bindings (first ∷ more) flush = unwrap_or (answer bindings first more flush) (Dropped first)

-- what happens to the held presses, with a table of bindings and the facts that hold
abbrev pub fires : List Binding → (Fact → Bool) → List KeyPress → Bool → Fired
fires table facts held flush = fires_among (active table facts) held flush

-- how many of the held presses an answer takes
abbrev pub taken : Fired → ℕ
taken (Fire command save last used) = used
taken (Dropped press) = 1
taken Wait = 0
taken Nothing = 0
