-- What the laws of firing speak of.
use Rattle.std.specs.Prelude.{◌≡◌, ℕ, ◌<◌, ◌≤◌, Bool, true, false, not, ◌&&◌, List, [], ◌∷◌, length, take, drop, All}
use Rattle.std.specs.List.{list_any}
use Rattle.key_names.specs.declared.key.Key.{Key}
use Rattle.key_names.specs.declared.key.KeyPress.{KeyPress}
use Rattle.key_proc.specs.declared.facts.Fact.{Fact}
use Rattle.key_proc.specs.declared.bindings.Binding.{Binding}
use Rattle.key_proc.specs.Firing.{any_of, matching, eager_matching, longer, fires, taken}

-- a binding passes a test, and of the others that pass it each before has at least as many `Any`, and each behind more
pub record HasFewestAny (test : Binding → Bool) (before : List Binding) (binding : Binding) (after : List Binding) : Type 0 where
  pub passes : test binding ≡ true
  pub earlier : All (λ other. test other ≡ true → any_of binding ≤ any_of other) before
  pub later : All (λ other. test other ≡ true → any_of binding < any_of other) after

-- no eager binding matches these keys, and no longer one is awaited
pub record MayFire (bindings : List Binding) (keys : List Key) (flush : Bool) : Type 0 where
  pub not_eager : list_any (eager_matching keys) bindings ≡ false
  pub not_awaited : (not flush && list_any (longer keys) bindings) ≡ false

-- no binding matches a front of more than n of these keys
abbrev pub NoneOnLonger : List Binding → List Key → ℕ → Type 0
NoneOnLonger bindings keys n = (k : ℕ) → n < k → k ≤ length keys → list_any (matching (take k keys)) bindings ≡ false

-- what is held after deciding with a flush once under each of these facts
abbrev pub held_after : List Binding → List (Fact → Bool) → List KeyPress → List KeyPress
held_after table [] held = held
held_after table (facts ∷ rounds) held = held_after table rounds (drop (taken (fires table facts held true)) held)
