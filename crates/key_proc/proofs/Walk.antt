-- What one more binding does to what was found.
use Rattle.std.proofs.Common.{◌≡◌, ℕ, ◌+◌, ◌<◌, Bool, true, false, cond, ◌||◌, List, [], ◌∷◌, ◌++◌, length, take, get_or, Option, Some, None, refl, sym, ap, ◌∙◌, ltb}
use Rattle.std.specs.List.{filter, list_any}
use Rattle.std.specs.Option.{option_map}
use Rattle.std.proofs.lemmas.List.Folds.{list_any-append}
use Rattle.std.proofs.lemmas.List.{append-nil, take_more}
use Rattle.std.proofs.lemmas.List.Elements.{filter-append}
use Rattle.key_proc.specs.declared.facts.Fact.{Fact}
use Rattle.key_proc.specs.declared.bindings.Binding.{Binding}
use Rattle.key_proc.specs.declared.choices.Choice.{Choice}
use Rattle.key_proc.specs.Firing.{any_of, chosen, active}
use Rattle.key_proc.specs.Choices.{choice_of, best_of, better_of, better}
use Rattle.key_proc.specs.Filters.{holds}
use Rattle.key_proc.proofs.Choosing.{later_of, last_least-push}

choice_of-either : (t : Bool) (a b : Binding) → option_map choice_of (cond t (Some a) (Some b)) ≡ cond t (Some (choice_of a)) (Some (choice_of b))
choice_of-either true a b = refl
choice_of-either false a b = refl

choice_of-later : (o : Option Binding) (b : Binding) → option_map choice_of (later_of any_of o b) ≡ better_of (option_map choice_of o) (choice_of b)
choice_of-later None b = refl
choice_of-later (Some a) b = choice_of-either (ltb (any_of a) (any_of b)) a b

chosen-push : (bindings : List Binding) (b : Binding) → option_map choice_of (chosen (bindings ++ b ∷ [])) ≡ better_of (option_map choice_of (chosen bindings)) (choice_of b)
chosen-push bindings b = ap (option_map choice_of) (last_least-push any_of bindings b) ∙ choice_of-later (chosen bindings) b

best_by : (bindings : List Binding) (b : Binding) (t : Bool) → option_map choice_of (chosen (bindings ++ cond t (b ∷ []) [])) ≡ better t (option_map choice_of (chosen bindings)) (choice_of b)
best_by bindings b true = chosen-push bindings b
best_by bindings b false = ap (λ xs. option_map choice_of (chosen xs)) (append-nil bindings)

-- the best of one more binding
pub best_of-push : (test : Binding → Bool) (bindings : List Binding) (b : Binding) → best_of test (bindings ++ b ∷ []) ≡ better (test b) (best_of test bindings) (choice_of b)
best_of-push test bindings b =
    ap (λ xs. option_map choice_of (chosen xs)) (filter-append test bindings (b ∷ [])) ∙ best_by (filter test bindings) b (test b)

-- the best so far, improved by one more binding, is the best of one more
pub best-step : (test : Binding → Bool) (bindings : List Binding) (b : Binding) (new old : Option Choice) (counts : Bool) (choice : Choice) →
    new ≡ better counts old choice → counts ≡ test b → choice ≡ choice_of b → old ≡ best_of test bindings → new ≡ best_of test (bindings ++ b ∷ [])
best-step test bindings b new old counts choice e counted kept best =
    e ∙ ap (λ t. better t old choice) counted ∙ ap (λ o. better (test b) o choice) best ∙ ap (λ k. better (test b) (best_of test bindings) k) kept
    ∙ sym (best_of-push test bindings b)

or_false : (a : Bool) → (a || false) ≡ a
or_false true = refl
or_false false = refl

-- whether a binding passes, with one more
pub any-step : (test : Binding → Bool) (bindings : List Binding) (b : Binding) (new old passes : Bool) →
    new ≡ (old || passes) → passes ≡ test b → old ≡ list_any test bindings → new ≡ list_any test (bindings ++ b ∷ [])
any-step test bindings b new old passes e passed before =
    e ∙ ap (λ t. old || t) (passed ∙ sym (or_false (test b))) ∙ ap (λ o. o || (test b || false)) before
    ∙ sym (list_any-append test bindings (b ∷ []))

-- the same with one more that does not pass
pub any-same : (test : Binding → Bool) (bindings : List Binding) (b : Binding) (old : Bool) →
    test b ≡ false → old ≡ list_any test bindings → old ≡ list_any test (bindings ++ b ∷ [])
any-same test bindings b old fails before = any-step test bindings b old old false (sym (or_false old)) (sym fails) before

active_by : (facts : Fact → Bool) (table : List Binding) (b : Binding) → active (table ++ b ∷ []) facts ≡ active table facts ++ cond (holds facts b.filter) (b ∷ []) []
active_by facts table b = filter-append (λ binding. holds facts binding.filter) table (b ∷ [])

-- a walk over a table comes to an active binding
pub active-more : (facts : Fact → Bool) (table : List Binding) (i : ℕ) (b : Binding) → i < length table → b ≡ get_or table i b → holds facts b.filter ≡ true →
    active (take (i + 1) table) facts ≡ active (take i table) facts ++ b ∷ []
active-more facts table i b lt at is =
    let more : take (i + 1) table ≡ take i table ++ b ∷ [] = take_more table i b lt ∙ ap (λ x. take i table ++ x ∷ []) (sym at) in
    ap (λ xs. active xs facts) more ∙ active_by facts (take i table) b ∙ ap (λ t. active (take i table) facts ++ cond t (b ∷ []) []) is

-- a walk over a table comes to one that is not active
pub active-same : (facts : Fact → Bool) (table : List Binding) (i : ℕ) (b : Binding) → i < length table → b ≡ get_or table i b → holds facts b.filter ≡ false →
    active (take (i + 1) table) facts ≡ active (take i table) facts
active-same facts table i b lt at is =
    let more : take (i + 1) table ≡ take i table ++ b ∷ [] = take_more table i b lt ∙ ap (λ x. take i table ++ x ∷ []) (sym at) in
    ap (λ xs. active xs facts) more ∙ active_by facts (take i table) b ∙ ap (λ t. active (take i table) facts ++ cond t (b ∷ []) []) is ∙ append-nil (active (take i table) facts)
