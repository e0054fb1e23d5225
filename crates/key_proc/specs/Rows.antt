-- What a contract sees of constant tables: the binding of each row.
use Rattle.std.specs.Prelude.{ℕ, Bool, true, false, List, [], ◌∷◌, not}
use Rattle.key_names.specs.declared.key.Key.{Key}
use Rattle.key_proc.specs.declared.facts.Fact.{Fact}
use Rattle.key_proc.specs.declared.bindings.Save.{Save}
use Rattle.key_proc.specs.declared.bindings.Binding.{Binding}
use Rattle.key_proc.specs.declared.filters.Filter.{Filter}
use Rattle.key_proc.specs.declared.filters.Filter.TheVariants as filter
use Rattle.key_proc.specs.declared.rows.RowKeys.{RowKeys}
use Rattle.key_proc.specs.declared.rows.RowKeys.TheVariants.{One, Two, Three}
use Rattle.key_proc.specs.declared.rows.FactTest.{FactTest}
use Rattle.key_proc.specs.declared.rows.FactTest.TheVariants.{Is, Not}
use Rattle.key_proc.specs.declared.rows.FactFilter.{FactFilter}
use Rattle.key_proc.specs.declared.rows.FactFilter.TheVariants.{All, Either}
use Rattle.key_proc.specs.declared.rows.BindingRow.{BindingRow}
use Rattle.key_proc.specs.declared.rows.BindingRow.TheVariants.{Plain, Eager}

-- the keys of a row, as a list
abbrev pub keys_of_row : RowKeys → List Key
keys_of_row (One a) = a ∷ []
keys_of_row (Two a b) = a ∷ b ∷ []
keys_of_row (Three a b c) = a ∷ b ∷ c ∷ []

-- a test as a filter
abbrev pub test_filter : FactTest → Filter
test_filter (Is fact) = filter.Is fact
test_filter (Not fact) = filter.Not (filter.Is fact)

-- the filter that holds where all these tests do
abbrev pub all_filter : List FactTest → Filter
all_filter [] = filter.Always
all_filter (test ∷ tests) = filter.And (test_filter test) (all_filter tests)

-- the filter of a row
abbrev pub filter_of : FactFilter → Filter
filter_of (All tests) = all_filter tests.now
filter_of (Either first second) = filter.Or (all_filter first.now) (all_filter second.now)

abbrev pub binding_by : Bool → RowKeys → FactFilter → Save → ℕ → Binding
binding_by eager keys when save command = record { keys = keys_of_row keys; filter = filter_of when; eager = eager; save = save; command = command }

-- the binding of a row
abbrev pub binding_of : BindingRow → Binding
binding_of (Plain keys when save command) = binding_by false keys when save command
binding_of (Eager keys when save command) = binding_by true keys when save command

-- whether a test holds, given whether each fact does
abbrev pub test_holds : (Fact → Bool) → FactTest → Bool
test_holds facts (Is fact) = facts fact
test_holds facts (Not fact) = not (facts fact)
