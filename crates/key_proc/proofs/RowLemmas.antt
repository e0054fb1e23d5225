-- Rows are bindings of one to three keys, and their filters hold by their tests.
use Rattle.std.proofs.Common.{◌≡◌, Bool, true, not, ◌&&◌, List, [], ◌∷◌, map, refl, sym, ap, ◌∙◌}
use Rattle.std.specs.List.{list_all}
use Rattle.key_proc.specs.declared.facts.Fact.{Fact}
use Rattle.key_proc.specs.declared.filters.Filter.{Filter}
use Rattle.key_proc.specs.declared.filters.Filter.TheVariants as filter
use Rattle.key_proc.specs.declared.filters.Filter.TheVariants.{And, rolls-Always, rolls-Is, rolls-Not, rolls-And}
use Rattle.key_proc.specs.declared.filters.Filter.TheOpen as layer
use Rattle.key_proc.specs.declared.filters.Filter.TheFolds.{fold-roll-Filter}
use Rattle.key_proc.specs.declared.rows.RowKeys.TheVariants.{One, Two, Three}
use Rattle.key_proc.specs.declared.rows.FactTest.{FactTest}
use Rattle.key_proc.specs.declared.rows.FactTest.TheVariants.{Is, Not}
use Rattle.key_proc.specs.declared.rows.BindingRow.{BindingRow}
use Rattle.key_proc.specs.declared.rows.BindingRow.TheVariants.{Plain, Eager}
use Rattle.key_proc.specs.Filters.{holds, holds_by}
use Rattle.key_proc.specs.Sizes.{has_size, AllSized}
use Rattle.key_proc.specs.Rows.{test_filter, all_filter, test_holds, binding_of}

holds-And : (facts : Fact → Bool) (first second : Filter) → holds facts (And first second) ≡ (holds facts first && holds facts second)
holds-And facts first second = ap (holds facts) (sym (rolls-And first second)) ∙ fold-roll-Filter Bool (holds_by facts) (layer.And first second)

holds-Is : (facts : Fact → Bool) (fact : Fact) → holds facts (filter.Is fact) ≡ facts fact
holds-Is facts fact = ap (holds facts) (sym (rolls-Is fact)) ∙ fold-roll-Filter Bool (holds_by facts) (layer.Is fact)

holds-test : (facts : Fact → Bool) (test : FactTest) → holds facts (test_filter test) ≡ test_holds facts test
holds-test facts (Is fact) = holds-Is facts fact
holds-test facts (Not fact) =
    ap (holds facts) (sym (rolls-Not (filter.Is fact))) ∙ fold-roll-Filter Bool (holds_by facts) (layer.Not (filter.Is fact)) ∙ ap not (holds-Is facts fact)

pub holds-all_filter : (facts : Fact → Bool) (tests : List FactTest) → holds facts (all_filter tests) ≡ list_all (test_holds facts) tests
holds-all_filter facts [] = ap (holds facts) (sym rolls-Always) ∙ fold-roll-Filter Bool (holds_by facts) layer.Always
holds-all_filter facts (test ∷ tests) =
    holds-And facts (test_filter test) (all_filter tests) ∙ ap (λ b. b && holds facts (all_filter tests)) (holds-test facts test)
    ∙ ap (λ b. test_holds facts test && b) (holds-all_filter facts tests)

row-sized : (row : BindingRow) → has_size (binding_of row) ≡ true
row-sized (Plain (One a) when save command) = refl
row-sized (Plain (Two a b) when save command) = refl
row-sized (Plain (Three a b c) when save command) = refl
row-sized (Eager (One a) when save command) = refl
row-sized (Eager (Two a b) when save command) = refl
row-sized (Eager (Three a b c) when save command) = refl

pub rows-sized : (rows : List BindingRow) → AllSized (map binding_of rows)
rows-sized [] = refl
rows-sized (row ∷ rows) = ap (λ b. b && list_all has_size (map binding_of rows)) (row-sized row) ∙ rows-sized rows
