use Rattle.std.proofs.Common.{◌≡◌, ◌++◌, false, length, map, take, filter}
use Rattle.completers.specs.Words.{fits, completion}
use Rattle.completers.proofs.nesting.put_names.Given as goal

abbrev pub invariant-loop-option : goal.invariant-loop-option
invariant-loop-option l =
    l.items.items
    ≡ l.initial.items.items ++ map (completion (length l.typed)) (filter (fits false l.typed) (map (λ option. option.name) (take l.option-index l.options)))
