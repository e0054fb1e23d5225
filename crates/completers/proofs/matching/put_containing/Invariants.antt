use Rattle.std.proofs.Common.{◌≡◌, ◌++◌, true, length, map, take, filter}
use Rattle.completers.specs.Words.{fits, completion}
use Rattle.completers.proofs.matching.put_containing.Given as goal

abbrev pub invariant-loop-text : goal.invariant-loop-text
invariant-loop-text l =
    l.items.items ≡ l.initial.items.items ++ map (completion (length l.typed)) (filter (fits true l.typed) (take l.text-index l.words))
