-- What a contract sees of facts: a list that tells of each fact whether it holds.
use Rattle.std.specs.Prelude.{ℕ, Bool, false, List, ◌==◌, slice_index_or}
use Rattle.key_proc.specs.declared.facts.Fact.{Fact}
use Rattle.key_proc.specs.declared.facts.Fact.TheVariants.{Emacs, Insert, Navigation, Replace, Operator, Selection, Menu, Searching, Argument, Multiline, Suggestion, Empty}

-- the place of a fact in the list
abbrev pub place_of : Fact → ℕ
place_of Emacs = 0
place_of Insert = 1
place_of Navigation = 2
place_of Replace = 3
place_of Operator = 4
place_of Selection = 5
place_of Menu = 6
place_of Searching = 7
place_of Argument = 8
place_of Multiline = 9
place_of Suggestion = 10
place_of Empty = 11

-- whether two facts are the same one
abbrev pub is_same_fact : Fact → Fact → Bool
is_same_fact a b = place_of a == place_of b

-- whether a fact holds
abbrev pub has : List Bool → Fact → Bool
has facts fact = slice_index_or facts (place_of fact) false
