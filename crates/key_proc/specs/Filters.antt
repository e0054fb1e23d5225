-- What a contract sees of filters: whether one holds where certain facts do.
use Rattle.std.specs.Prelude.{Bool, true, not, ◌&&◌, ◌||◌}
use Rattle.key_proc.specs.declared.facts.Fact.{Fact}
use Rattle.key_proc.specs.declared.filters.Filter.{Filter}
use Rattle.key_proc.specs.declared.filters.Filter.TheOpen as layer
use Rattle.key_proc.specs.declared.filters.Filter.TheFolds.{fold-Filter}

-- whether a filter holds, given whether each filter inside it does
abbrev pub holds_by : (Fact → Bool) → layer.Filter-F Bool → Bool
holds_by facts layer.Always = true
holds_by facts (layer.Is fact) = facts fact
holds_by facts (layer.Not inner) = not inner
holds_by facts (layer.And first second) = first && second
holds_by facts (layer.Or first second) = first || second

-- whether a filter holds, given whether each fact does
abbrev pub holds : (Fact → Bool) → Filter → Bool
holds facts = fold-Filter Bool (holds_by facts)
