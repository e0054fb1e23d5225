use Rattle.std.proofs.Common.{◌≡◌, drop}
use Rattle.completers.specs.Nested.{option_of}
use Rattle.completers.proofs.nesting.words_of.Given as goal

abbrev pub invariant-loop-option : goal.invariant-loop-option
invariant-loop-option l = option_of l.name (drop l.option-index l.options) ≡ option_of l.name l.options
