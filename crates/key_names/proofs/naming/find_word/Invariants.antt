use Rattle.std.proofs.Common.{◌≡◌, ℕ, ◌<◌, Some, get_or}
use Rattle.key_names.specs.declared.key.Key.TheVariants.{Any}
use Rattle.key_names.specs.KeyName.{word_of}
use Rattle.key_names.proofs.naming.find_word.Given as goal

-- no key so far has this name
abbrev pub invariant-loop-key : goal.invariant-loop-key
invariant-loop-key l = (k : ℕ) → k < l.key-index → word_of (get_or l.key-items k Any) ≡ Some l.name → ⊥
