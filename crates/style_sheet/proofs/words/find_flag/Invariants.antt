use Rattle.std.proofs.Common.{◌≡◌, ℕ, ◌<◌, get_or}
use Rattle.style_sheet.specs.declared.changes.Flag.TheVariants.{Bold}
use Rattle.style_sheet.specs.Spelling.{flag_name}
use Rattle.style_sheet.proofs.words.find_flag.Given as goal

-- no flag so far has this name
abbrev pub invariant-loop-flag : goal.invariant-loop-flag
invariant-loop-flag l = (k : ℕ) → k < l.flag-index → flag_name (get_or l.flag-items k Bold) ≡ l.name → ⊥
