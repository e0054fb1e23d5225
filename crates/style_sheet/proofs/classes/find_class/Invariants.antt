use Rattle.std.proofs.Common.{◌≡◌, ℕ, ◌<◌, get_or}
use Rattle.style_sheet.specs.declared.classes.Class.TheVariants.{Prompt}
use Rattle.style_sheet.specs.ClassName.{class_name}
use Rattle.style_sheet.proofs.classes.find_class.Given as goal

-- no class so far has this name
abbrev pub invariant-loop-class : goal.invariant-loop-class
invariant-loop-class l = (k : ℕ) → k < l.class-index → class_name (get_or l.class-items k Prompt) ≡ l.name → ⊥
