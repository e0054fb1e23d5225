use Rattle.std.proofs.Common.{◌≡◌, ℕ, ◌<◌, [], slice_index_or}
use Rattle.style_sheet.specs.Spelling.{hue_names}
use Rattle.style_sheet.proofs.colours.find_hue.Given as goal

-- no number so far has this name
abbrev pub invariant-loop-number : goal.invariant-loop-number
invariant-loop-number l = (n : ℕ) → n < l.number → slice_index_or hue_names n [] ≡ l.name → ⊥
