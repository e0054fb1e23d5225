use Rattle.std.proofs.Common.{◌≡◌, ◌+◌, ◌++◌, map, length}
use Rattle.std.specs.List.{AllByRecursion}
use Rattle.std.specs.Option.{option_map_or}
use Rattle.style_sheet.specs.Spelling.{change_word, IsChange}
use Rattle.style_sheet.proofs.Parts.{parts, left_parts}
use Rattle.style_sheet.proofs.rules.read_changes.Given as goal

-- the words so far and the parts of what is left are the parts of the text
abbrev pub invariant-loop-left : goal.invariant-loop-left
invariant-loop-left l = record {
  each : AllByRecursion IsChange l.changes.items;
  so_far : map change_word l.changes.items ++ left_parts 32 l.left ≡ parts 32 l.text;
}

abbrev pub decreases-loop-left : goal.decreases-loop-left
decreases-loop-left l = option_map_or (λ text. length text.now + 1) l.left 0
