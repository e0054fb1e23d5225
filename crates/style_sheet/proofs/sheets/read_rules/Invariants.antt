use Rattle.std.proofs.Common.{◌≡◌, ◌+◌, ◌++◌, map, length}
use Rattle.std.specs.List.{AllByRecursion}
use Rattle.std.specs.Option.{option_map_or}
use Rattle.style_sheet.specs.Grammar.{IsRule, rule_text, parts_of}
use Rattle.style_sheet.proofs.Parts.{left_parts}
use Rattle.style_sheet.proofs.sheets.read_rules.Given as goal

-- the rules so far and the parts of what is left are the parts of the text
abbrev pub invariant-loop-left : goal.invariant-loop-left
invariant-loop-left l = record {
  each : AllByRecursion IsRule l.rules.items;
  so_far : map rule_text l.rules.items ++ left_parts 59 l.left ≡ parts_of l.text;
}

abbrev pub decreases-loop-left : goal.decreases-loop-left
decreases-loop-left l = option_map_or (λ text. length text.now + 1) l.left 0
