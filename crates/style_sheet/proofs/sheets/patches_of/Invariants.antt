use Rattle.std.proofs.Common.{◌≡◌, take, length}
use Rattle.style_sheet.specs.declared.classes.TheConstants.{CLASS_COUNT}
use Rattle.style_sheet.specs.Patches.{ArePatchesOf}
use Rattle.style_sheet.proofs.sheets.patches_of.Given as goal

-- the patches of the rules so far
abbrev pub invariant-loop-rule : goal.invariant-loop-rule
invariant-loop-rule l = record {
  count : length l.patches ≡ CLASS_COUNT;
  each : ArePatchesOf (take l.rule-index l.rules) l.patches;
}
