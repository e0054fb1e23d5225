use Rattle.std.proofs.Common.{◌≡◌, List}
use Rattle.style_sheet.specs.Patches.{ArePatchesOf}
use Rattle.style_sheet.specs.StyleRule.{StyleRule}
use Rattle.style_sheet.proofs.Cascades.{attrs_before}
use Rattle.style_sheet.proofs.sheets.work_out.Given as goal

-- the attributes after the prefixes that end at one of the bytes so far
abbrev pub invariant-loop-place : goal.invariant-loop-place
invariant-loop-place l = (rules : List StyleRule) → ArePatchesOf rules l.patches → l.attrs ≡ attrs_before rules l.name l.place
