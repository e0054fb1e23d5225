use Rattle.std.proofs.Common.{◌≡◌, take}
use Rattle.std.specs.Prelude.{fold}
use Rattle.style_sheet.specs.Patches.{with_change}
use Rattle.style_sheet.proofs.patches.Patch.with_all.Given as goal

abbrev pub invariant-loop-change : goal.invariant-loop-change
invariant-loop-change l = l.patch ≡ fold with_change l.fn.self (take l.change-index l.changes)
