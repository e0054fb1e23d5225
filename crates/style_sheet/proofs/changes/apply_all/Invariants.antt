use Rattle.std.proofs.Common.{◌≡◌, take}
use Rattle.std.specs.Prelude.{fold}
use Rattle.style_sheet.specs.Cascade.{changed}
use Rattle.style_sheet.proofs.changes.apply_all.Given as goal

abbrev pub invariant-loop-change : goal.invariant-loop-change
invariant-loop-change l = l.attrs ≡ fold changed l.initial.attrs (take l.change-index l.changes)
