use Rattle.std.proofs.Common.{sym, subst}
use Rattle.style_sheet.specs.Cascade.{HasColours}
use Rattle.style_sheet.proofs.ColourFolds.{class_attrs-colours}
use Rattle.style_sheet.proofs.sheets.Sheet.attrs_of.Goals as goal

pub returns-in-Some-clause-colours : goal.returns-in-Some-clause-colours
returns-in-Some-clause-colours c =
    subst HasColours (sym (c.in-Some.ensures.attrs c.self.inside.rules.items c.self.invariant.2))
    (class_attrs-colours c.self.inside.rules.items c.args.class.now c.self.invariant.0)

pub returns-clause-colours : goal.returns-clause-colours
returns-clause-colours c =
    subst HasColours (sym (c.work_out-attrs.ensures c.self.inside.rules.items c.self.invariant.1))
    (class_attrs-colours c.self.inside.rules.items c.as_bytes.result.now c.self.invariant.0)
