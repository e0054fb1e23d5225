use Rattle.std.proofs.Common.{◌∙◌, sym, ap}
use Rattle.style_sheet.specs.Cascade.{class_attrs}
use Rattle.style_sheet.proofs.KnownClasses.{remembered}
use Rattle.style_sheet.proofs.known.remember.Goals as goal

pub returns-in-Ok : goal.returns-in-Ok
returns-in-Ok c = λ rules known is.
    remembered rules c.args.known.now c.put.new.self c.in-Ok.name c.args.attrs c.put.result c.put.ensures.entries c.put.ensures.err known
    (is ∙ ap (λ name. class_attrs rules name) (sym c.in-Ok.ensures.ok))
