use Rattle.std.proofs.Common.{◌∙◌, subst, sym}
use Rattle.style_sheet.specs.Known.{AreKnown}
use Rattle.style_sheet.proofs.KnownClasses.{found_attrs, promoted_known}
use Rattle.style_sheet.proofs.known.recall.Goals as goal

pub returns-then-not-promote-clause-known : goal.returns-then-not-promote-clause-known
returns-then-not-promote-clause-known c = λ rules known.
    subst (λ cache. AreKnown rules cache.entries) (sym c.promote.ensures.entries) (promoted_known rules c.args.class.now c.args.known.now.entries known)

pub returns-clause-known : goal.returns-clause-known
returns-clause-known c = λ rules known.
    subst (λ cache. AreKnown rules cache.entries) (sym c.promote.ensures.entries) (promoted_known rules c.args.class.now c.args.known.now.entries known)

pub returns-clause-attrs : goal.returns-clause-attrs
returns-clause-attrs c = λ rules known.
    found_attrs rules c.args.class.now c.promote.new.self.entries c.copied.result (returns-clause-known c rules known) (c.copied.ensures ∙ c.peek.ensures)
