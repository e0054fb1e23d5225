use Rattle.std.proofs.Common.{subst, sym}
use Rattle.term_model.specs.Term.{IsTerminal}
use Rattle.term_model.specs.Fields.{term_of}
use Rattle.term_model.proofs.KeepLemmas.{resized-keeps}
use Rattle.term_model.proofs.terminal.Terminal.resize.Goals as goal

pub invariant_of-self-2 : goal.invariant_of-self-2
invariant_of-self-2 c =
    let done = c.in_ok-resize.ensures in
    subst IsTerminal (sym done.ok) (resized-keeps (term_of c.self.inside.state) c.args.size done.screen c.self.invariant)

pub returns-clause-kept : goal.returns-clause-kept
returns-clause-kept c =
    let done = c.in_ok-resize.ensures in
    subst IsTerminal (sym done.ok) (resized-keeps (term_of c.self.inside.state) c.args.size done.screen c.self.invariant)
