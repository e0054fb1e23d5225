use Rattle.std.proofs.Common.{sym, subst}
use Rattle.term_model.specs.Term.{IsTerminal}
use Rattle.term_model.specs.Fields.{term_of}
use Rattle.term_model.proofs.KeepLemmas.{wrapped-keeps}
use Rattle.term_model.proofs.state.State.put.Goals as goal

pub place-requires-clause-terminal : goal.place-requires-clause-terminal
place-requires-clause-terminal c = subst IsTerminal (sym c.in_ok-wrap.ensures.ok) (wrapped-keeps (term_of c.args.self.now) c.requires.terminal)
