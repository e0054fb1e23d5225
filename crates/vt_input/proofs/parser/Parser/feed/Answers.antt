use Rattle.std.proofs.Common.{sym, subst}
use Rattle.vt_input.specs.Inputs.{Parsing, IsSmall}
use Rattle.vt_input.proofs.SmallLemmas.{IsSmall-after}
use Rattle.vt_input.proofs.parser.Parser.feed.Goals as goal

pub returns-clause-small : goal.returns-clause-small
returns-clause-small g c = λ small.
    subst (λ (p : Parsing). IsSmall p) (sym c.in_ok-keys.ensures.rest) (IsSmall-after c.args.self.now c.args.piece.now c.in_ok-keys.ensures.short small)
