use Rattle.std.proofs.Common.{[], ◌∷◌, ap, sym, ◌∙◌, arith}
use Rattle.std.specs.Option.{option_copied}
use Rattle.completers.specs.Suggested.{rest_of_newest}
use Rattle.completers.proofs.SuggestingLemmas.{newest_found, newest_older, is_some-option_copied}
use Rattle.completers.proofs.suggesting.newest_rest.Goals as goal

pub returns-then-is_some : goal.returns-then-is_some
returns-then-is_some c =
    let line = c.args.line.now in
    let rest = c.last_rest-found.ensures ∙ ap (λ e. rest_of_newest (e ∷ []) line) c.as_slice.ensures in
    newest_found c.args.history.now line c.loop-at.at c.index-history-at.result (option_copied c.last_rest-found.result) (omega arith) (omega arith) c.index-history-at.is rest (is_some-option_copied _ ∙ sym c.if-is_some.ensures)
    ∙ c.loop-at.invariant

pub loop-at-preserved : goal.loop-at-preserved
loop-at-preserved c =
    let line = c.args.line.now in
    let rest = c.last_rest-found.ensures ∙ ap (λ e. rest_of_newest (e ∷ []) line) c.as_slice.ensures in
    newest_older c.args.history.now line c.loop-at.at c.index-history-at.result (option_copied c.last_rest-found.result) (omega arith) (omega arith) c.index-history-at.is rest (is_some-option_copied _ ∙ sym c.if-is_some.ensures)
    ∙ c.loop-at.invariant
