-- The walk stops at the first line that has a match.
use Rattle.std.proofs.Common.{ap, arith, ◌∙◌}
use Rattle.edit_state.specs.Searches.{first_in}
use Rattle.edit_state.proofs.Looking.{found_ahead, none_ahead}
use Rattle.edit_state.proofs.spots.match_ahead.Goals as goal

pub returns-in-Some-clause-found : goal.returns-in-Some-clause-found
returns-in-Some-clause-found c =
    let needle = c.args.needle.now in
    let here = c.in-Some.ensures.found ∙ ap (λ text. first_in needle text c.loop-line.from) c.parts_of.ensures.parts ∙ ap (first_in needle _) c.loop-line.invariant.from in
    found_ahead needle c.args.buffer.now c.args.spot c.loop-line.line c.in-Some.at here (omega arith) (omega arith) c.loop-line.invariant.before

pub returns-clause-found : goal.returns-clause-found
returns-clause-found c =
    none_ahead c.args.needle.now c.args.buffer.now c.args.spot (λ k lo hi. c.loop-line.invariant.before k lo (omega arith))
