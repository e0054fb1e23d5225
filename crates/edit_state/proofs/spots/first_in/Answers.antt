-- The walk stops at the first match.
use Rattle.std.proofs.Common.{◌++◌, arith, length-append}
use Rattle.text_doc.proofs.Walks.{first_found, first_none}
use Rattle.edit_state.specs.Searches.{stands_at, first_in}
use Rattle.edit_state.proofs.spots.first_in.Goals as goal

pub returns-then-stands_at-clause-found : goal.returns-then-stands_at-clause-found
unfolding first_in
returns-then-stands_at-clause-found c =
    first_found (stands_at c.args.needle.now (c.args.front.now ++ c.args.back.now)) _ _ _ (omega arith) (omega (arith, length-append c.args.front.now c.args.back.now)) (cc)
    (λ k lo hi. c.loop-at.invariant k lo hi)

pub returns-clause-found : goal.returns-clause-found
unfolding first_in
returns-clause-found c = first_none (stands_at c.args.needle.now (c.args.front.now ++ c.args.back.now)) _ _ (λ k lo hi. c.loop-at.invariant k lo (omega (arith, length-append c.args.front.now c.args.back.now)))
