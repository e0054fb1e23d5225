-- The walk back stops at the last match.
use Rattle.std.proofs.Common.{◌++◌, arith, length-append}
use Rattle.text_doc.proofs.Walks.{last_found, last_none}
use Rattle.edit_state.specs.Searches.{stands_at, last_in}
use Rattle.edit_state.proofs.spots.last_in.Goals as goal

pub returns-then-stands_at-clause-found : goal.returns-then-stands_at-clause-found
unfolding last_in
returns-then-stands_at-clause-found c =
    last_found (stands_at c.args.needle.now (c.args.front.now ++ c.args.back.now)) _ _ _ (omega arith) (omega (arith, length-append c.args.front.now c.args.back.now)) (cc)
    (λ k lo hi. c.loop-at.invariant k (omega (arith, length-append c.args.front.now c.args.back.now)) (omega (arith, length-append c.args.front.now c.args.back.now)))

pub returns-clause-found : goal.returns-clause-found
unfolding last_in
returns-clause-found c = last_none (stands_at c.args.needle.now (c.args.front.now ++ c.args.back.now)) _ _ (λ k lo hi. c.loop-at.invariant k (omega (arith, length-append c.args.front.now c.args.back.now)) (omega (arith, length-append c.args.front.now c.args.back.now)))
