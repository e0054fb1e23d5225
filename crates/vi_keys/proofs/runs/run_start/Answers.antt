-- The walk stops behind the last place of another class.
use Rattle.std.proofs.Common.{arith, ap}
use Rattle.text_doc.proofs.Walks.{last_found, last_none}
use Rattle.vi_keys.specs.Runs.{differs, behind, run_start}
use Rattle.vi_keys.proofs.runs.run_start.Goals as goal

pub returns-then-not-same_class-clause-place : goal.returns-then-not-same_class-clause-place
unfolding run_start
returns-then-not-same_class-clause-place c =
    ap (behind c.args.start)
    (last_found (differs c.args.class c.args.doc.now.text) _ _ _ (omega arith) (omega arith) (cc) (λ k lo hi. c.loop-at.invariant k (omega arith) hi))

pub returns-clause-place : goal.returns-clause-place
unfolding run_start
returns-clause-place c =
    ap (behind c.args.start)
    (last_none (differs c.args.class c.args.doc.now.text) _ _ (λ k lo hi. c.loop-at.invariant k (omega arith) hi))
