-- The walk stops at the first place of another class.
use Rattle.std.proofs.Common.{arith, ap, unwrap_or, ℕ, Option}
use Rattle.text_doc.proofs.Walks.{first_found, first_none}
use Rattle.vi_keys.specs.Runs.{differs, run_end}
use Rattle.vi_keys.proofs.runs.run_end.Goals as goal

pub returns-then-not-same_class-clause-place : goal.returns-then-not-same_class-clause-place
unfolding run_end
returns-then-not-same_class-clause-place c =
    ap (λ (o : Option ℕ). unwrap_or o c.args.end)
    (first_found (differs c.args.class c.args.doc.now.text) _ _ _ (omega arith) (omega arith) (cc) (λ k lo hi. c.loop-at.invariant k lo hi))

pub returns-clause-place : goal.returns-clause-place
unfolding run_end
returns-clause-place c =
    ap (λ (o : Option ℕ). unwrap_or o c.args.end)
    (first_none (differs c.args.class c.args.doc.now.text) _ _ (λ k lo hi. c.loop-at.invariant k lo (omega arith)))
