use Rattle.std.proofs.Common.{◌∙◌, arith}
use Rattle.key_proc.proofs.Deciding.{longest-some, longest-none}
use Rattle.key_proc.proofs.decisions.on_longest_front.Goals as goal

pub returns-in-Some-clause-decided : goal.returns-in-Some-clause-decided
returns-in-Some-clause-decided c bindings keys found =
    longest-some keys bindings c.loop-used.used c.in-Some.choice (omega arith) (c.in-Some.ensures bindings keys found) ∙ c.loop-used.invariant.rest bindings keys found

pub loop-used-preserved : goal.loop-used-preserved
loop-used-preserved c = record {
  within = omega arith;
  rest = λ bindings keys found. longest-none keys bindings c.loop-used.used (omega arith) (c.in_default.ensures bindings keys found) ∙ c.loop-used.invariant.rest bindings keys found;
}
