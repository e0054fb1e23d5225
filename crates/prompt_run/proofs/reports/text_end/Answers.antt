use Rattle.std.proofs.Common.{ap, arith}
use Rattle.std.proofs.lemmas.Bool.{ne_eqb}
use Rattle.prompt_run.specs.Report.{is_space}
use Rattle.prompt_run.proofs.TrimLemmas.{end_kept, end_moved}
use Rattle.prompt_run.proofs.reports.text_end.Goals as goal

pub loop-at-preserved-then-c-eq32 : goal.loop-at-preserved-then-c-eq32
loop-at-preserved-then-c-eq32 c = record {
  within = omega (arith, c.loop-at.invariant.within);
  so_far = end_kept is_space c.args.chars.now c.loop-at.at c.loop-at.end c.index-chars-at.result c.loop-at-test.true c.index-chars-at.is (ap is_space c.if-c-eq32.true)
      c.loop-at.invariant.so_far;
}

pub loop-at-preserved : goal.loop-at-preserved
loop-at-preserved c = record {
  within = omega arith;
  so_far = end_moved is_space c.args.chars.now c.loop-at.at c.index-chars-at.result c.loop-at-test.true c.index-chars-at.is
      (ne_eqb c.index-chars-at.result 32 c.if-c-eq32.false);
}
