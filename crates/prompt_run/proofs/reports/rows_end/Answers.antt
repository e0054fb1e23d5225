use Rattle.std.proofs.Common.{arith, sym, ◌∙◌}
use Rattle.std.proofs.lemmas.Bool.{false≢true}
use Rattle.prompt_run.specs.Report.{has_no_text}
use Rattle.prompt_run.proofs.TrimLemmas.{end_kept, end_moved, none_passes, some_fails}
use Rattle.prompt_run.proofs.reports.rows_end.Goals as goal

pub loop-at-preserved-then-is_empty : goal.loop-at-preserved-then-is_empty
loop-at-preserved-then-is_empty c = record {
  within = omega (arith, c.loop-at.invariant.within);
  so_far = end_kept has_no_text c.args.texts.now c.loop-at.at c.loop-at.end c.index-texts-at.result c.loop-at-test.true c.index-texts-at.is
      (none_passes c.index-texts-at.result (c.is_empty.ensures.0 c.if-is_empty.true)) c.loop-at.invariant.so_far;
}

pub loop-at-preserved : goal.loop-at-preserved
loop-at-preserved c = record {
  within = omega arith;
  so_far = end_moved has_no_text c.args.texts.now c.loop-at.at c.index-texts-at.result c.loop-at-test.true c.index-texts-at.is
      (some_fails c.index-texts-at.result (λ none. false≢true (sym c.if-is_empty.false ∙ c.is_empty.ensures.1 none)));
}
