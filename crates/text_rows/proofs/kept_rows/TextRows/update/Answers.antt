use Rattle.std.proofs.Common.{ap, arith}
use Rattle.text_rows.specs.declared.flows.Flow.{Flow}
use Rattle.text_rows.specs.Flows.{columns_in}
use Rattle.text_rows.proofs.FlowLemmas.{begun-few, few_columns}
use Rattle.text_rows.proofs.kept_rows.TextRows.update.Goals as goal

pub laid_anew-requires-clause-few : goal.laid_anew-requires-clause-few
laid_anew-requires-clause-few c =
    let kept = c.self.inside in
    omega (
      arith,
      c.self.invariant.short_continuation,
      ap (λ (flow : Flow). flow.rows) c.self.invariant.under_is,
      begun-few kept.width kept.width (columns_in kept.continuation),
      few_columns kept.continuation,
    )
