use Rattle.std.proofs.Common.{ap, arith, length}
use Rattle.text_rows.specs.declared.flows.Flow.{Flow}
use Rattle.text_rows.specs.Flows.{columns_in}
use Rattle.text_rows.proofs.FlowLemmas.{begun-few, few_columns}
use Rattle.text_rows.proofs.kept_rows.flow_of.Goals as goal

pub returns-clause-few : goal.returns-clause-few
returns-clause-few c =
    omega (
      arith,
      c.requires,
      c.put_cells.ensures.rows,
      ap (λ (flow : Flow). flow.rows) c.new-flow.ensures,
      begun-few c.args.width c.new-flow.result.room (columns_in c.as_slice.result.now),
      few_columns c.as_slice.result.now,
      ap length c.as_slice.ensures.value,
    )
