use Rattle.std.proofs.Common.{◌∙◌, ap, arith, length}
use Rattle.std.specs.List.{flat_map}
use Rattle.std.proofs.lemmas.List.{take_all}
use Rattle.win_view.specs.Rows.{rows_of}
use Rattle.win_view.proofs.NarrowCounts.{no_more}
use Rattle.win_view.proofs.RowCounts.{lines_few, lines_more, lines_below}
use Rattle.win_view.proofs.heights.wrapped_height.Goals as goal

pub overflow_add-rows : goal.overflow_add-rows
overflow_add-rows c =
    let count = no_more c.args.width c.count_rows-rows.result c.as_slice.result.now c.count_rows-rows.ensures in
    let below = lines_below c.args.width c.loop-line.line-index c.args.lines.now c.line-item.result c.requires.width c.loop-line-test.true c.line-item.is in
    omega (arith, below, count ∙ ap (λ cells. length (rows_of c.args.width cells)) c.as_slice.ensures.value)

pub loop-line-preserved : goal.loop-line-preserved
loop-line-preserved c =
    let count = no_more c.args.width c.count_rows-rows.result c.as_slice.result.now c.count_rows-rows.ensures in
    let more = lines_more c.args.width c.loop-line.line-index c.args.lines.now c.line-item.result c.loop-line-test.true c.line-item.is in
    record { value = omega (arith, more, count ∙ ap (λ cells. length (rows_of c.args.width cells)) c.as_slice.ensures.value) }

pub returns-clause-few : goal.returns-clause-few
returns-clause-few c =
    omega (
      arith,
      lines_few c.args.width c.args.lines.now c.requires.width,
      ap (λ lines. length (flat_map (rows_of c.args.width) lines)) (take_all c.loop-line.line-index c.args.lines.now c.loop-line-test.false),
    )
