use Rattle.std.proofs.Common.{ap, arith}
use Rattle.text_rows.specs.DrawnText.{TextFields}
use Rattle.text_rows.proofs.LineCells.{next_line}
use Rattle.text_rows.proofs.LineCuts.{cut_length}
use Rattle.text_rows.proofs.lines.drawn_lines.Goals as goal

pub loop-line-preserved : goal.loop-line-preserved
loop-line-preserved c =
    let cut = c.in-Some.ensures.lines in
    record {
      all =
          next_line c.args.drawn.now c.loop-line.before.now c.loop-line.start c.loop-line.left.now c.in-Some.line.now c.in-Some.rest.now
          c.drawn.inside.continuation.now c.in_ok-line_cells.field-0 c.loop-line.lines c.push.new.self _
          (ap (λ (t : TextFields). t.continuation) c.drawn.view_is) cut c.in_ok-line_cells.ensures c.in_ok-push.ensures.ok c.loop-line.invariant.all;
      place = omega (arith, c.loop-line.invariant.place, cut_length c.loop-line.left.now c.in-Some.line.now c.in-Some.rest.now cut);
    }
