use Rattle.std.proofs.Common.{◌-◌, sym, subst, arith}
use Rattle.diff_render.specs.Redrawn.{IsDrawnRow}
use Rattle.diff_render.proofs.LineEnds.{drawn_row, blanks_more}
use Rattle.diff_render.proofs.lines.blank_below.Goals as goal
use Rattle.diff_render.proofs.lines.blank_below.Goals.{then-ne, else-ne}

pub loop-row-preserved : goal.loop-row-preserved
loop-row-preserved c =
    elim c.if-ne.branch [
      | then-ne w ↦ record {
        within = omega (arith, w.end-is);
        blanks = λ k low high. absurd (omega (arith, w.end-is));
        drawn = λ some. drawn_row c.args.grid.now c.loop-row.row c.if-ne.end _ _ w.end-is c.row.ensures.value c.requires w.if-ne.ensures;
      }
      | else-ne w ↦ record {
        within = omega (arith, w.end-is, c.loop-row.invariant.within);
        blanks = blanks_more c.args.grid.now c.loop-row.row c.loop-row.end c.if-ne.end _ _ w.end-is c.loop-row.invariant.blanks c.row.ensures.value c.requires w.if-ne.ensures;
        drawn = λ some. subst (λ n. IsDrawnRow (n - 1) c.args.grid.now) (sym w.end-is) (c.loop-row.invariant.drawn (omega (arith, w.end-is)));
      }
    ]
