use Rattle.std.proofs.Common.{sym, ◌∙◌}
use Rattle.cell_grid.specs.Same.{same_attrs-Decides}
use Rattle.diff_render.proofs.writer.Writer.change_pen.Goals as goal

pub add_pen-requires-clause-joined : goal.add_pen-requires-clause-joined
add_pen-requires-clause-joined c = sym c.joined.ensures ∙ (same_attrs-Decides c.joined.result c.args.pen.now).0 (sym c.if-eq.ensures)
