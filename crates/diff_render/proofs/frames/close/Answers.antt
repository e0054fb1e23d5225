use Rattle.std.proofs.Common.{◌+◌, ◌-◌, refl, arith}
use Rattle.cell_grid.specs.Attrs.{plain}
use Rattle.diff_render.proofs.Moves.{moves_then, moves_as}
use Rattle.diff_render.proofs.frames.close.Goals as goal

pub returns : goal.returns
returns c =
    let w = c.args.w.now in
    let at = c.args.rows - 1 in
    record {
      middle = c.use_plain_pen.new.self;
      moves = moves_as w c.use_plain_pen.new.self c.go_row.new.self.row at c.go_row.new.self.col w.col (at - w.row + 6 + 3) (at - w.row + 9) plain plain
          c.in_ok-go_row.ensures.to_row c.in_ok-go_row.ensures.to_col refl (omega arith)
          (moves_then _ _ _ _ _ _ _ _ _ _ _ c.in_ok-go_row.ensures c.in_ok-use_plain_pen.ensures);
      wrote = c.in_ok-push_str.ensures.bytes;
    }
