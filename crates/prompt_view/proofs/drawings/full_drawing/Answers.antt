use Rattle.std.proofs.Common.{sym, ◌∙◌, ap, arith}
use Rattle.cell_grid.specs.Size.{Extent}
use Rattle.prompt_view.proofs.Placing.{all_inside}
use Rattle.prompt_view.proofs.drawings.full_drawing.Goals as goal

pub push_bars-requires : goal.push_bars-requires
push_bars-requires c = record { few = omega (arith, c.requires.fits, c.rows.ensures.value, c.rows.ensures.few) }

pub paint-requires : goal.paint-requires
paint-requires c =
    all_inside c.args.rooms.now.window c.args.rooms.now.drawn c.in_ok-placed.placed c.push_bars.new.placed c.args.bars.now
    (ap (λ (size : Extent). size.cols) c.requires.window ∙ sym (ap (λ (size : Extent). size.cols) c.requires.drawn))
    c.requires.fits c.in_ok-placed.ensures.inside c.in_ok-push_bars.ensures
