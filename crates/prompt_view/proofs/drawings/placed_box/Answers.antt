use Rattle.std.proofs.Common.{◌≡◌, None, Some, sym, ◌∙◌, subst}
use Rattle.box_layout.specs.Children.{HasFewChildren}
use Rattle.box_layout.proofs.OnePlacing.{same_placed}
use Rattle.prompt_view.specs.Drawing.{buffer_pane, placed_box}
use Rattle.prompt_view.specs.Floats.{floats}
use Rattle.prompt_view.proofs.Placing.{few_in_box, placed_gives}
use Rattle.prompt_view.proofs.drawings.placed_box.Goals as goal

pub place-requires : goal.place-requires
place-requires c = subst HasFewChildren (sym c.requires.node) (few_in_box (buffer_pane c.args.scene.now) (floats c.args.scene.now))

pub unreachable-requires : goal.unreachable-requires
unreachable-requires c =
    let never : None ≡ Some (placed_box c.args.scene.now) =
    sym c.in-None.is ∙ placed_gives c.args.scene.now c.args.node.now c.args.size c.in_ok-placed.field-0 c.requires.node c.requires.size c.in_ok-placed.ensures.boxes in
    cc

pub returns-clause-placed : goal.returns-clause-placed
returns-clause-placed c =
    same_placed c.in-Some.placed (placed_box c.args.scene.now)
    (sym c.in-Some.is ∙ placed_gives c.args.scene.now c.args.node.now c.args.size c.in_ok-placed.field-0 c.requires.node c.requires.size c.in_ok-placed.ensures.boxes)
