use Rattle.std.proofs.Common.{◌∙◌}
use Rattle.box_layout.proofs.FloatAreas.{rest_inside}
use Rattle.box_layout.proofs.floats.place_floats.Goals as goal

pub float_area-requires-clause-inside : goal.float_area-requires-clause-inside
float_area-requires-clause-inside c =
    rest_inside c.args.area.now c.args.placed.now c.as_slice.result.now c.args.floats.now c.args.first c.loop-float.float-index c.requires.drawable.some c.requires.within c.requires.inside (c.as_slice.ensures ∙ c.loop-float.invariant)
