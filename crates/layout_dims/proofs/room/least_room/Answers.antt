use Rattle.std.proofs.Common.{subst, arith}
use Rattle.std.proofs.lemmas.Grind.{common_steps}
use Rattle.std.proofs.lemmas.List.Elements.{All-more}
use Rattle.layout_dims.specs.Numbers.{IsDimension}
use Rattle.layout_dims.proofs.room.least_room.Goals as goal

pub loop-part-preserved : goal.loop-part-preserved
loop-part-preserved c = record {
  minima = grind (arith, common_steps);
  few = omega (arith, c.numbers-min.ensures.ordered.above_minimum, c.numbers-min.ensures.ordered.below_maximum, c.numbers-min.ensures.ordered.maximum_in);
  ordered = All-more IsDimension c.args.parts.now c.loop-part.part-index c.part-item.result c.loop-part-test.true c.loop-part.invariant.ordered (subst IsDimension c.part-item.is c.numbers-min.ensures.ordered);
}
