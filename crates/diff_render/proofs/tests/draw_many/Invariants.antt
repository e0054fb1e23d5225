use Rattle.diff_render.specs.Frames.{WasDrawnAt}
use Rattle.diff_render.proofs.tests.draw_many.Given as goal

abbrev pub invariant-loop : goal.invariant-loop
invariant-loop l = WasDrawnAt l.screen.size l.screen.shown
