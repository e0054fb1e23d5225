use Rattle.diff_render.proofs.Texts.{bytes_step, scalars_step}
use Rattle.diff_render.proofs.spelling.push_text.Goals as goal

pub loop-c-preserved : goal.loop-c-preserved
loop-c-preserved c = record {
  bytes = bytes_step _ _ _ _ _ c.c-item.result c.loop-c-test.true c.c-item.is c.loop-c.invariant.bytes c.in_ok-push_char.ensures.bytes;
  valid = λ h. c.loop-c.invariant.valid (scalars_step _ _ c.c-item.result c.loop-c-test.true c.c-item.is c.in_ok-push_char.ensures.scalar h);
}
