use Rattle.diff_render.proofs.FrameEnds.{frame_of_nothing, frame_of_resized, frame_of_drawn, frame_of_same}
use Rattle.std.proofs.Common.{◌∙◌, sym}
use Rattle.std.proofs.lemmas.Bool.{false≢true}
use Rattle.diff_render.proofs.frames.bytes_of.Goals as goal
use Rattle.diff_render.proofs.frames.bytes_of.Goals.{else-not-done-via-then-not-done+else-is_same}
use Rattle.diff_render.proofs.frames.bytes_of.Goals.{else-not-done-via-else-not-done}

pub returns-then-is_same : goal.returns-then-is_same
returns-then-is_same c =
    frame_of_same _ _ _ _ _ _ _ _ c.in-Drawn.is c.if-not-done.true (c.is_same.ensures.0 c.if-is_same.true) c.new.ensures.bytes

pub returns-in_ok-bytes-in-Nothing : goal.returns-in_ok-bytes-in-Nothing
returns-in_ok-bytes-in-Nothing c = frame_of_nothing _ _ _ _ _ _ _ c.in-Nothing.is c.asks-asks.ensures c.in_ok-bytes-in-Nothing.ensures

pub returns-in_ok-bytes-in-Drawn : goal.returns-in_ok-bytes-in-Drawn
returns-in_ok-bytes-in-Drawn c = frame_of_drawn _ _ _ _ _ _ _ _ c.in-Drawn.is c.in_ok-bytes-in-Drawn.ensures
    (λ same still. elim c.else-not-done.branch [
      | else-not-done-via-then-not-done+else-is_same w ↦ absurd (false≢true (sym w.if-is_same.false ∙ w.is_same.ensures.1 same))
      | else-not-done-via-else-not-done w ↦ absurd (false≢true (sym still ∙ w.if-not-done.false))
    ])

pub returns-in_ok-bytes-in-Resized : goal.returns-in_ok-bytes-in-Resized
returns-in_ok-bytes-in-Resized c =
    frame_of_resized _ _ _ _ _ _ _ _ c.in-Resized.is c.requires.kept c.asks-asks-in-Resized.ensures c.in_ok-bytes-in-Resized.ensures
