-- One more pair is dropped.
use Rattle.std.proofs.Common.{◌∙◌, drop, ap}
use Rattle.std.proofs.lemmas.List.{drop-drop}
use Rattle.circular_buffer.specs.Buffer.{Buffer, buffer}
use Rattle.edit_buffer.specs.BufferState.{Pair}
use Rattle.edit_buffer.proofs.undo.pop_differing.Goals as goal

pub loop-preserved : goal.loop-preserved
loop-preserved c =
    c.pop_front.ensures.items
    ∙ ap (λ (b : Buffer Pair). buffer (drop 1 b.items) b.capacity) c.loop.invariant
    ∙ ap (λ pairs. buffer pairs c.args.pairs.now.capacity) (drop-drop 1 c.loop.counter c.args.pairs.now.items)
