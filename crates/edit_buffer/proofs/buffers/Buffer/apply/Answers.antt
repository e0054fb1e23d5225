-- The present working line has the text of the new document.
use Rattle.edit_buffer.proofs.States.{state_of-doc}
use Rattle.edit_buffer.proofs.buffers.Buffer.apply.Goals as goal

pub returns-clause-ok : goal.returns-clause-ok
returns-clause-ok c =
    rw (c.in_ok-answer.ensures.ok, ← c.self.view_is) (state_of-doc c.self.inside _)
