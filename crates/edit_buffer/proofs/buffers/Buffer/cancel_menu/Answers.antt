-- The original without its mark.
use Rattle.std.proofs.Common.{sym, subst, ◌∙◌}
use Rattle.edit_buffer.specs.BufferState.{IsBufferState}
use Rattle.edit_buffer.specs.Insides.{state_of}
use Rattle.edit_buffer.proofs.States.{state_of-cancelled, IsBufferState-cancelled}
use Rattle.edit_buffer.proofs.buffers.Buffer.cancel_menu.Goals as goal

pub invariant_of-self : goal.invariant_of-self
invariant_of-self c =
    let b = c.self.inside in
    let m = c.in-Some.menu in
    let present = sym c.take.ensures.value ∙ c.in-Some.is in
    record {
      state = subst IsBufferState (sym (state_of-cancelled b m c.set_mark.new.self c.take.new.self present c.take.ensures.after c.set_mark.ensures.marked))
          (IsBufferState-cancelled (state_of b) m c.self.invariant.state present);
      undo_room = c.self.invariant.undo_room;
      redo_room = c.self.invariant.redo_room;
      is_kept = λ e. cc;
    }

pub returns-in-Some : goal.returns-in-Some
returns-in-Some c =
    rw (← c.self.view_is)
    (state_of-cancelled c.self.inside c.in-Some.menu _ _ (sym c.take.ensures.value ∙ c.in-Some.is) c.take.ensures.after c.set_mark.ensures.marked)
