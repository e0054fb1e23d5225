-- The document of the choice.
use Rattle.std.proofs.Common.{Option, sym, subst}
use Rattle.text_doc.specs.Document.{IsDocument}
use Rattle.edit_buffer.specs.declared.menus.Menu.{Menu}
use Rattle.edit_buffer.specs.BufferState.{BufferState, IsBufferState}
use Rattle.edit_buffer.specs.Insides.{state_of}
use Rattle.edit_buffer.specs.Menus.{choice, CanChoose}
use Rattle.edit_buffer.proofs.States.{state_of-chosen, IsBufferState-chosen}
use Rattle.edit_buffer.proofs.buffers.Buffer.choose.Goals as goal

pub invariant_of-self-in-Some : goal.invariant_of-self-in-Some
invariant_of-self-in-Some c =
    let b = c.self.inside in
    let m = c.in-Some.menu in
    let document : IsDocument (choice m c.args.which) = subst IsDocument c.in_ok-doc.ensures.ok c.in_ok-doc.ensures.document in
    let P : BufferState → Type 0 = λ s. CanChoose s.menu c.args.which in
    let Q : Option Menu → Type 0 = λ o. CanChoose o c.args.which in
    let within : CanChoose b.menu c.args.which = subst P (sym c.self.view_is) c.requires in
    record {
      state = subst IsBufferState (sym (state_of-chosen b m c.args.which c.in_ok-doc.doc c.in-Some.is c.in_ok-doc.ensures.ok))
          (IsBufferState-chosen (state_of b) m c.args.which c.self.invariant.state c.in-Some.is document (subst Q c.in-Some.is within));
      undo_room = c.self.invariant.undo_room;
      redo_room = c.self.invariant.redo_room;
      is_kept = λ e. cc;
    }

pub returns-in_ok-doc-clause-ok : goal.returns-in_ok-doc-clause-ok
returns-in_ok-doc-clause-ok c =
    rw (← c.self.view_is)
    (state_of-chosen c.self.inside c.in-Some.menu c.args.which _ c.in-Some.is c.in_ok-doc.ensures.ok)
