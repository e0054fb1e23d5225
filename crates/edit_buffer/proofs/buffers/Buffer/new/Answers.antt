-- The fields of a new buffer give its state.
use Rattle.std.proofs.Common.{None, false, subst, sym, rules}
use Rattle.edit_buffer.specs.declared.buffers.Buffer.TheInside.{Inside}
use Rattle.edit_buffer.specs.BufferState.{IsBufferState}
use Rattle.edit_buffer.proofs.States.{IsOpened, state_of-opened, IsBufferState-opened}
use Rattle.edit_buffer.proofs.buffers.Buffer.new.Goals as goal

pub invariant_of-result : goal.invariant_of-result
invariant_of-result c =
    let b : Inside = record { doc = c.in_ok-doc.doc; lines = c.push.new.self; index = c.len-index.result; undo = c.in_ok-undo.undo; redo = c.in_ok-redo.redo; is_kept = false; menu = None } in
    let fields : IsOpened b c.args.history c.args.first = search rules in
    record {
      state = subst IsBufferState (sym (state_of-opened b c.args.history c.args.first fields)) (IsBufferState-opened c.args.history c.args.first c.requires.entries c.requires.first);
      undo_room = search rules;
      redo_room = search rules;
      is_kept = λ e. cc;
    }

pub returns : goal.returns
returns c =
    let b : Inside = record { doc = c.in_ok-doc.doc; lines = c.push.new.self; index = c.len-index.result; undo = c.in_ok-undo.undo; redo = c.in_ok-redo.redo; is_kept = false; menu = None } in
    let fields : IsOpened b c.args.history c.args.first = search rules in
    state_of-opened b c.args.history c.args.first fields
