-- The texts that are exchanged give the state that was moved.
use Rattle.std.proofs.Common.{◌<◌, ◌≤◌, length, sym, subst, arith}
use Rattle.std.proofs.lemmas.List.{length-set}
use Rattle.edit_buffer.specs.BufferState.{BufferState, IsBufferState, line_of}
use Rattle.edit_buffer.specs.Insides.{state_of}
use Rattle.edit_buffer.proofs.States.{state_of-moved, IsBufferState-moved_to}
use Rattle.edit_buffer.proofs.buffers.Buffer.goto.Goals as goal

pub invariant_of-self-2 : goal.invariant_of-self-2
invariant_of-self-2 c =
    let b = c.self.inside in
    let index : b.index < length b.lines.items = omega (arith, c.self.invariant.state.index, length-set b.lines.items b.index b.doc.text) in
    let P : BufferState → Type 0 = λ s. c.args.line < length s.lines in
    let within : c.args.line < length (state_of b).lines = subst P (sym c.self.view_is) c.requires.line in
    let line : c.args.line < length b.lines.items = omega (arith, within, length-set b.lines.items b.index b.doc.text) in
    let Q : BufferState → Type 0 = λ s. c.args.at ≤ length (line_of s c.args.line) in
    let place : c.args.at ≤ length (line_of (state_of b) c.args.line) = subst Q (sym c.self.view_is) c.requires.place in
    record {
      state = subst IsBufferState (sym (state_of-moved b c.args.line c.args.at index line (λ e. c.if-line-self.false (sym e)) c.go_to_line.new.doc c.in_ok-go_to_line.ensures.doc _ c.in_ok-go_to_line.ensures.lines))
          (IsBufferState-moved_to (state_of b) c.args.line c.args.at c.self.invariant.state within place);
      undo_room = c.self.invariant.undo_room;
      redo_room = c.self.invariant.redo_room;
      is_kept = λ e. cc;
    }

pub returns-clause-ok : goal.returns-clause-ok
returns-clause-ok c =
    let b = c.self.inside in
    let index : b.index < length b.lines.items = omega (arith, c.self.invariant.state.index, length-set b.lines.items b.index b.doc.text) in
    let P : BufferState → Type 0 = λ s. c.args.line < length s.lines in
    let within : c.args.line < length (state_of b).lines = subst P (sym c.self.view_is) c.requires.line in
    let line : c.args.line < length b.lines.items = omega (arith, within, length-set b.lines.items b.index b.doc.text) in
    rw (← c.self.view_is)
    (state_of-moved b c.args.line c.args.at index line (λ e. c.if-line-self.false (sym e)) c.go_to_line.new.doc c.in_ok-go_to_line.ensures.doc _ c.in_ok-go_to_line.ensures.lines)
