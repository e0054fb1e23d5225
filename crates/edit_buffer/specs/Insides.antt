-- How the fields of a `Buffer` hold its state. The text of the present working line is that of the document alone.
use Rattle.std.specs.Prelude.{◌≡◌, true, slice_set}
use Rattle.edit_buffer.specs.declared.buffers.Buffer.TheInside.{Inside}
use Rattle.edit_buffer.specs.BufferState.{BufferState, IsBufferState}
use Rattle.edit_buffer.specs.Undo.{first_has_text}

abbrev pub state_of : Inside → BufferState
state_of b = record {
  doc = b.doc;
  lines = slice_set b.lines.items b.index b.doc.text;
  index = b.index;
  undo = b.undo.items;
  redo = b.redo.items;
  menu = b.menu;
}

-- the state is one of a buffer, either list has room for all pairs, and what is known of the first pair for undo is so
pub record IsKept (b : Inside) : Type 0 where
  pub state : IsBufferState (state_of b)
  pub undo_room : b.undo.capacity ≡ 1000
  pub redo_room : b.redo.capacity ≡ 1000
  pub is_kept : b.is_kept ≡ true → first_has_text b.doc.text b.undo.items ≡ true
