-- The edit state that a prompt starts with.
use Rattle.std.specs.Prelude.{Bool, List, None}
use Rattle.edit_buffer.specs.declared.rings.Clip.{Clip}
use Rattle.edit_buffer.specs.BufferState.{BufferState}
use Rattle.edit_state.specs.declared.states.EditState.{EditState}

-- the state of a buffer and a ring that holds nothing else
abbrev pub opened : BufferState → List Clip → Bool → EditState
opened buffer ring multiline = record {
  buffer = buffer;
  ring = ring;
  arg = None;
  previous = None;
  search = None;
  suggestion = None;
  column = None;
  before_paste = None;
  multiline = multiline;
}
