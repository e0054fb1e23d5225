-- The working lines of a new buffer, and going from one working line to another.
use Rattle.std.specs.Prelude.{ℕ, ◌+◌, ◌-◌, min, Bool, ◌&&◌, List, [], ◌∷◌, ◌++◌, length, drop, None, nat_lt, if◌then◌else◌}
use Rattle.text_doc.specs.Rows.{line_end}
use Rattle.edit_buffer.specs.BufferState.{BufferState, line_of}

-- the last 1,000 entries
abbrev pub newest : List (List ℕ) → List (List ℕ)
newest history = drop (length history - 1000) history

-- the buffer on a new line of this text behind the newest entries, with its cursor at the end
abbrev pub opened : List (List ℕ) → List ℕ → BufferState
opened history text = record {
  doc = record { text = text; cursor = length text; mark = None };
  lines = newest history ++ text ∷ [];
  index = length (newest history);
  undo = [];
  redo = [];
  menu = None;
}

-- the buffer on this line, with its cursor at this place of it, and without a mark
abbrev pub moved_to : BufferState → ℕ → ℕ → BufferState
moved_to b line at = record b { doc = record { text = line_of b line; cursor = at; mark = None }; index = line }

-- whether there is a step to go and a line further back
abbrev pub can_go_back : BufferState → ℕ → Bool
can_go_back b steps = nat_lt 0 steps && nat_lt 0 b.index

-- up to `steps` lines back, at the end of the text
abbrev pub gone_back : BufferState → ℕ → BufferState
gone_back b steps = if can_go_back b steps then moved_to b (b.index - steps) (length (line_of b (b.index - steps))) else b

-- whether there is a step to go and a line further on
abbrev pub can_go_forward : BufferState → ℕ → Bool
can_go_forward b steps = nat_lt 0 steps && nat_lt (b.index + 1) (length b.lines)

-- the line `steps` lines on, or the last one
abbrev pub line_ahead : BufferState → ℕ → ℕ
line_ahead b steps = min (b.index + steps) (length b.lines - 1)

-- up to `steps` lines forward, at the end of the first row
abbrev pub gone_forward : BufferState → ℕ → BufferState
gone_forward b steps =
    if can_go_forward b steps then moved_to b (line_ahead b steps) (line_end (line_of b (line_ahead b steps)) 0) else b
