-- What the contracts inside this crate see of cells that flow onto rows: how many rows begin among them, and what room is left in the last.
use Rattle.std.specs.Prelude.{◌≡◌, ℕ, ◌+◌, ◌-◌, ◌<◌, ◌≤◌, ◌==◌, min, List, [], ◌∷◌, ◌++◌, length, map, nat_le, replicate, slice_index_or, if◌then◌else◌}
use Rattle.cell_grid.specs.declared.cell.Cell.{Cell}
use Rattle.cell_grid.specs.declared.cell.Cell.TheVariants.{Lead, Tail}
use Rattle.cell_grid.specs.Attrs.{plain}
use Rattle.cell_grid.specs.TextCells.{with_next}
use Rattle.text_rows.specs.declared.flows.Flow.{Flow}
use Rattle.text_rows.specs.declared.marks.Mark.{Mark}

-- the columns of the characters of these cells
abbrev pub columns_in : List Cell → List ℕ
columns_in [] = []
columns_in (Lead text columns attrs ∷ cells) = columns ∷ columns_in cells
columns_in (Tail ∷ cells) = columns_in cells

-- the columns of the characters that one character is drawn with: none where it joins another, and more where it is spelled
abbrev pub char_columns : ℕ → List ℕ
char_columns c = columns_in (with_next plain plain [] c)

-- how many rows begin among characters of these columns, of which a row has so much room left; on a row of one column a wide character takes one
abbrev pub begun : ℕ → ℕ → List ℕ → ℕ
begun width room [] = 0
begun width room (columns ∷ rest) =
    if nat_le (min columns width) room then begun width (room - min columns width) rest
    else begun width (width - min columns width) rest + 1

-- the room that is left behind them
abbrev pub room_behind : ℕ → ℕ → List ℕ → ℕ
room_behind width room [] = room
room_behind width room (columns ∷ rest) =
    if nat_le (min columns width) room then room_behind width (room - min columns width) rest
    else room_behind width (width - min columns width) rest

-- how many rows a character of the text begins; a line feed stands for the blank at the end of its line, and what stands before the next line
abbrev pub begun_by : ℕ → Flow → ℕ → ℕ → ℕ
begun_by width under room c =
    if c == 10 then begun width room (1 ∷ []) + (under.rows + 1) else begun width room (char_columns c)

-- the room behind a character of the text
abbrev pub room_after : ℕ → Flow → ℕ → ℕ → ℕ
room_after width under room c = if c == 10 then under.room else room_behind width room (char_columns c)

-- the room behind these characters
abbrev pub room_at : ℕ → Flow → ℕ → List ℕ → ℕ
room_at width under room [] = room
room_at width under room (c ∷ chars) = room_at width under (room_after width under room c) chars

-- a mark for each row that begins at these characters, the first of which has this place in the text
abbrev pub marks_from : ℕ → Flow → ℕ → ℕ → List ℕ → List Mark
marks_from width under room place [] = []
marks_from width under room place (c ∷ chars) =
    replicate (begun_by width under room c) (record { place = place; room = room })
    ++ marks_from width under (room_after width under room c) (place + 1) chars

-- the rows of these cells but the first, and the room in the last of them
abbrev pub flow_of : ℕ → List Cell → Flow
flow_of width cells = record { rows = begun width width (columns_in cells); room = room_behind width width (columns_in cells) }

-- so many marks stand before a place
pub record StandBefore (marks : List Mark) (place count : ℕ) : Type 0 where
  pub within : count ≤ length marks
  pub before : (i : ℕ) (other : Mark) → i < count → (slice_index_or marks i other).place < place
  pub behind : (other : Mark) → count < length marks → place ≤ (slice_index_or marks count other).place

-- marks moved by as much as from one place to another
abbrev pub moved : ℕ → ℕ → List Mark → List Mark
moved from to marks = map (λ mark. record { place = mark.place - from + to; room = mark.room }) marks

-- the marks of a text, and the room behind it
pub record AreMarks (width : ℕ) (under : Flow) (room : ℕ) (text : List ℕ) (marks : List Mark) (last : ℕ) : Type 0 where
  pub marks_are : marks ≡ marks_from width under room 0 text
  pub last_is : last ≡ room_at width under room text

-- what is kept of a text and the cells before its lines
pub record IsKept (message continuation : List Cell) (text : List ℕ) (width : ℕ) (opening under : Flow) (marks : List Mark) (room : ℕ) : Type 0 where
  pub some : 1 ≤ width
  pub short_text : length text ≤ 32768
  pub short_message : length message ≤ 1000
  pub short_continuation : length continuation ≤ 1000
  pub opening_is : opening ≡ flow_of width message
  pub under_is : under ≡ flow_of width continuation
  pub marked : AreMarks width under opening.room text marks room
