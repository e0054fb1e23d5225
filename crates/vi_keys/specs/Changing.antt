-- Commands that put other characters in place of some, and those that insert.
use Rattle.std.specs.Prelude.{ℕ, ◌+◌, ◌-◌, ◌*◌, ◌==◌, nat_lt, Bool, true, false, ◌||◌, List, [], ◌∷◌, ◌++◌, length, map, slice_get, slice_range, Option, None, Some, if◌then◌else◌}
use Rattle.std.specs.List.{repeat, prefix_len}
use Rattle.std.specs.Char.{is_ascii_lowercase, to_ascii_uppercase, to_ascii_lowercase}
use Rattle.key_names.specs.declared.key.Key.{Key}
use Rattle.key_names.specs.declared.key.Key.TheVariants.{Char}
use Rattle.text_doc.specs.Document.{Document}
use Rattle.text_doc.specs.Rows.{line_start, line_end}
use Rattle.edit_buffer.specs.declared.rings.Clip.{Clip}
use Rattle.edit_state.specs.declared.states.EditState.{EditState}
use Rattle.edit_state.specs.declared.states.Done.TheVariants.{Same, Bell}
use Rattle.edit_state.specs.declared.vi_states.ViState.{ViState}
use Rattle.edit_state.specs.CharMoves.{place_ahead}
use Rattle.vi_keys.specs.declared.acts.Act.TheVariants.{Exchange}
use Rattle.vi_keys.specs.declared.plans.Plan.{Plan}
use Rattle.vi_keys.specs.Plans.{plain, answered, counted}

-- these characters so many times at a place, with the cursor at another; where they find no room the bell rings
abbrev pub insertion : Document → ℕ → ℕ → List ℕ → ℕ → ViState → ViState → Plan
insertion d at times chars cursor v before =
    if nat_lt 32768 (length d.text + times * length chars) then answered before Bell else plain v (Exchange at at (repeat times chars) cursor)

-- a typed character takes the place of the one at the cursor, and is inserted at the end of a row
abbrev pub overwritten_at : ℕ → Document → ViState → Plan
overwritten_at c d v =
    if d.cursor == line_end d.text d.cursor then insertion d d.cursor 1 (c ∷ []) (d.cursor + 1) v v else plain v (Exchange d.cursor (d.cursor + 1) (c ∷ []) (d.cursor + 1))

abbrev pub overwritten : Key → Document → ViState → Plan
overwritten (Char c) d v = overwritten_at c d v
overwritten _ d v = answered v Same

-- this character takes the place of so many, with the cursor on the last; the bell rings where the row has fewer
abbrev pub replacement : ℕ → ℕ → List ℕ → ViState → Plan
replacement cursor count text v = plain v (Exchange cursor (cursor + count) text (cursor + count - 1))

abbrev pub replaced_at : ℕ → ℕ → Document → ViState → Plan
replaced_at c count d v =
    if nat_lt (line_end d.text d.cursor) (d.cursor + count) then answered v Bell else replacement d.cursor count (repeat count (c ∷ [])) v

abbrev pub replaced : Key → EditState → ViState → Plan
replaced (Char c) s v = replaced_at c (counted s) s.buffer.doc v
replaced _ s v = answered v Bell

-- a letter of ASCII in the other case
abbrev pub swapped : ℕ → ℕ
swapped c = if is_ascii_lowercase c then to_ascii_uppercase c else to_ascii_lowercase c

-- so many characters, as far as the row goes, in the other case, with the cursor behind them
abbrev pub case_swapped_to : ℕ → Document → ViState → Plan
case_swapped_to to d v = plain v (Exchange d.cursor to (map swapped (slice_range d.text d.cursor to)) to)

abbrev pub case_swapped : EditState → ViState → Plan
case_swapped s v = case_swapped_to (place_ahead s.buffer.doc (counted s)) s.buffer.doc v

abbrev pub is_blank : ℕ → Bool
is_blank c = c == 32 || c == 9

-- how many spaces and tabs stand in a row from a place on
abbrev pub blanks_behind : Document → ℕ → ℕ
blanks_behind d at = prefix_len is_blank (slice_range d.text at (line_end d.text at))

-- a space takes the place of the line feed behind the row and of the spaces and tabs behind it, with the cursor on it
abbrev pub joined_at : ℕ → Document → ViState → Plan
joined_at end d v =
    if end == length d.text then answered v Same else plain v (Exchange end (end + 1 + blanks_behind d (end + 1)) (32 ∷ []) end)

abbrev pub joined : Document → ViState → Plan
joined d v = joined_at (line_end d.text d.cursor) d v

-- a line feed at the end of the row, or at its start, with the cursor on the new row
abbrev pub opened : Bool → Document → ViState → ViState → Plan
opened true d v before = insertion d (line_end d.text d.cursor) 1 (10 ∷ []) (line_end d.text d.cursor + 1) v before
opened false d v before = insertion d (line_start d.text d.cursor) 1 (10 ∷ []) (line_start d.text d.cursor) v before

-- rows below the cursor's row, or above it, with the cursor at the start of the first one
abbrev pub put_rows : Bool → List ℕ → Document → ViState → Plan
put_rows true text d v = insertion d (line_end d.text d.cursor) 1 (10 ∷ text) (line_end d.text d.cursor + 1) v v
put_rows false text d v = insertion d (line_start d.text d.cursor) 1 (text ++ 10 ∷ []) (line_start d.text d.cursor) v v

-- where characters are put: behind the cursor, or before it
abbrev pub put_place : Bool → Document → ℕ
put_place true d = place_ahead d 1
put_place false d = d.cursor

-- characters so many times, with the cursor on the last one
abbrev pub put_chars : Bool → List ℕ → Document → ℕ → ViState → Plan
put_chars behind text d count v =
    insertion d (put_place behind d) count text (put_place behind d + count * length text - 1) v v

abbrev pub put_text : Bool → Bool → List ℕ → Document → ℕ → ViState → Plan
put_text true behind text d count v = put_rows behind text d v
put_text false behind text d count v = put_chars behind text d count v

-- an empty text changes nothing
abbrev pub put_some : Bool → Bool → List ℕ → Document → ℕ → ViState → Plan
put_some rows behind [] d count v = answered v Same
put_some rows behind (c ∷ text) d count v = put_text rows behind (c ∷ text) d count v

abbrev pub put_clip : Bool → Clip → Document → ℕ → ViState → Plan
put_clip behind clip d count v = put_some clip.lines behind clip.text d count v

-- the first clip of the ring, if there is one
abbrev pub put_first : Bool → Option Clip → EditState → ViState → Plan
put_first behind None s v = answered v Same
put_first behind (Some clip) s v = put_clip behind clip s.buffer.doc (counted s) v

abbrev pub put : Bool → EditState → ViState → Plan
put behind s v = put_first behind (slice_get s.ring 0) s v
