-- What `auto-up` and `auto-down` make of an edit state.
use Rattle.std.specs.Prelude.{ℕ, true, false, Option, None, Some, is_some, if◌then◌else◌}
use Rattle.edit_buffer.specs.declared.menus.Menu.{Menu}
use Rattle.edit_state.specs.declared.states.EditState.{EditState}
use Rattle.edit_state.specs.RowMoves.{place_up, place_down, moved_to_row}
use Rattle.edit_state.specs.HistoryMoves.{lines_back, lines_forward}
use Rattle.edit_state.specs.MenuMoves.{choices}

-- the state at a place of another row; where there is none and no mark, that on another line
abbrev pub row_or_line : EditState → Option ℕ → EditState → EditState
row_or_line s (Some at) other = moved_to_row s (Some at)
row_or_line s None other = if is_some s.buffer.doc.mark then s else other

abbrev pub up_or_back : EditState → ℕ → EditState
up_or_back s count = row_or_line s (place_up s count) (lines_back s count)

abbrev pub down_or_forward : EditState → ℕ → EditState
down_or_forward s count = row_or_line s (place_down s count) (lines_forward s count)

-- in a menu the choices come first
abbrev pub unless_menu : Option Menu → EditState → EditState → EditState
unless_menu None moved chosen = moved
unless_menu (Some m) moved chosen = chosen

-- so many choices back in the menu; without a menu so many rows up, or from the first row lines back
abbrev pub auto_up : EditState → ℕ → EditState
auto_up s count = unless_menu s.buffer.menu (up_or_back s count) (choices false s count)

-- so many choices forward in the menu; without a menu so many rows down, or from the last row lines forward
abbrev pub auto_down : EditState → ℕ → EditState
auto_down s count = unless_menu s.buffer.menu (down_or_forward s count) (choices true s count)
