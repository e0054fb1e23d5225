-- What a contract sees of the rows of a scene: how many the drawing and the buffer's window have, and how the window is scrolled.
use Rattle.std.specs.Prelude.{ℕ, ◌+◌, ◌-◌, min, max, Bool, true, false, not, ◌&&◌, ◌||◌, List, [], ◌∷◌, length, Option, None, Some, nat_le, if◌then◌else◌}
use Rattle.cell_grid.specs.Size.{Extent}
use Rattle.text_doc.specs.declared.completions.Completion.{Completion}
use Rattle.win_view.specs.declared.scrolls.Scroll.{Scroll}
use Rattle.win_view.specs.Contents.{content_rows}
use Rattle.win_view.specs.Settling.{settled}
use Rattle.prompt_view.specs.Bars.{bars}
use Rattle.prompt_view.specs.Lines.{content_of}
use Rattle.prompt_view.specs.Scene.{SceneFields}

abbrev pub has_items : List Completion → Bool
has_items [] = false
has_items (item ∷ items) = true

-- rows are kept for a menu where one is shown or may come while one types
abbrev pub keeps_rows : SceneFields → Bool
keeps_rows s = not s.finished && (s.completes || has_items s.items)

-- the rows that the buffer's window asks for: those of its content, and at least eight where rows are kept for a menu
abbrev pub asked_rows : SceneFields → ℕ
asked_rows s =
    if keeps_rows s then max 8 (length (content_rows (content_of s) s.size.cols))
    else length (content_rows (content_of s) s.size.cols)

-- the rows down to the end of the screen, where the terminal told in which row the drawing begins; none in a finished drawing
abbrev pub room_by : Bool → Option ℕ → ℕ
room_by true room = 0
room_by false None = 0
room_by false (Some rows) = rows

abbrev pub room_of : SceneFields → ℕ
room_of s = room_by s.finished s.room

-- the rows of the drawing: those that its boxes ask for, or those down to the end of the screen where these are more, but no more than the screen has
abbrev pub height_of : SceneFields → ℕ
height_of s = min s.size.rows (max (asked_rows s + length (bars s)) (room_of s))

-- the bars leave a row for the buffer's window
abbrev pub has_division : SceneFields → Bool
has_division s = nat_le (1 + length (bars s)) (height_of s)

-- the buffer's window has the rows that the bars leave
abbrev pub window_of : SceneFields → Extent
window_of s = record { rows = height_of s - length (bars s); cols = s.size.cols }

-- the scroll at which the window shows the cursor; without a division it stays
abbrev pub settled_scroll : SceneFields → Scroll
settled_scroll s = if has_division s then settled (content_of s) (window_of s) s.scroll else s.scroll
