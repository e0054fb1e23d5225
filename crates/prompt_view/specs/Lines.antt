-- What a contract sees of the lines of a scene: the message, the text, its selection and its suggestion, and what the buffer's window shows.
use Rattle.std.specs.Prelude.{ℕ, ◌+◌, min, max, Bool, not, ◌&&◌, ◌==◌, List, [], length, map, replicate, Option, None, Some, if◌then◌else◌}
use Rattle.cell_grid.specs.declared.cell.Cell.{Cell}
use Rattle.cell_grid.specs.Cell.{narrow}
use Rattle.cell_grid.specs.TextCells.{with_chars}
use Rattle.text_doc.specs.Document.{Document}
use Rattle.text_doc.specs.Rows.{line_start, line_end}
use Rattle.text_rows.specs.DrawnText.{TextFields}
use Rattle.text_rows.specs.Places.{content_at}
use Rattle.win_view.specs.declared.contents.Content.{Content}
use Rattle.prompt_view.specs.declared.scenes.Selection.{Selection}
use Rattle.prompt_view.specs.declared.scenes.Selection.TheVariants.{Exclusive, Inclusive, Rows}
use Rattle.prompt_view.specs.Scene.{SceneFields}

-- the cells before the first line
abbrev pub message_cells : SceneFields → List Cell
message_cells s = with_chars s.looks.prompt s.looks.control [] s.message

-- the cells before each other line: with `multiline` as many spaces as the message has columns
abbrev pub continuation_cells : SceneFields → List Cell
continuation_cells s = if s.multiline then replicate (length (message_cells s)) (narrow 32 s.looks.continuation) else []

-- a character as it is drawn: with a password each but a line feed is a star
abbrev pub drawn_char : Bool → ℕ → ℕ
drawn_char password c = if password && not (c == 10) then 42 else c

-- the range of a selection between two places of a text
abbrev pub range_between : Selection → List ℕ → ℕ → ℕ → ℕ × ℕ
range_between Exclusive text from to = (from, to)
range_between Inclusive text from to = (from, to + 1)
range_between Rows text from to = (line_start text from, line_end text to)

-- the selection goes from the lesser of mark and cursor to the greater
abbrev pub range_by : Option ℕ → Selection → Document → ℕ × ℕ
range_by None selection d = (0, 0)
range_by (Some mark) selection d = range_between selection d.text (min mark d.cursor) (max mark d.cursor)

abbrev pub selected_range : SceneFields → ℕ × ℕ
selected_range s = range_by (if s.finished then None else s.document.mark) s.selection s.document

-- the suggestion stands behind the text where the cursor is at its end
abbrev pub shown_suggestion : SceneFields → List ℕ
shown_suggestion s = if not s.finished && (s.document.cursor == length s.document.text) then s.suggestion else []

-- the text, and what is drawn with it
abbrev pub drawn_text : SceneFields → TextFields
drawn_text s = record {
  message = message_cells s;
  continuation = continuation_cells s;
  text = map (drawn_char s.password) s.document.text;
  selected_from = (selected_range s).0;
  selected_to = (selected_range s).1;
  suggestion = shown_suggestion s;
  looks = record { control = s.looks.control; selected = s.looks.selected; suggestion = s.looks.suggestion };
}

-- what the buffer's window shows, with a place of the text as its cursor
abbrev pub content_with : SceneFields → ℕ → Content
content_with s place = content_at (drawn_text s) place s.wrap

abbrev pub content_of : SceneFields → Content
content_of s = content_with s s.document.cursor
