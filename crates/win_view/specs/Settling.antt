-- What a contract sees of settling: the scroll with which a window of this size shows the cursor.
use Rattle.std.specs.Prelude.{ℕ, Bool, true, false, length}
use Rattle.cell_grid.specs.Size.{Extent}
use Rattle.win_view.specs.declared.contents.Content.{Content}
use Rattle.win_view.specs.declared.scrolls.Scroll.{Scroll}
use Rattle.win_view.specs.Contents.{content_rows, cursor_row, line_at}
use Rattle.win_view.specs.Scroll.{scrolled}

-- down over the rows of the content
abbrev pub settled_down : Content → Extent → ℕ → ℕ
settled_down c size old = scrolled old 0 (cursor_row c size.cols) size.rows (length (content_rows c size.cols))

-- across over the columns of the cursor's line, where lines are not wrapped; else it stays
abbrev pub settled_across : Bool → Content → Extent → ℕ → ℕ
settled_across true c size old = old
settled_across false c size old = scrolled old 0 c.cell size.cols (length (line_at c.lines c.line))

abbrev pub settled : Content → Extent → Scroll → Scroll
settled c size old = record { down = settled_down c size old.down; across = settled_across c.wrap c size old.across }
