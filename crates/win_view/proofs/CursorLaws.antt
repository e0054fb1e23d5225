-- The cursor of a content is in its window, where the scroll is settled.
use Prim.Native.Nat.{zero, suc}
use Rattle.std.proofs.Common.{◌≡◌, ℕ, ◌+◌, ◌-◌, ◌≤◌, ◌<◌, inl, inr, Bool, true, false, List, [], length, take, drop, refl, ap, arith, All, length-drop}
use Rattle.std.specs.List.{flat_map}
use Rattle.std.proofs.lemmas.Bool.{cases_lt}
use Rattle.std.proofs.lemmas.List.{get_or_default, take-take}
use Rattle.cell_grid.specs.declared.cell.Cell.{Cell}
use Rattle.cell_grid.specs.Row.{IsWhole}
use Rattle.cell_grid.specs.Size.{Extent}
use Rattle.win_view.specs.declared.contents.Content.{Content}
use Rattle.win_view.specs.declared.scrolls.Scroll.{Scroll}
use Rattle.win_view.specs.Contents.{IsContent, content_rows, cursor_row, cursor_row_by, last_row, line_at, rows_by, rows_to}
use Rattle.win_view.specs.Rows.{holdable, rows_of}
use Rattle.win_view.specs.Settling.{settled, settled_across, settled_down}
use Rattle.win_view.specs.Views.{seen_col, viewed}
use Rattle.win_view.proofs.FirstRows.{rows_to-first, some_in_first}
use Rattle.win_view.proofs.GreedyRows.{first_of}
use Rattle.win_view.proofs.Holds.{length-holdable-take}
use Rattle.win_view.proofs.LinePlaces.{place_behind}
use Rattle.win_view.proofs.RowCounts.{rows_of-some}
use Rattle.win_view.proofs.ScrollLaws.{ShowsCursor, scrolled_again, scrolled_shows}
use Rattle.win_view.proofs.WindowRows.{row_within}

-- ---- the cursor's row

cursor_row-by : (wrap : Bool) (c : Content) (width : ℕ) → c.line < length c.lines → cursor_row_by wrap c width < length (rows_by wrap width c.lines)
cursor_row-by true c width within =
    let line = line_at c.lines c.line in
    let rows = length (rows_to width line c.cell) in
    let above = length (flat_map (rows_of width) (take c.line c.lines)) in
    let some : 1 ≤ rows = rows_of-some width (take (c.cell + 1) line) in
    omega (arith, row_within width c.line c.cell above (rows - 1) c.lines (take c.line c.lines) line line within (get_or_default c.lines c.line [] line within) refl refl refl (omega arith))
cursor_row-by false c width within = within

-- it is a row of the content
pub cursor_row-within : (c : Content) (width : ℕ) → IsContent c → cursor_row c width < length (content_rows c width)
cursor_row-within c width content = cursor_row-by c.wrap c width content.line

-- and of the window
pub cursor_row-shown : (c : Content) (size : Extent) (old : ℕ) → IsContent c → 1 ≤ size.rows → ShowsCursor (settled_down c size old) (cursor_row c size.cols) size.rows
cursor_row-shown c size old content some =
    scrolled_shows old 0 (cursor_row c size.cols) size.rows (length (content_rows c size.cols)) (cursor_row-within c size.cols content) some

-- ---- the cursor's column

last_upto : (most width cell : ℕ) (cells : List Cell) → length cells ≤ most → 1 ≤ width → IsWhole cells → cell < length cells → length (last_row (rows_to width cells cell)) ≤ width
last_upto zero width cell cells few some whole within = absurd (omega arith)
last_upto (suc most) width cell cells few some whole within =
    let it = first_of width cells some whole in
    let row = take it.count cells in
    elim (cases_lt cell it.count) [
      | inl here ↦
          let short : take (cell + 1) row ≡ take (cell + 1) cells = take-take (cell + 1) it.count cells (omega arith) in
          omega (
            arith,
            ap (λ (rows : List (List Cell)). length (last_row rows)) (rows_to-first width it.count cell cells some it.first here),
            ap (λ (front : List Cell). length (holdable width front)) short,
            length-holdable-take width (cell + 1) row,
            it.first.fits,
          )
      | inr behind ↦
          let rest = drop it.count cells in
          let more : it.count < length cells = omega arith in
          let same = place_behind width it.count cell (cell - it.count) cells rest some it.first behind within refl refl in
          let fewer : length rest ≤ most = omega (arith, length-drop it.count cells, some_in_first width it.count cells some it.first more) in
          omega (
            arith,
            ap length same.last,
            last_upto most width (cell - it.count) rest fewer some it.first.back (omega (arith, length-drop it.count cells)),
          )
    ]

col-by : (wrap : Bool) (c : Content) (size : Extent) (old : ℕ) → c.wrap ≡ wrap → c.cell < length (line_at c.lines c.line) → IsWhole (line_at c.lines c.line) → 1 ≤ size.cols → seen_col c.wrap c size.cols (settled_across c.wrap c size old) < size.cols
col-by true c size old is within whole some =
    let line = line_at c.lines c.line in
    rw is (omega (arith, last_upto (length line) size.cols c.cell line (omega arith) some whole within))
col-by false c size old is within whole some =
    let line = line_at c.lines c.line in
    let shows = scrolled_shows old 0 c.cell size.cols (length line) within some in
    rw is (omega (arith, shows.below))

pub seen_col-within : (c : Content) (size : Extent) (old : ℕ) → IsContent c → IsWhole (line_at c.lines c.line) → 1 ≤ size.cols → seen_col c.wrap c size.cols (settled_across c.wrap c size old) < size.cols
seen_col-within c size old content whole some = col-by c.wrap c size old refl content.cell whole some

-- ---- a settled scroll stays

across-again : (wrap : Bool) (c : Content) (size : Extent) (old : ℕ) → IsContent c → 1 ≤ size.cols → settled_across wrap c size (settled_across wrap c size old) ≡ settled_across wrap c size old
across-again true c size old content some = refl
across-again false c size old content some = scrolled_again old 0 c.cell size.cols (length (line_at c.lines c.line)) content.cell some

pub settled-again : (c : Content) (size : Extent) (old : Scroll) → IsContent c → 1 ≤ size.rows → 1 ≤ size.cols → settled c size (settled c size old) ≡ settled c size old
settled-again c size old content some_rows some_cols =
    let down = scrolled_again old.down 0 (cursor_row c size.cols) size.rows (length (content_rows c size.cols)) (cursor_row-within c size.cols content) some_rows in
    let across = across-again c.wrap c size old.across content some_cols in
    λ i. record { down = down i; across = across i }

-- ---- the cursor is in the window

pub row_shown : (c : Content) (size : Extent) (old : Scroll) → IsContent c → 1 ≤ size.rows → (viewed c size (settled c size old)).row < size.rows
row_shown c size old content some =
    let shows = cursor_row-shown c size old.down content some in
    omega (arith, shows.from, shows.below)

pub col_shown : (c : Content) (size : Extent) (old : Scroll) → IsContent c → 1 ≤ size.cols → All IsWhole c.lines → (viewed c size (settled c size old)).col < size.cols
col_shown c size old content some whole = seen_col-within c size old.across content (whole c.line [] content.line) some
