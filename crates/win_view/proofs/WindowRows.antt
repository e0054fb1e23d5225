-- The rows of a window and its cursor, where lines wrap and where they don't.
use Rattle.std.proofs.Common.{◌≡◌, ℕ, ◌+◌, ◌-◌, ◌<◌, true, false, List, [], ◌∷◌, ◌++◌, length, get_or, map, replicate, take, drop, refl, sym, ap, subst, ◌∙◌, arith, All}
use Rattle.std.specs.List.{flat_map}
use Rattle.std.proofs.lemmas.List.{drop-replicate, length-map, length-replicate, take-map}
use Rattle.std.proofs.lemmas.List.Folds.{length-flat_map-take}
use Rattle.cell_grid.specs.declared.attrs.Attrs.{Attrs}
use Rattle.cell_grid.specs.declared.cell.Cell.{Cell}
use Rattle.cell_grid.specs.Cell.{narrow}
use Rattle.cell_grid.specs.Grid.{AllRows}
use Rattle.cell_grid.specs.Size.{Extent}
use Rattle.win_view.specs.declared.contents.Content.{Content}
use Rattle.win_view.specs.declared.layings.Laying.{Laying}
use Rattle.win_view.specs.declared.scrolls.Scroll.{Scroll}
use Rattle.win_view.specs.declared.viewports.Viewport.{Viewport}
use Rattle.win_view.specs.Greedy.{IsHeld}
use Rattle.win_view.specs.Contents.{content_rows, rows_to}
use Rattle.win_view.specs.Rows.{rows_of}
use Rattle.win_view.specs.Showing.{IsStart, over_spaces, part_of, shown_of}
use Rattle.win_view.specs.Views.{columns_from, cut_by, filled_with, spaces, window_rows_with}
use Rattle.win_view.proofs.RowCounts.{rows_of-take-le}
use Rattle.win_view.proofs.WindowLaws.{AllRows-filled}

-- ---- the rows of the content

pub content_rows-wrapped : (c : Content) (width : ℕ) → c.wrap ≡ true → content_rows c width ≡ flat_map (rows_of width) c.lines
content_rows-wrapped c width wrapped = rw wrapped refl

-- the cursor's row is one of them
pub row_within : (width at cell rows row : ℕ) (lines above : List (List Cell)) (line cells : List Cell) → at < length lines → line ≡ get_or lines at line → above ≡ take at lines → cells ≡ line → rows ≡ length (flat_map (rows_of width) above) → row + 1 ≡ length (rows_to width cells cell) → rows + row < length (flat_map (rows_of width) lines)
row_within width at cell rows row lines above line cells within is before same counted here =
    omega (
      arith,
      counted ∙ ap (λ (front : List (List Cell)). length (flat_map (rows_of width) front)) before,
      here ∙ ap (λ (all : List Cell). length (rows_to width all cell)) same,
      length-flat_map-take (rows_of width) lines at line within,
      ap (λ (all : List Cell). length (rows_of width all)) is,
      rows_of-take-le width (cell + 1) line,
    )

-- ---- the rows of the window

-- these rows filled up with spaces, and rows of spaces behind them
abbrev pub filled_rows : Attrs → ℕ → ℕ → List (List Cell) → List (List Cell)
filled_rows behind rows cols shown = map (filled_with behind cols) shown ++ replicate (rows - length shown) (spaces behind cols)

map-filled : (behind : Attrs) (across width : ℕ) (rows : List (List Cell)) → map (filled_with behind width) (map (columns_from across width) rows) ≡ map (λ row. filled_with behind width (cut_by false across width row)) rows
map-filled behind across width [] = refl
map-filled behind across width (row ∷ rows) = ap (λ (rest : List (List Cell)). filled_with behind width (columns_from across width row) ∷ rest) (map-filled behind across width rows)

window_rows-cut : (behind : Attrs) (c : Content) (size : Extent) (scroll : Scroll) → c.wrap ≡ false → filled_rows behind size.rows size.cols (map (columns_from scroll.across size.cols) (take size.rows (drop scroll.down c.lines))) ≡ window_rows_with behind c size scroll
window_rows-cut behind c size scroll cut =
    let shown = take size.rows (drop scroll.down c.lines) in
    let behind_rows : ℕ → List (List Cell) = λ count. replicate count (spaces behind size.cols) in
    rw cut (
    ap (λ (rows : List (List Cell)). rows ++ behind_rows (size.rows - length (map (columns_from scroll.across size.cols) shown))) (map-filled behind scroll.across size.cols shown)
    ∙ ap (λ (n : ℕ). map (λ row. filled_with behind size.cols (cut_by false scroll.across size.cols row)) shown ++ behind_rows (size.rows - n)) (length-map shown (columns_from scroll.across size.cols))
    )

window_rows-wrapped : (behind : Attrs) (c : Content) (size : Extent) (scroll : Scroll) → c.wrap ≡ true → filled_rows behind size.rows size.cols (take size.rows (drop scroll.down (flat_map (rows_of size.cols) c.lines))) ≡ window_rows_with behind c size scroll
window_rows-wrapped behind c size scroll wrapped = rw wrapped refl

-- ---- the rows of the part that a window stands in

part_of-start : (v : Viewport) (l : Laying) (shown : List (List Cell)) → IsStart v l → part_of l shown ≡ filled_rows v.behind v.size.rows v.size.cols shown
part_of-start v l shown start =
    let cols = v.size.cols in
    let behind = spaces v.behind cols in
    let high : l.end - l.row ≡ v.size.rows = omega (arith, start.row, start.end) in
    ap (λ (all : List Cell). map (over_spaces all) shown ++ replicate (l.end - l.row - length shown) all) start.spaces
    ∙ ap (λ (n : ℕ). map (over_spaces behind) shown ++ replicate (n - length shown) behind) high
    ∙ λ i. map (λ cells. cells ++ drop-replicate (length cells) cols (narrow 32 v.behind) i) shown ++ replicate (v.size.rows - length shown) behind

wide_start : (v : Viewport) (l : Laying) → IsStart v l → length l.spaces.items ≡ v.size.cols
wide_start v l start = ap length start.spaces ∙ length-replicate v.size.cols (narrow 32 v.behind)

pub part_of-wrapped : (v : Viewport) (l : Laying) (c : Content) (scroll : Scroll) (lines : List (List Cell)) → IsStart v l → c.wrap ≡ true → lines ≡ c.lines → part_of l (shown_of l scroll.down (flat_map (rows_of (length l.spaces.items)) lines)) ≡ window_rows_with v.behind c v.size scroll
part_of-wrapped v l c scroll lines start wrapped all =
    let high : l.end - l.row ≡ v.size.rows = omega (arith, start.row, start.end) in
    part_of-start v l (shown_of l scroll.down (flat_map (rows_of (length l.spaces.items)) lines)) start
    ∙ ap (λ (n : ℕ). filled_rows v.behind v.size.rows v.size.cols (take n (drop scroll.down (flat_map (rows_of (length l.spaces.items)) lines)))) high
    ∙ ap (λ (n : ℕ). filled_rows v.behind v.size.rows v.size.cols (take v.size.rows (drop scroll.down (flat_map (rows_of n) lines)))) (wide_start v l start)
    ∙ ap (λ (those : List (List Cell)). filled_rows v.behind v.size.rows v.size.cols (take v.size.rows (drop scroll.down (flat_map (rows_of v.size.cols) those)))) all
    ∙ window_rows-wrapped v.behind c v.size scroll wrapped

pub part_of-cut : (v : Viewport) (l : Laying) (c : Content) (scroll : Scroll) (lines : List (List Cell)) → IsStart v l → c.wrap ≡ false → lines ≡ drop scroll.down c.lines → part_of l (shown_of l 0 (map (columns_from scroll.across (length l.spaces.items)) lines)) ≡ window_rows_with v.behind c v.size scroll
part_of-cut v l c scroll lines start cut below =
    let high : l.end - l.row ≡ v.size.rows = omega (arith, start.row, start.end) in
    part_of-start v l (shown_of l 0 (map (columns_from scroll.across (length l.spaces.items)) lines)) start
    ∙ ap (λ (n : ℕ). filled_rows v.behind v.size.rows v.size.cols (take n (map (columns_from scroll.across (length l.spaces.items)) lines))) high
    ∙ ap (λ (n : ℕ). filled_rows v.behind v.size.rows v.size.cols (take v.size.rows (map (columns_from scroll.across n) lines))) (wide_start v l start)
    ∙ ap (filled_rows v.behind v.size.rows v.size.cols) (take-map (columns_from scroll.across v.size.cols) v.size.rows lines)
    ∙ ap (λ (those : List (List Cell)). filled_rows v.behind v.size.rows v.size.cols (map (columns_from scroll.across v.size.cols) (take v.size.rows those))) below
    ∙ window_rows-cut v.behind c v.size scroll cut

-- each is as wide as the part and whole
pub part_of-every : (v : Viewport) (l : Laying) (shown rows : List (List Cell)) → IsStart v l → All (IsHeld (length l.spaces.items)) shown → part_of l shown ≡ rows → AllRows v.size.cols rows
part_of-every v l shown rows start held is =
    subst (AllRows v.size.cols) (sym (part_of-start v l shown start) ∙ is)
    (AllRows-filled v.behind v.size.rows v.size.cols shown (subst (λ (n : ℕ). All (IsHeld n) shown) (wide_start v l start) held))
