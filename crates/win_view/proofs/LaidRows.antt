-- Rows of a content that are laid one by one into a part of a grid.
use Prim.Native.Nat.{suc}
use Rattle.std.proofs.Common.{◌≡◌, ℕ, ◌+◌, ◌-◌, ◌≤◌, ◌<◌, ltb, inl, inr, Bool, false, List, [], ◌∷◌, ◌++◌, length, map, replicate, take, drop, fold, refl, sym, ap, ◌∙◌, arith, length-take, length-set, take-append-drop}
use Rattle.std.proofs.lemmas.Bool.{cases_lt, lt-ltb, le-ltb}
use Rattle.std.proofs.lemmas.List.{take_all, take-append-le, drop-append-le, drop_all, length-map}
use Rattle.std.proofs.lemmas.List.Sums.{fold-append}
use Rattle.cell_grid.specs.declared.cell.Cell.{Cell}
use Rattle.cell_grid.specs.Grid.{blitted, row_at}
use Rattle.cell_grid.specs.Row.{laid_at}
use Rattle.win_view.specs.declared.layings.Laying.{Laying}
use Rattle.win_view.specs.Showing.{over_spaces, part_of, passed, passed_by, shown_of, with_row}
use Rattle.win_view.proofs.Blits.{blitted-first, blitted-behind}

-- ---- one row

-- it is above the part
pub passed-above : (l : Laying) (grid : List (List Cell)) (cells : List Cell) → 0 < l.above → passed (l, grid) cells ≡ (record l { above = l.above - 1 }, grid)
passed-above l grid cells above = ap (λ (test : Bool). passed_by test (ltb l.row l.end) l grid cells) (lt-ltb 0 l.above above)

-- it is in it
pub passed-inside : (l : Laying) (grid : List (List Cell)) (cells : List Cell) → l.above ≡ 0 → l.row < l.end → passed (l, grid) cells ≡ (record l { row = l.row + 1 }, with_row l grid cells)
passed-inside l grid cells none inside =
    ap (λ (test : Bool). passed_by test (ltb l.row l.end) l grid cells) (le-ltb 0 l.above (omega arith))
    ∙ ap (λ (test : Bool). passed_by false test l grid cells) (lt-ltb l.row l.end inside)

-- it is below it
pub passed-below : (l : Laying) (grid : List (List Cell)) (cells : List Cell) → l.above ≡ 0 → l.end ≤ l.row → passed (l, grid) cells ≡ (l, grid)
passed-below l grid cells none below =
    ap (λ (test : Bool). passed_by test (ltb l.row l.end) l grid cells) (le-ltb 0 l.above (omega arith))
    ∙ ap (λ (test : Bool). passed_by false test l grid cells) (le-ltb l.row l.end below)

-- ---- all rows

pub all-below : (l : Laying) (grid : List (List Cell)) (rows : List (List Cell)) → l.above ≡ 0 → l.end ≤ l.row → fold passed (l, grid) rows ≡ (l, grid)
all-below l grid [] none below = refl
all-below l grid (cells ∷ rows) none below =
    ap (λ (state : Laying × List (List Cell)). fold passed state rows) (passed-below l grid cells none below) ∙ all-below l grid rows none below

-- the laying with so many rows above the part and its next row there, and the grid
abbrev pub state_at : Laying → ℕ → ℕ → List (List Cell) → Laying × List (List Cell)
state_at l above row grid = (record l { above = above; row = row }, grid)

-- those where these rows are shown
abbrev pub state_of : Laying → List (List Cell) → ℕ → List (List Cell) → Laying × List (List Cell)
state_of l grid above shown = state_at l above (l.row + length shown) (blitted grid (map (over_spaces l.spaces.items) shown) l.row l.col)

same_state : (l : Laying) (above other row next : ℕ) (grid new : List (List Cell)) → above ≡ other → row ≡ next → grid ≡ new → state_at l above row grid ≡ state_at l other next new
same_state l above other row next grid new e f g = λ i. (record l { above = e i; row = f i }, g i)

-- no row is shown
none_shown : (l : Laying) (grid : List (List Cell)) (above : ℕ) → l.above ≡ above → state_at l l.above l.row grid ≡ state_of l grid above []
none_shown l grid above is = same_state l l.above above l.row (l.row + 0) grid (blitted grid [] l.row l.col) is (omega arith) (sym (take-append-drop l.row grid))

all-inside : (l : Laying) (grid : List (List Cell)) (rows : List (List Cell)) → l.above ≡ 0 → l.row ≤ l.end → l.end ≤ length grid → fold passed (l, grid) rows ≡ state_of l grid 0 (take (l.end - l.row) rows)
all-inside l grid [] none within fits = none_shown l grid 0 none ∙ ap (state_of l grid 0) (sym (take_all (l.end - l.row) [] (omega arith)))
all-inside l grid (cells ∷ rows) none within fits =
    elim (cases_lt l.row l.end) [
      | inl inside ↦
          let next : Laying = record l { row = l.row + 1 } in
          let shown = take (l.end - (l.row + 1)) rows in
          let fill = over_spaces l.spaces.items in
          let one_more : suc (l.end - (l.row + 1)) ≡ l.end - l.row = omega arith in
          ap (λ (state : Laying × List (List Cell)). fold passed state rows) (passed-inside l grid cells none inside)
          ∙ all-inside next (with_row l grid cells) rows none (omega arith) (omega (arith, length-set grid l.row (laid_at (row_at grid l.row) l.col (fill cells))))
          ∙ same_state l 0 0 (l.row + 1 + length shown) (l.row + length (cells ∷ shown)) (blitted (with_row l grid cells) (map fill shown) (l.row + 1) l.col) (blitted grid (map fill (cells ∷ shown)) l.row l.col)
          refl (omega arith) (blitted-first grid (map fill shown) (fill cells) l.row (l.row + 1) l.col refl (omega arith))
          ∙ ap (λ (n : ℕ). state_of l grid 0 (take n (cells ∷ rows))) one_more
      | inr below ↦
          let full : 0 ≡ l.end - l.row = omega arith in
          all-below l grid (cells ∷ rows) none below ∙ none_shown l grid 0 none ∙ ap (λ (n : ℕ). state_of l grid 0 (take n (cells ∷ rows))) full
    ]

pub all_passed : (l : Laying) (grid : List (List Cell)) (rows : List (List Cell)) → l.row ≤ l.end → l.end ≤ length grid → fold passed (l, grid) rows ≡ state_of l grid (l.above - length rows) (shown_of l l.above rows)
all_passed l grid [] within fits =
    let no_more : [] ≡ shown_of l l.above [] = sym (ap (take (l.end - l.row)) (drop_all l.above [] (omega arith)) ∙ take_all (l.end - l.row) [] (omega arith)) in
    let same : l.above ≡ l.above - 0 = omega arith in
    none_shown l grid (l.above - 0) same ∙ ap (state_of l grid (l.above - 0)) no_more
all_passed l grid (cells ∷ rows) within fits =
    elim (cases_lt 0 l.above) [
      | inl above ↦
          let one_more : suc (l.above - 1) ≡ l.above = omega arith in
          let fewer : l.above - 1 - length rows ≡ l.above - length (cells ∷ rows) = omega arith in
          ap (λ (state : Laying × List (List Cell)). fold passed state rows) (passed-above l grid cells above)
          ∙ all_passed (record l { above = l.above - 1 }) grid rows within fits
          ∙ ap (λ (n : ℕ). state_of l grid n (take (l.end - l.row) (drop (l.above - 1) rows))) fewer
          ∙ ap (λ (n : ℕ). state_of l grid (l.above - length (cells ∷ rows)) (take (l.end - l.row) (drop n (cells ∷ rows)))) one_more
      | inr none ↦
          let no_more : 0 ≡ l.above = omega arith in
          let same : 0 ≡ l.above - length (cells ∷ rows) = omega arith in
          all-inside l grid (cells ∷ rows) (sym no_more) within fits
          ∙ ap (λ (n : ℕ). state_of l grid n (take (l.end - l.row) (cells ∷ rows))) same
          ∙ ap (λ (n : ℕ). state_of l grid (l.above - length (cells ∷ rows)) (take (l.end - l.row) (drop n (cells ∷ rows)))) no_more
    ]

-- ---- walks over rows

-- some rows more
pub then_passed : (start state after : Laying × List (List Cell)) (rows more all : List (List Cell)) → state ≡ fold passed start rows → after ≡ fold passed state more → rows ++ more ≡ all → after ≡ fold passed start all
then_passed start state after rows more all so_far then is =
    then ∙ ap (λ (s : Laying × List (List Cell)). fold passed s more) so_far ∙ sym (fold-append passed start rows more) ∙ ap (fold passed start) is

-- what the rows leave as it was
pub spaces_kept : (l after : Laying) (grid new rows : List (List Cell)) → l.row ≤ l.end → l.end ≤ length grid → (after, new) ≡ fold passed (l, grid) rows → after.spaces.items ≡ l.spaces.items
spaces_kept l after grid new rows within fits is =
    ap (λ (state : Laying × List (List Cell)). state.0.spaces.items) (is ∙ all_passed l grid rows within fits)

-- the part is full, so it shows no row more
pub shown_of-full : (l after : Laying) (grid new rows more : List (List Cell)) → l.row ≤ l.end → l.end ≤ length grid → (after, new) ≡ fold passed (l, grid) rows → after.above ≡ 0 → after.end ≤ after.row → shown_of l l.above (rows ++ more) ≡ shown_of l l.above rows
shown_of-full l after grid new rows more within fits is none full =
    let all = is ∙ all_passed l grid rows within fits in
    let here : l.above ≤ length rows = omega (arith, ap (λ (state : Laying × List (List Cell)). state.0.above) all) in
    let long : l.end - l.row ≤ length (shown_of l l.above rows) =
    omega (arith, ap (λ (state : Laying × List (List Cell)). state.0.row) all, ap (λ (state : Laying × List (List Cell)). state.0.end) all)
    in
    ap (take (l.end - l.row)) (drop-append-le l.above rows more here)
    ∙ take-append-le (l.end - l.row) (drop l.above rows) more (omega (arith, length-take (l.end - l.row) (drop l.above rows)))

-- ---- the whole part

pub part_shown : (l after : Laying) (old grid new rows : List (List Cell)) → l.row ≤ l.end → l.end ≤ length old → (after, grid) ≡ fold passed (l, old) rows → new ≡ blitted grid (replicate (after.end - after.row) after.spaces.items) after.row after.col → new ≡ blitted old (part_of l (shown_of l l.above rows)) l.row l.col
part_shown l after old grid new rows within fits is spaces =
    let shown = shown_of l l.above rows in
    let above = map (over_spaces l.spaces.items) shown in
    let next = l.row + length shown in
    let behind : ℕ → List (List Cell) = λ count. replicate count l.spaces.items in
    let left : l.end - next ≡ l.end - l.row - length shown = omega arith in
    spaces
    ∙ ap (λ (state : Laying × List (List Cell)). blitted state.1 (replicate (state.0.end - state.0.row) state.0.spaces.items) state.0.row state.0.col) (is ∙ all_passed l old rows within fits)
    ∙ blitted-behind old above (behind (l.end - next)) l.row next l.col (omega (arith, length-map shown (over_spaces l.spaces.items))) (omega (arith, length-take (l.end - l.row) (drop l.above rows)))
    ∙ ap (λ (n : ℕ). blitted old (above ++ behind n) l.row l.col) left
