-- How characters flow onto rows: one by one, and those of two lists one behind the other.
use Prim.Native.Nat.{suc, min}
use Rattle.std.proofs.Common.{◌≡◌, ℕ, ◌+◌, ◌-◌, ◌<◌, ◌≤◌, Bool, true, false, List, [], ◌∷◌, ◌++◌, length, get_or, drop, refl, sym, ap, ◌∙◌, add-one, drop-cons, arith}
use Rattle.std.specs.Prelude.{if◌then◌else◌, nat_le}
use Rattle.cell_grid.specs.declared.cell.Cell.{Cell}
use Rattle.cell_grid.specs.declared.cell.Cell.TheVariants.{Lead, Tail}
use Rattle.text_rows.specs.Flows.{begun, columns_in, room_behind}

begun_by_test : (test : Bool) (width fit broken : ℕ) (xs : List ℕ) → (if test then begun width fit xs else begun width broken xs + 1) ≡ (if test then 0 else 0 + 1) + begun width (if test then fit else broken) xs
begun_by_test true width fit broken xs = omega arith
begun_by_test false width fit broken xs = omega arith

-- one character, and those behind it
pub begun-cons : (width room columns : ℕ) (xs : List ℕ) → begun width room (columns ∷ xs) ≡ begun width room (columns ∷ []) + begun width (room_behind width room (columns ∷ [])) xs
begun-cons width room columns xs = begun_by_test (nat_le (min columns width) room) width (room - min columns width) (width - min columns width) xs

room_by_test : (test : Bool) (width fit broken : ℕ) (xs : List ℕ) → (if test then room_behind width fit xs else room_behind width broken xs) ≡ room_behind width (if test then fit else broken) xs
room_by_test true width fit broken xs = refl
room_by_test false width fit broken xs = refl

pub room-cons : (width room columns : ℕ) (xs : List ℕ) → room_behind width room (columns ∷ xs) ≡ room_behind width (room_behind width room (columns ∷ [])) xs
room-cons width room columns xs = room_by_test (nat_le (min columns width) room) width (room - min columns width) (width - min columns width) xs

pub room-append : (width room : ℕ) (xs ys : List ℕ) → room_behind width room (xs ++ ys) ≡ room_behind width (room_behind width room xs) ys
room-append width room [] ys = refl
room-append width room (x ∷ xs) ys =
    room-cons width room x (xs ++ ys) ∙ room-append width (room_behind width room (x ∷ [])) xs ys
    ∙ ap (λ (n : ℕ). room_behind width n ys) (sym (room-cons width room x xs))

pub begun-append : (width room : ℕ) (xs ys : List ℕ) → begun width room (xs ++ ys) ≡ begun width room xs + begun width (room_behind width room xs) ys
begun-append width room [] ys = omega arith
begun-append width room (x ∷ xs) ys =
    omega (
      arith,
      begun-cons width room x (xs ++ ys),
      begun-append width (room_behind width room (x ∷ [])) xs ys,
      begun-cons width room x xs,
      ap (λ (n : ℕ). begun width n ys) (room-cons width room x xs),
    )

few_by_test : (test : Bool) → (if test then 0 else 0 + 1) ≤ 1
few_by_test true = omega arith
few_by_test false = omega arith

pub begun-one : (width room columns : ℕ) → begun width room (columns ∷ []) ≤ 1
begun-one width room columns = few_by_test (nat_le (min columns width) room)

-- no more rows begin than there are characters
pub begun-few : (width room : ℕ) (xs : List ℕ) → begun width room xs ≤ length xs
begun-few width room [] = omega arith
begun-few width room (x ∷ xs) = omega (arith, begun-cons width room x xs, begun-one width room x, begun-few width (room_behind width room (x ∷ [])) xs)

small_by_test : (test : Bool) (width fit broken : ℕ) → fit ≤ width → broken ≤ width → (if test then fit else broken) ≤ width
small_by_test true width fit broken f b = f
small_by_test false width fit broken f b = b

-- no room is greater than the width
pub room-small : (width room : ℕ) (xs : List ℕ) → room ≤ width → room_behind width room xs ≤ width
room-small width room [] small = small
room-small width room (x ∷ xs) small =
    let one : room_behind width room (x ∷ []) ≤ width =
    small_by_test (nat_le (min x width) room) width (room - min x width) (width - min x width) (omega (arith, small)) (omega arith) in
    omega (arith, room-cons width room x xs, room-small width (room_behind width room (x ∷ [])) xs one)

-- ---- the characters of a slice, one by one

abbrev pub Counted : ℕ → ℕ → ℕ → ℕ → ℕ → List ℕ → List ℕ → Type 0
Counted width rows room first_rows first_room left all =
    (rows + begun width room left ≡ first_rows + begun width first_room all) × (room_behind width room left ≡ room_behind width first_room all)

pub counted_more : (width rows room first_rows first_room : ℕ) (left all rest : List ℕ) (columns rows' room' : ℕ) → left ≡ columns ∷ rest → Counted width rows room first_rows first_room left all → rows' ≡ rows + begun width room (columns ∷ []) → room' ≡ room_behind width room (columns ∷ []) → Counted width rows' room' first_rows first_room rest all
counted_more width rows room first_rows first_room left all rest columns rows' room' is so_far rows_are room_is = (
  omega (
    arith,
    so_far.0,
    ap (begun width room) is,
    begun-cons width room columns rest,
    rows_are,
    ap (λ (n : ℕ). begun width n rest) room_is,
  ),
  ap (λ (n : ℕ). room_behind width n rest) room_is ∙ sym (room-cons width room columns rest) ∙ ap (room_behind width room) (sym is) ∙ so_far.1,
)

pub left_at : {X : Type 0} (xs : List X) (i : ℕ) (d x : X) → i < length xs → x ≡ get_or xs i d → drop i xs ≡ x ∷ drop (i + 1) xs
left_at xs i d x h is = rw (add-one, drop-cons xs i d) (ap (λ y. y ∷ drop (suc i) xs) (sym is))

pub few_columns : (cells : List Cell) → length (columns_in cells) ≤ length cells
few_columns [] = omega arith
few_columns (Lead text columns attrs ∷ cells) = omega (arith, few_columns cells)
few_columns (Tail ∷ cells) = omega (arith, few_columns cells)

-- characters of columns of two kinds, one behind the other
pub counted_both : (width rows room first_rows first_room : ℕ) (left all here rest : List ℕ) (rows' room' : ℕ) → left ≡ here ++ rest → Counted width rows room first_rows first_room left all → rows' ≡ rows + begun width room here → room' ≡ room_behind width room here → Counted width rows' room' first_rows first_room rest all
counted_both width rows room first_rows first_room left all here rest rows' room' is so_far rows_are room_is = (
  omega (
    arith,
    so_far.0,
    ap (begun width room) is,
    begun-append width room here rest,
    rows_are,
    ap (λ (n : ℕ). begun width n rest) room_is,
  ),
  ap (λ (n : ℕ). room_behind width n rest) room_is ∙ sym (room-append width room here rest) ∙ ap (room_behind width room) (sym is) ∙ so_far.1,
)
