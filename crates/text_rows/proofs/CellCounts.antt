-- How many cells characters are drawn with, whatever their attributes and whatever stands before them.
use Prim.Native.Nat.{suc}
use Rattle.std.proofs.Common.{◌≡◌, ℕ, ◌+◌, ◌-◌, ◌*◌, ◌/◌, ◌%◌, ◌≤◌, Bool, true, false, if◌then◌else◌, List, [], ◌∷◌, ◌++◌, length, map, take, drop, refl, sym, ap, ◌∙◌, arith, length-append, nat_eq, nat_lt, slice_range, take-append-drop, sum_by}
use Rattle.std.specs.Prelude.{unwrap_or}
use Rattle.std.proofs.lemmas.List.{length-map, length-replicate, drop-drop}
use Rattle.std.proofs.lemmas.List.Sums.{sum_by-append, sum_by-cons}
use Rattle.unicode_width.specs.Width.{char_width}
use Rattle.cell_grid.specs.declared.attrs.Attrs.{Attrs}
use Rattle.cell_grid.specs.declared.cell.Cell.{Cell}
use Rattle.cell_grid.specs.declared.cell.Cell.TheVariants.{Lead, Tail}
use Rattle.cell_grid.specs.Attrs.{plain}
use Rattle.cell_grid.specs.Cell.{joined, narrow, spread}
use Rattle.cell_grid.specs.TextCells.{has_lead, hex_digit, is_control, joined_last, lead_of, spelled, with_char, with_chars, with_next}
use Rattle.text_rows.specs.declared.looks.Looks.{Looks}
use Rattle.text_rows.specs.Lines.{with_line}

-- how many cells of its own a character has
abbrev pub cells_for : ℕ → ℕ
cells_for c = length (with_next plain plain [] c)

join-by : (b : Bool) (cell other : Cell) (one rest : List Cell) → length one ≡ length rest → length (if b then cell ∷ one else other ∷ rest) ≡ length (cell ∷ rest)
join-by true cell other one rest e = ap suc e
join-by false cell other one rest e = refl

length-joined_last : (cells : List Cell) (c : ℕ) → length (joined_last cells c) ≡ length cells
length-joined_last [] c = refl
length-joined_last (Tail ∷ cells) c = ap suc (length-joined_last cells c)
length-joined_last (Lead text width attrs ∷ cells) c =
    join-by (has_lead cells) (Lead text width attrs) (joined (Lead text width attrs) c) (joined_last cells c) cells (length-joined_last cells c)

length-spread : (b : Bool) (c width : ℕ) (attrs other : Attrs) → length (spread (if b then narrow 65533 attrs else Lead (c ∷ []) width attrs)) ≡ length (spread (if b then narrow 65533 other else Lead (c ∷ []) width other))
length-spread true c width attrs other = refl
length-spread false c width attrs other = refl

by_case : (b : Bool) (n : ℕ) (x y x' y' : List Cell) → length x ≡ n + length x' → length y ≡ n + length y' → length (if b then x else y) ≡ n + length (if b then x' else y')
by_case true n x y x' y' e f = e
by_case false n x y x' y' e f = f

length-with_char : (cells : List Cell) (c width : ℕ) (attrs : Attrs) → length (with_char cells c width attrs) ≡ length cells + length (with_char [] c width plain)
length-with_char cells c width attrs =
    by_case (nat_eq c 160) (length cells) (cells ++ narrow 32 attrs ∷ []) _ (narrow 32 plain ∷ []) _
    (length-append cells (narrow 32 attrs ∷ []))
    (by_case (nat_eq width 0) (length cells) (joined_last cells c) _ [] _
    (omega (arith, length-joined_last cells c))
    (length-append cells (spread (lead_of c width attrs)) ∙ ap (λ n. length cells + n) (length-spread (nat_lt 2 width) c width attrs plain)))

pub length-with_next : (attrs control : Attrs) (cells : List Cell) (c : ℕ) → length (with_next attrs control cells c) ≡ length cells + cells_for c
length-with_next attrs control cells c =
    by_case (is_control c) (length cells) (cells ++ map (λ piece. narrow piece control) (spelled c)) _ (map (λ piece. narrow piece plain) (spelled c)) _
    (length-append cells (map (λ piece. narrow piece control) (spelled c))
    ∙ ap (λ n. length cells + n) (length-map (spelled c) (λ piece. narrow piece control) ∙ sym (length-map (spelled c) (λ piece. narrow piece plain))))
    (length-with_char cells c (unwrap_or (char_width false c) 0) attrs)

-- how many these characters have
abbrev pub cells_for_all : List ℕ → ℕ
cells_for_all chars = sum_by cells_for chars

pub length-with_chars : (attrs control : Attrs) (cells : List Cell) (chars : List ℕ) → length (with_chars attrs control cells chars) ≡ length cells + cells_for_all chars
length-with_chars attrs control cells [] = omega arith
length-with_chars attrs control cells (c ∷ cs) =
    omega (arith, length-with_chars attrs control (with_next attrs control cells c) cs, length-with_next attrs control cells c, sum_by-cons cells_for c cs)

-- the three parts of a line are the line
pub three_parts : (from to : ℕ) (line : List ℕ) → from ≤ to → take from line ++ (slice_range line from to ++ drop to line) ≡ line
three_parts from to line ordered =
    let all : from + (to - from) ≡ to = omega (arith, ordered) in
    let back : drop to line ≡ drop (to - from) (drop from line) = sym (drop-drop (to - from) from line ∙ ap (λ n. drop n line) all) in
    ap (λ rest. take from line ++ (slice_range line from to ++ rest)) back
    ∙ ap (λ rest. take from line ++ rest) (take-append-drop (to - from) (drop from line))
    ∙ take-append-drop from line

pub length-with_line : (looks : Looks) (from to : ℕ) (cells : List Cell) (line : List ℕ) → from ≤ to → length (with_line looks from to cells line) ≡ length cells + cells_for_all line
length-with_line looks from to cells line ordered =
    let front = with_chars plain looks.control cells (take from line) in
    let middle = with_chars looks.selected looks.control front (slice_range line from to) in
    omega (
      arith,
      length-with_chars plain looks.control cells (take from line),
      length-with_chars looks.selected looks.control front (slice_range line from to),
      length-with_chars plain looks.control middle (drop to line),
      sum_by-append cells_for (take from line) (slice_range line from to ++ drop to line),
      sum_by-append cells_for (slice_range line from to) (drop to line),
      ap cells_for_all (three_parts from to line ordered),
    )

-- ---- a character has four cells at most

few-spelled : (b c : Bool) (x y z w v u t s : ℕ) → length (if b then x ∷ y ∷ [] else (if c then z ∷ w ∷ [] else v ∷ u ∷ t ∷ s ∷ [])) ≤ 4
few-spelled true c x y z w v u t s = omega arith
few-spelled false true x y z w v u t s = omega arith
few-spelled false false x y z w v u t s = omega arith

few_spelled : (c : ℕ) → length (spelled c) ≤ 4
few_spelled c = few-spelled (nat_lt c 32) (nat_eq c 127) 94 (64 + c) 94 63 60 (hex_digit (c / 16)) (hex_digit (c % 16)) 62

few-case : (b : Bool) (x y : List Cell) → length x ≤ 4 → length y ≤ 4 → length (if b then x else y) ≤ 4
few-case true x y e f = e
few-case false x y e f = f

few-lead : (b : Bool) (c width : ℕ) → nat_lt 2 width ≡ b → length (spread (if b then narrow 65533 plain else Lead (c ∷ []) width plain)) ≤ 4
few-lead true c width e = omega arith
few-lead false c width e =
    let small : width ≤ 2 = grind (arith, e) in
    omega (arith, small, length-replicate (width - 1) Tail)

few-char : (c width : ℕ) → length (with_char [] c width plain) ≤ 4
few-char c width =
    few-case (nat_eq c 160) (narrow 32 plain ∷ []) _ (omega arith)
    (few-case (nat_eq width 0) [] _ (omega arith) (few-lead (nat_lt 2 width) c width refl))

pub few-cells_for : (c : ℕ) → cells_for c ≤ 4
few-cells_for c =
    few-case (is_control c) (map (λ piece. narrow piece plain) (spelled c)) _
    (omega (arith, length-map (spelled c) (λ piece. narrow piece plain), few_spelled c))
    (few-char c (unwrap_or (char_width false c) 0))

pub few-cells_for_all : (chars : List ℕ) → cells_for_all chars ≤ 4 * length chars
few-cells_for_all [] = omega arith
few-cells_for_all (c ∷ cs) = omega (arith, few-cells_for_all cs, few-cells_for c, sum_by-cons cells_for c cs)
