-- The lines that a text is drawn on are whole: a Tail stands exactly behind each wide Lead.
use Prim.Native.Nat.{zero, suc}
use Rattle.std.proofs.Common.{Bool, true, false, if◌then◌else◌, ℕ, ◌≡◌, ◌+◌, ◌-◌, ◌⊎◌, inl, inr, nat_eq, nat_lt, refl, List, [], ◌∷◌, ◌++◌, length, map, take, drop, slice_range, All, arith}
use Rattle.std.specs.Prelude.{unwrap_or}
use Rattle.std.proofs.lemmas.Bool.Decides.{nat_tests}
use Rattle.std.proofs.lemmas.List.Elements.{All-cons, All-nil}
use Rattle.unicode_width.specs.Width.{char_width}
use Rattle.cell_grid.specs.declared.attrs.Attrs.{Attrs}
use Rattle.cell_grid.specs.declared.cell.Cell.{Cell}
use Rattle.cell_grid.specs.declared.cell.Cell.TheVariants.{Lead}
use Rattle.cell_grid.specs.Attrs.{plain}
use Rattle.cell_grid.specs.Cell.{IsLead, blank, narrow, spread}
use Rattle.cell_grid.specs.Row.{IsWhole}
use Rattle.cell_grid.specs.TextCells.{is_control, joined_last, lead_of, spelled, with_char, with_chars, with_next}
use Rattle.cell_grid.proofs.JoinLemmas.{whole-joined_last}
use Rattle.cell_grid.proofs.RowLemmas.{whole-append, whole-spread}
use Rattle.text_rows.specs.declared.looks.Looks.{Looks}
use Rattle.text_rows.specs.DrawnText.{TextFields}
use Rattle.text_rows.specs.Lines.{line_cells, lines_from, with_line}

-- ---- characters behind whole cells

whole-pieces : (pieces : List ℕ) (attrs : Attrs) → IsWhole (map (λ piece. narrow piece attrs) pieces)
whole-pieces [] attrs = tt
whole-pieces (piece ∷ pieces) attrs = inl (refl, whole-pieces pieces attrs)

one_or_two : (width : ℕ) → nat_eq width 0 ≡ false → nat_lt 2 width ≡ false → (width ≡ 1) ⊎ (width ≡ 2)
one_or_two zero none few = cc
one_or_two (suc zero) none few = inl refl
one_or_two (suc (suc zero)) none few = inr refl
one_or_two (suc (suc (suc width))) none few = absurd (grind (arith, nat_tests))

lead_is : (char width : ℕ) (attrs : Attrs) → nat_eq width 0 ≡ false → IsLead (lead_of char width attrs)
lead_is char width attrs some = by (nat_lt 2 width) refl
  where
    by : (b : Bool) → nat_lt 2 width ≡ b → IsLead (if b then narrow 65533 attrs else Lead (char ∷ []) width attrs)
    by true wide = inl refl
    by false few = one_or_two width some few

whole-with_char : (cells : List Cell) (char width : ℕ) (attrs : Attrs) → IsWhole cells → IsWhole (with_char cells char width attrs)
whole-with_char cells char width attrs whole = by (nat_eq char 160) (nat_eq width 0) refl
  where
    by : (space none : Bool) → nat_eq width 0 ≡ none → IsWhole (if space then cells ++ narrow 32 attrs ∷ [] else if none then joined_last cells char else cells ++ spread (lead_of char width attrs))
    by true none is = whole-append false cells (narrow 32 attrs ∷ []) whole (inl (refl, tt))
    by false true is = whole-joined_last false cells char whole
    by false false is = whole-append false cells (spread (lead_of char width attrs)) whole (whole-spread (lead_of char width attrs) (lead_is char width attrs is))

whole-with_next : (attrs control : Attrs) (cells : List Cell) (char : ℕ) → IsWhole cells → IsWhole (with_next attrs control cells char)
whole-with_next attrs control cells char whole = by (is_control char)
  where
    by : (b : Bool) → IsWhole (if b then cells ++ map (λ piece. narrow piece control) (spelled char) else with_char cells char (unwrap_or (char_width false char) 0) attrs)
    by true = whole-append false cells (map (λ piece. narrow piece control) (spelled char)) whole (whole-pieces (spelled char) control)
    by false = whole-with_char cells char (unwrap_or (char_width false char) 0) attrs whole

pub whole-with_chars : (attrs control : Attrs) (cells : List Cell) (chars : List ℕ) → IsWhole cells → IsWhole (with_chars attrs control cells chars)
whole-with_chars attrs control cells [] whole = whole
whole-with_chars attrs control cells (c ∷ cs) whole = whole-with_chars attrs control (with_next attrs control cells c) cs (whole-with_next attrs control cells c whole)

-- ---- lines

whole-with_line : (looks : Looks) (from to : ℕ) (cells : List Cell) (line : List ℕ) → IsWhole cells → IsWhole (with_line looks from to cells line)
whole-with_line looks from to cells line whole =
    let front = with_chars plain looks.control cells (take from line) in
    let middle = with_chars looks.selected looks.control front (slice_range line from to) in
    whole-with_chars plain looks.control middle (drop to line)
    (whole-with_chars looks.selected looks.control front (slice_range line from to) (whole-with_chars plain looks.control cells (take from line) whole))

pub whole-line_cells : (t : TextFields) (before : List Cell) (start : ℕ) (line behind : List ℕ) → IsWhole before → IsWhole (line_cells t before start line behind)
whole-line_cells t before start line behind whole =
    let cells = with_line t.looks (t.selected_from - start) (t.selected_to - start) before line in
    whole-append false (with_chars t.looks.suggestion t.looks.control cells behind) (blank ∷ [])
    (whole-with_chars t.looks.suggestion t.looks.control cells behind (whole-with_line t.looks (t.selected_from - start) (t.selected_to - start) before line whole))
    (inl (refl, tt))

pub whole-lines_from : (t : TextFields) (before : List Cell) (start : ℕ) (lines : List (List ℕ)) → IsWhole before → IsWhole t.continuation → All IsWhole (lines_from t before start lines)
whole-lines_from t before start [] whole others = All-nil IsWhole
whole-lines_from t before start (line ∷ []) whole others =
    All-cons IsWhole (line_cells t before start line t.suggestion) [] (whole-line_cells t before start line t.suggestion whole) (All-nil IsWhole)
whole-lines_from t before start (line ∷ next ∷ lines) whole others =
    All-cons IsWhole (line_cells t before start line []) (lines_from t t.continuation (start + length line + 1) (next ∷ lines)) (whole-line_cells t before start line [] whole)
    (whole-lines_from t t.continuation (start + length line + 1) (next ∷ lines) others others)
