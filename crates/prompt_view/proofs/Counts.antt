-- The cells of a scene are few.
use Rattle.std.proofs.lemmas.List.{map-append, take_min}
use Rattle.std.proofs.Common.{min, take, Option, Some, map, sym, append_assoc, ◌≡◌, ℕ, ◌*◌, ◌≤◌, List, [], ◌∷◌, ◌++◌, length, ap, ◌∙◌, arith, length-append, sum_by}
use Rattle.std.proofs.lemmas.List.Sums.{sum_by-cons}
use Rattle.cell_grid.specs.declared.attrs.Attrs.{Attrs}
use Rattle.cell_grid.specs.declared.cell.Cell.{Cell}
use Rattle.cell_grid.specs.Attrs.{plain}
use Rattle.cell_grid.specs.Cell.{narrow}
use Rattle.cell_grid.specs.TextCells.{with_chars}
use Rattle.text_rows.proofs.CellCounts.{few-cells_for_all, length-with_chars}
use Rattle.win_view.specs.declared.contents.Content.{Content}
use Rattle.win_view.specs.Contents.{IsContent, content_rows, line_at}
use Rattle.win_view.proofs.CursorLaws.{cursor_row-within}
use Rattle.prompt_view.specs.declared.scenes.Direction.{Direction}
use Rattle.prompt_view.specs.Floats.{columns_of}
use Rattle.prompt_view.specs.Bars.{search_label, search_text, text_cells}

-- a short text has few cells
pub few_cells_of : (attrs control : Attrs) (cells : List Cell) (text : List ℕ) → cells ≡ with_chars attrs control [] text → length cells ≤ 4 * length text
few_cells_of attrs control cells text is =
    omega (arith, ap length is, length-with_chars attrs control [] text, few-cells_for_all text)

pub few_columns : (text : List ℕ) → columns_of text ≤ 4 * length text
few_columns text = few_cells_of plain plain (with_chars plain plain [] text) text (λ _. with_chars plain plain [] text)

-- one line of text with a space behind it can be shown
pub one_line_content : (attrs control : Attrs) (text : List ℕ) (c : Content) → length text ≤ 40000 → c.lines ≡ text_cells attrs control text ∷ [] → c.line ≡ 0 → c.cell ≡ 0 → IsContent c
one_line_content attrs control text c short lines line cell =
    let cells = text_cells attrs control text in
    let front = with_chars attrs control [] text in
    let count = length-append front (narrow 32 attrs ∷ []) in
    let few = few_cells_of attrs control front text (λ _. front) in
    record {
      line = omega (arith, line, ap length lines);
      cell = omega (arith, cell, count, ap length (ap (λ (l : List (List Cell)). line_at l c.line) lines ∙ ap (line_at (cells ∷ [])) line));
      few = omega (arith, count, few, short, ap length lines, ap (sum_by length) lines, sum_by-cons length cells []);
    }

-- a content has a row
pub some_rows : (c : Content) (width : ℕ) → IsContent c → 1 ≤ length (content_rows c width)
some_rows c width is = omega (arith, cursor_row-within c width is)

-- the bars that were added one after another
pub all_bars : {X Y : Type 0} (f : X → Y) (a b c d : List X) (p q r s t : List Y) → p ≡ [] → q ≡ p ++ map f a → r ≡ q ++ map f b → s ≡ r ++ map f c → t ≡ s ++ map f d → t ≡ map f (a ++ (b ++ (c ++ d)))
all_bars f a b c d p q r s t none first second third fourth =
    let three : map f (c ++ d) ≡ map f c ++ map f d = map-append f c d in
    let two : map f (b ++ (c ++ d)) ≡ map f b ++ (map f c ++ map f d) = map-append f b (c ++ d) ∙ ap (λ rest. map f b ++ rest) three in
    let one : map f (a ++ (b ++ (c ++ d))) ≡ map f a ++ (map f b ++ (map f c ++ map f d)) = map-append f a (b ++ (c ++ d)) ∙ ap (λ rest. map f a ++ rest) two in
    fourth ∙ ap (λ l. l ++ map f d) (third ∙ ap (λ l. l ++ map f c) (second ∙ ap (λ l. l ++ map f b) (first ∙ ap (λ l. l ++ map f a) none)))
    ∙ append_assoc (map f a ++ map f b) (map f c) (map f d) ∙ append_assoc (map f a) (map f b) (map f c ++ map f d) ∙ sym one

-- the text of the search row, whose label and front of the searched text are given
pub search_is : (search : Option Direction) (direction : Direction) (needle label shown text : List ℕ) (count : ℕ) → search ≡ Some direction → label ≡ search_label direction → count ≡ min 32768 (length needle) → shown ≡ take count needle → text ≡ label ++ shown → text ≡ search_text search needle
search_is search direction needle label shown text count is labels counts front joined =
    joined ∙ ap (λ (l : List ℕ). l ++ shown) labels
    ∙ ap (λ (l : List ℕ). search_label direction ++ l) (front ∙ ap (λ (n : ℕ). take n needle) counts ∙ take_min 32768 needle)
    ∙ sym (ap (λ (o : Option Direction). search_text o needle) is)
