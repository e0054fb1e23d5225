-- What an edit at the gap makes of the row starts.
use Rattle.std.proofs.Common.{◌≡◌, ℕ, ◌+◌, ◌-◌, ◌≤◌, List, ◌++◌, length, map, take, drop, sym, ap, ◌∙◌, arith}
use Rattle.std.proofs.lemmas.List.{length-append, length-take-le, length-drop, length-map, take-take, drop-map, drop-drop}
use Rattle.text_doc.specs.Gap.{Gap, joined}
use Rattle.text_doc.specs.Rows.{row_of}
use Rattle.text_doc.specs.RowStarts.{starts_from, row_starts, distances, IsIndexed}
use Rattle.text_doc.proofs.StartLists.{starts_from-append, row_of-starts, row_starts-parted}
use Rattle.text_doc.proofs.StartGaps.{starts_behind}

-- characters and their row starts were put before the gap
pub IsIndexed-inserted : (chars starts text rows : Gap ℕ) (added : List ℕ) (at : ℕ) → IsIndexed chars starts → at ≡ length chars.front
    → length (joined chars) + length added ≤ 32768
    → text.front ≡ chars.front ++ added → text.back ≡ chars.back
    → rows.front ≡ starts.front ++ starts_from at added → rows.back ≡ starts.back → IsIndexed text rows
IsIndexed-inserted chars starts text rows added at is place short front back rows_front rows_back = record {
  front = rows_front ∙ ap (λ xs. xs ++ starts_from at added) is.front ∙ sym (ap row_starts front ∙ starts_from-append 0 at chars.front added (omega arith));
  back = rows_back ∙ is.back ∙ ap (λ xs. distances (length xs) (row_starts xs)) (sym back);
  short = omega (arith, length-append chars.front chars.back, length-append text.front text.back, ap length front, length-append chars.front added, ap length back);
}

-- a place behind another is in no earlier row
pub row_of-le : (text : List ℕ) (from to : ℕ) → from ≤ to → to ≤ length text → row_of text from ≤ row_of text to
row_of-le text from to ordered within =
    let front : List ℕ = take to text in
    let size : length front ≡ to = length-take-le to text within in
    let parted = ap length (row_starts-parted front from (omega arith)) ∙ length-append (row_starts (take from front)) (starts_from from (drop from front)) in
    let first : length (row_starts (take from front)) ≡ row_of text from = ap (λ xs. length (row_starts xs)) (take-take from to text ordered) ∙ row_of-starts text from in
    let all : length (row_starts front) ≡ row_of text to = row_of-starts text to in
    omega arith

-- the row starts of the text behind a place, as distances
pub length-behind : (text : List ℕ) (at row : ℕ) → at ≤ length text → row ≡ row_of text at
    → length (distances (length (drop at text)) (row_starts (drop at text))) ≡ length (row_starts text) - row
length-behind text at row within is =
    ap length (sym (starts_behind text at row within is)) ∙ length-map (drop row (row_starts text)) (λ place. length text - place) ∙ length-drop row (row_starts text)

-- characters behind the gap went, and their row starts with them
pub starts_removed : (text : List ℕ) (from to low high : ℕ) → from ≤ to → to ≤ length text → low ≡ row_of text from → high ≡ row_of text to
    → drop (high - low) (distances (length (drop from text)) (row_starts (drop from text))) ≡ distances (length (drop to text)) (row_starts (drop to text))
starts_removed text from to low high ordered within from_row to_row =
    let grow = row_of-le text from to ordered within in
    let number : low + (high - low) ≡ high = omega arith in
    let place : ℕ → ℕ = λ start. length text - start in
    ap (drop (high - low)) (sym (starts_behind text from low (omega arith) from_row))
    ∙ drop-map place (high - low) (drop low (row_starts text))
    ∙ ap (map place) (drop-drop (high - low) low (row_starts text) ∙ ap (λ n. drop n (row_starts text)) number)
    ∙ starts_behind text to high within to_row
