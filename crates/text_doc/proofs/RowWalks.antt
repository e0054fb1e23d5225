-- What a walk along the rows has met.
use Rattle.std.proofs.Common.{◌≡◌, ℕ, ◌+◌, ◌-◌, ◌<◌, ◌≤◌, true, false, List, length, get_or, None, unwrap_or, refl, ap, ◌∙◌, arith, ◌⊎◌}
use Rattle.std.specs.List.{slice_get}
use Rattle.std.proofs.lemmas.Bool.Decides.{nat_tests}
use Rattle.std.proofs.lemmas.Option.{slice_get_past}
use Rattle.text_doc.specs.Places.{passing}
use Rattle.text_doc.specs.Rows.{is_row_start, is_row_end, line_start, line_end, row_start}
use Rattle.text_doc.proofs.Walks.{length-passing_at, nth_found, first_found, last_found}

-- behind a line feed a row starts
pub is_row_start-line_feed : (text : List ℕ) (i : ℕ) → get_or text i 0 ≡ 10 → is_row_start text (i + 1) ≡ true
is_row_start-line_feed text i here =
    let back : i + 1 - 1 ≡ i = omega arith in
    rw back (grind (arith, nat_tests))

-- at another character no row ends
pub is_row_end-other : (text : List ℕ) (i : ℕ) → i < length text → (get_or text i 0 ≡ 10 → ⊥) → is_row_end text i ≡ false
is_row_end-other text i within other = grind (arith, nat_tests)

-- a row ends at a line feed, and at the end of the text
pub is_row_end-here : (text : List ℕ) (i : ℕ) → (get_or text i 0 ≡ 10) ⊎ (i ≡ length text) → is_row_end text i ≡ true
is_row_end-here text i here = grind (arith, nat_tests)

-- the row's start, met from the place back
pub line_start_found : (text : List ℕ) (place i : ℕ) → i ≤ place → is_row_start text i ≡ true → ((k : ℕ) → i < k → k ≤ place → is_row_start text k ≡ false) → i ≡ line_start text place
unfolding line_start
line_start_found text place i within here none =
    ap (λ o. unwrap_or o 0) (last_found (is_row_start text) 0 (place + 1) i (omega arith) (omega arith) here (λ k lo hi. none k lo (omega arith)))

-- the row's end, met from the place on
pub line_end_found : (text : List ℕ) (place i : ℕ) → place ≤ i → i ≤ length text → is_row_end text i ≡ true → ((k : ℕ) → place ≤ k → k < i → is_row_end text k ≡ false) → i ≡ line_end text place
unfolding line_end
line_end_found text place i lo hi here none =
    ap (λ o. unwrap_or o (length text)) (first_found (is_row_end text) place (length text + 1) i lo (omega arith) here none)

-- a walk from the text's start has come to `at`, in row `number`, which starts at `start`
pub record IsInRow (text : List ℕ) (at start number : ℕ) : Type 0 where
  pub within : start ≤ at
  pub starts : is_row_start text start ≡ true
  pub rows_before : length (passing (is_row_start text) 0 start) ≡ number
  pub none_behind : (k : ℕ) → start < k → k ≤ at → is_row_start text k ≡ false

pub IsInRow-front : (text : List ℕ) → IsInRow text 0 0 0
IsInRow-front text = record {
  within = omega arith;
  starts = refl;
  rows_before = refl;
  none_behind = λ k lo hi. absurd (omega arith);
}

-- with the present row the walk has met one row more than lie before it
length-rows : (text : List ℕ) (at start number : ℕ) → IsInRow text at start number → length (passing (is_row_start text) 0 (at + 1)) ≡ number + 1
length-rows text at start number h =
    let within = h.within in
    length-passing_at (is_row_start text) 0 (at + 1) start (omega arith) (omega arith) h.starts (λ k lo hi. h.none_behind k lo (omega arith))
    ∙ ap (λ n. n + 1) h.rows_before

-- the row that the walk has come to
pub row_start_found : (text : List ℕ) (at start row : ℕ) → IsInRow text at start row → at ≤ length text → start ≡ row_start text row
unfolding row_start
row_start_found text at start row h short =
    let within = h.within in
    ap (λ o. unwrap_or o (line_start text (length text))) (nth_found (is_row_start text) 0 (length text + 1) start row (omega arith) (omega arith) h.starts h.rows_before)

-- the last row, where no row has the number
pub row_start_last : (text : List ℕ) (start number row : ℕ) → IsInRow text (length text) start number → number < row → start ≡ row_start text row
unfolding row_start
row_start_last text start number row h less =
    let past : slice_get (passing (is_row_start text) 0 (length text + 1)) row ≡ None = slice_get_past (passing (is_row_start text) 0 (length text + 1)) row (omega (arith, length-rows text (length text) start number h)) in
    rw past (line_start_found text (length text) start h.within h.starts h.none_behind)
