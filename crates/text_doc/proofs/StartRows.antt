-- What the list of row starts tells of the rows.
use Rattle.std.proofs.Common.{◌≡◌, ℕ, ◌+◌, ◌-◌, ◌<◌, ◌≤◌, Bool, true, false, cond, min, List, length, get_or, refl, sym, ap, ◌∙◌, arith, eqb, inl, inr, take_all}
use Rattle.std.proofs.lemmas.Bool.{cases_lt, cases_Bool}
use Rattle.std.proofs.lemmas.Bool.Decides.{nat_tests}
use Rattle.text_doc.specs.Places.{passing}
use Rattle.text_doc.specs.Rows.{is_row_start, line_start, line_end, row_of, row_start}
use Rattle.text_doc.specs.RowStarts.{row_starts}
use Rattle.text_doc.proofs.Walks.{length-passing_back, length-passing_le}
use Rattle.text_doc.proofs.RowWalks.{is_row_start-line_feed, is_row_end-here, is_row_end-other, line_start_found, line_end_found, row_start_found, row_start_last, IsInRow, IsInRow-front}
use Rattle.text_doc.proofs.RowLaws.{length-row_starts, row_of-next}
use Rattle.text_doc.proofs.StartLists.{IsStart-nth, IsSided-nth, is_reached, is_not_reached, row_of-starts, row_of-within}
use Rattle.text_doc.proofs.StartEdits.{row_of-le}

at_most_one : (b : Bool) → cond b 1 0 ≤ 1
at_most_one true = omega arith
at_most_one false = omega arith

-- the row of a row start
row_of-start : (text : List ℕ) (k : ℕ) → k < length (row_starts text) → row_of text (get_or (row_starts text) k 0) ≡ k + 1
row_of-start text k below =
    let start = get_or (row_starts text) k 0 in
    let is = IsStart-nth 0 text k below in
    let above = is.above in
    let top = is.within in
    let place : start - 1 + 1 ≡ start = omega arith in
    let more : k < row_of text start = is_reached text start k (omega arith) below (omega arith) in
    let less : row_of text (start - 1) ≤ k = is_not_reached text (start - 1) k (omega arith) below (omega arith) in
    let next : row_of text start ≡ row_of text (start - 1) + cond (eqb (get_or text (start - 1) 0) 10) 1 0 = ap (row_of text) (sym place) ∙ row_of-next text (start - 1) (omega arith) in
    let one = at_most_one (eqb (get_or text (start - 1) 0) 10) in
    omega arith

is_row_start-nth : (text : List ℕ) (k : ℕ) → k < length (row_starts text) → is_row_start text (get_or (row_starts text) k 0) ≡ true
is_row_start-nth text k below =
    let start = get_or (row_starts text) k 0 in
    let is = IsStart-nth 0 text k below in
    let above = is.above in
    let place : start - 1 + 1 ≡ start = omega arith in
    let feed : get_or text (start - 1) 0 ≡ 10 = ap (λ n. get_or text n 0) (omega arith) ∙ is.feed in
    ap (is_row_start text) (sym place) ∙ is_row_start-line_feed text (start - 1) feed

one_more : (b : Bool) (n m : ℕ) → n ≡ m + cond b 1 0 → b ≡ true → n ≡ m + 1
one_more b n m more is = more ∙ ap (λ h. m + cond h 1 0) is

-- a row start in the row of a place is where that row starts
in_row : (text : List ℕ) (at start : ℕ) → start ≤ at → at ≤ length text → is_row_start text start ≡ true → row_of text start ≡ row_of text at → IsInRow text at start (row_of text at)
in_row text at start ordered within starts same =
    let p : ℕ → Bool = is_row_start text in
    let to_start : length (passing p 0 (start + 1)) ≡ row_of text start + 1 = length-row_starts text start (omega arith) in
    let with_start = one_more (p start) (length (passing p 0 (start + 1))) (length (passing p 0 start)) (length-passing_back p 0 start (omega arith)) starts in
    let to_place : length (passing p 0 (at + 1)) ≡ row_of text at + 1 = length-row_starts text at within in
    record {
      within = ordered;
      starts = starts;
      rows_before = omega arith;
      none_behind = λ k lo hi. elim (cases_Bool (p k)) [
        | inl starts_here ↦ (let before = length-passing_le p 0 (start + 1) k (omega arith) in
            let with_this = one_more (p k) (length (passing p 0 (k + 1))) (length (passing p 0 k)) (length-passing_back p 0 k (omega arith)) starts_here in
            let all = length-passing_le p 0 (k + 1) (at + 1) (omega arith) in
            absurd (omega arith))
        | inr other ↦ other
      ];
    }

-- the row of a place has a start
record HasRow (text : List ℕ) (place : ℕ) : Type 0 where
  start : ℕ
  is : IsInRow text place start (row_of text place)

HasRow-place : (text : List ℕ) (place : ℕ) → place ≤ length text → HasRow text place
HasRow-place text place within = elim (cases_lt 0 (row_of text place)) [
  | inl later ↦ (let k = row_of text place - 1 in
      let below : k < length (row_starts text) = omega (arith, row_of-within text place within) in
      let side = IsSided-nth text place k within below in
      let ordered = side.before (omega arith) in
      record { start = get_or (row_starts text) k 0; is = in_row text place (get_or (row_starts text) k 0) ordered within (is_row_start-nth text k below) (row_of-start text k below ∙ omega arith) })
  | inr first ↦ (let zero_row : row_of text 0 ≤ row_of text place = row_of-le text 0 place (omega arith) within in
      record { start = 0; is = in_row text place 0 (omega arith) within refl (omega arith) })
]

-- the row of a place starts where the place's line does
pub record IsRowOf (text : List ℕ) (place : ℕ) : Type 0 where
  pub line : row_start text (row_of text place) ≡ line_start text place
  pub within : line_start text place ≤ place

pub IsRowOf-place : (text : List ℕ) (place : ℕ) → place ≤ length text → IsRowOf text place
IsRowOf-place text place within =
    let row = HasRow-place text place within in
    let is = row.is in
    let line : row.start ≡ line_start text place = line_start_found text place row.start is.within is.starts is.none_behind in
    let ordered = is.within in
    record { line = sym (row_start_found text place row.start (row_of text place) is within) ∙ line; within = omega arith }

row_of-all : (text : List ℕ) → row_of text (length text) ≡ length (row_starts text)
row_of-all text = sym (row_of-starts text (length text)) ∙ ap (λ xs. length (row_starts xs)) (take_all (length text) text (omega arith))

-- where a row starts, of the last where there is none with its number
pub row_start_at : (text : List ℕ) (row number : ℕ) → number ≡ min row (length (row_starts text)) → 0 < number → get_or (row_starts text) (number - 1) 0 ≡ row_start text row
row_start_at text row number is some =
    let start = get_or (row_starts text) (number - 1) 0 in
    let below : number - 1 < length (row_starts text) = omega arith in
    let bound = IsStart-nth 0 text (number - 1) below in
    let top = bound.within in
    let starts = is_row_start-nth text (number - 1) below in
    let same : row_of text start ≡ number = row_of-start text (number - 1) below ∙ omega arith in
    elim (cases_lt (length (row_starts text)) row) [
      | inl past ↦ (let last : row_of text (length text) ≡ number = row_of-all text ∙ omega arith in
          row_start_last text start number row (rw last at (in_row text (length text) start (omega arith) (omega arith) starts (same ∙ sym last))) (omega arith))
      | inr within ↦ (let row_is : row_of text start ≡ row = same ∙ omega arith in
          row_start_found text start start row (rw row_is at (in_row text start start (omega arith) (omega arith) starts refl)) (omega arith))
    ]

pub row_start_first : (text : List ℕ) (row number : ℕ) → number ≡ min row (length (row_starts text)) → number ≡ 0 → 0 ≡ row_start text row
row_start_first text row number is none = elim (cases_lt 0 row) [
  | inl later ↦ (let one_row : row_of text (length text) ≡ 0 = row_of-all text ∙ omega arith in
      let front : row_of text 0 ≤ row_of text (length text) = row_of-le text 0 (length text) (omega arith) (omega arith) in
      row_start_last text 0 0 row (rw one_row at (in_row text (length text) 0 (omega arith) (omega arith) refl (omega arith))) later)
  | inr here ↦ (let same : row ≡ 0 = omega arith in rw same (row_start_found text 0 0 0 (IsInRow-front text) (omega arith)))
]

row_of-feed : (text : List ℕ) (k : ℕ) → k < length text → get_or text k 0 ≡ 10 → row_of text (k + 1) ≡ row_of text k + 1
row_of-feed text k within here =
    let is : eqb (get_or text k 0) 10 ≡ true = grind (arith, nat_tests) in
    row_of-next text k within ∙ ap (λ b. row_of text k + cond b 1 0) is

-- where the row of a place ends: before the next one, or at the end of the text
pub record IsEndOf (text : List ℕ) (place end : ℕ) : Type 0 where
  pub is : end ≡ line_end text place
  pub behind : place ≤ end

pub IsEndOf-next : (text : List ℕ) (place row : ℕ) → place ≤ length text → row ≡ row_of text place → row < length (row_starts text) → IsEndOf text place (get_or (row_starts text) row 0 - 1)
IsEndOf-next text place row within row_is below =
    let start = get_or (row_starts text) row 0 in
    let is = IsStart-nth 0 text row below in
    let above = is.above in
    let top = is.within in
    let feed : get_or text (start - 1) 0 ≡ 10 = ap (λ n. get_or text n 0) (omega arith) ∙ is.feed in
    let side = IsSided-nth text place row within below in
    let behind : place < start = side.behind (omega arith) in
    record {
      is = line_end_found text place (start - 1) (omega arith) (omega arith) (is_row_end-here text (start - 1) (inl feed))
          (λ k lo hi. is_row_end-other text k (omega arith) (λ here.
          let more = row_of-feed text k (omega arith) here in
          let from = row_of-le text place k lo (omega arith) in
          let less = is_not_reached text (k + 1) row (omega arith) below (omega arith) in
          absurd (omega arith)));
      behind = omega arith;
    }

pub IsEndOf-last : (text : List ℕ) (place : ℕ) → place ≤ length text → length (row_starts text) ≤ row_of text place → length text ≡ line_end text place
IsEndOf-last text place within last =
    line_end_found text place (length text) within (omega arith) (is_row_end-here text (length text) (inr refl))
    (λ k lo hi. is_row_end-other text k hi (λ here.
    let more = row_of-feed text k hi here in
    let from = row_of-le text place k lo (omega arith) in
    let less = row_of-within text (k + 1) (omega arith) in
    absurd (omega arith)))
