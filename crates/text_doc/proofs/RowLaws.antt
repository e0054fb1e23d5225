-- Rows and columns name places: the place in the row and column of a place is that place.
use Prim.Native.Nat.{zero, suc}
use Rattle.std.proofs.Common.{◌≡◌, ℕ, ◌+◌, ◌-◌, ◌<◌, ◌≤◌, Bool, true, false, cond, List, length, get_or, refl, sym, ◌∙◌, arith, eqb, inl, inr}
use Rattle.std.proofs.lemmas.Bool.{cases_lt}
use Rattle.std.proofs.lemmas.Bool.Decides.{nat_tests}
use Rattle.std.proofs.lemmas.List.Sums.{sum_by_more}
use Rattle.text_doc.specs.Places.{passing}
use Rattle.text_doc.specs.Rows.{is_row_start, is_row_end, line_start, line_end, row_of, index_of}
use Rattle.text_doc.proofs.Walks.{length-passing_back, length-passing_at}
use Rattle.text_doc.proofs.RowWalks.{line_start_found, line_end_found, row_start_found, IsInRow}

-- the greatest place up to `place` that passes
record Greatest (test : ℕ → Bool) (place : ℕ) : Type 0 where
  at : ℕ
  within : at ≤ place
  passes : test at ≡ true
  none_behind : (k : ℕ) → at < k → k ≤ place → test k ≡ false

greatest_next : (test : ℕ → Bool) (place : ℕ) (here : Bool) → test (suc place) ≡ here → Greatest test place → Greatest test (suc place)
greatest_next test place true is before = record {
  at = suc place;
  within = omega arith;
  passes = is;
  none_behind = λ k lo hi. absurd (omega arith);
}
greatest_next test place false is before =
    let within = before.within in
    record {
      at = before.at;
      within = omega arith;
      passes = before.passes;
      none_behind = λ k lo hi. elim (cases_lt place k) [
        | inl last ↦ (let same : k ≡ suc place = omega arith in rw same is)
        | inr below ↦ before.none_behind k lo below
      ];
    }

greatest : (test : ℕ → Bool) (place : ℕ) → test 0 ≡ true → Greatest test place
greatest test zero first = record {
  at = 0;
  within = omega arith;
  passes = first;
  none_behind = λ k lo hi. absurd (omega arith);
}
greatest test (suc place) first = greatest_next test place (test (suc place)) refl (greatest test place first)

-- the least place from `place` to `end` that passes
record Least (test : ℕ → Bool) (place end : ℕ) : Type 0 where
  at : ℕ
  behind : place ≤ at
  within : at ≤ end
  passes : test at ≡ true
  none_before : (k : ℕ) → place ≤ k → k < at → test k ≡ false

least_next : (test : ℕ → Bool) (place end : ℕ) (here : Bool) → test place ≡ here → place ≤ end → Least test (place + 1) end → Least test place end
least_next test place end true is within behind = record {
  at = place;
  behind = omega arith;
  within = within;
  passes = is;
  none_before = λ k lo hi. absurd (omega arith);
}
least_next test place end false is within behind =
    let from = behind.behind in
    record {
      at = behind.at;
      behind = omega arith;
      within = behind.within;
      passes = behind.passes;
      none_before = λ k lo hi. elim (cases_lt place k) [
        | inl above ↦ behind.none_before k (omega arith) hi
        | inr first ↦ (let same : k ≡ place = omega arith in rw same is)
      ];
    }

least : (test : ℕ → Bool) (left place end : ℕ) → place + left ≡ end → test end ≡ true → Least test place end
least test zero place end reach last =
    let same : place ≡ end = omega arith in
    record {
      at = end;
      behind = omega arith;
      within = omega arith;
      passes = last;
      none_before = λ k lo hi. absurd (omega arith);
    }
least test (suc left) place end reach last =
    least_next test place end (test place) refl (omega arith) (least test left (place + 1) end (omega arith) last)

is_row_start-next : (text : List ℕ) (place : ℕ) → is_row_start text (place + 1) ≡ eqb (get_or text place 0) 10
is_row_start-next text place =
    let back : place + 1 - 1 ≡ place = omega arith in
    let above : eqb (place + 1) 0 ≡ false = grind (arith, nat_tests) in
    rw (above, back) refl

pub row_of-next : (text : List ℕ) (place : ℕ) → place < length text → row_of text (place + 1) ≡ row_of text place + cond (eqb (get_or text place 0) 10) 1 0
unfolding row_of
row_of-next text place within = sum_by_more (λ c. cond (eqb c 10) 1 0) text place 0 within

-- up to a place one row more starts than line feeds stand before it
pub length-row_starts : (text : List ℕ) (place : ℕ) → place ≤ length text → length (passing (is_row_start text) 0 (place + 1)) ≡ row_of text place + 1
unfolding row_of
length-row_starts text zero within = refl
length-row_starts text (suc place) within =
    let next : suc place ≡ place + 1 = omega arith in
    rw (next, length-passing_back (is_row_start text) 0 (place + 1) (omega arith), is_row_start-next text place, length-row_starts text place (omega arith), row_of-next text place (omega arith)) (omega arith)

-- no row ends before a place of a row
none_ends : (text : List ℕ) (place start : ℕ) → place ≤ length text → ((k : ℕ) → start < k → k ≤ place → is_row_start text k ≡ false) → (k : ℕ) → start ≤ k → k < place → is_row_end text k ≡ false
none_ends text place start short none k lo hi =
    let next : eqb (get_or text k 0) 10 ≡ false = sym (is_row_start-next text k) ∙ none (k + 1) (omega arith) (omega arith) in
    let within : k < length text = omega arith in
    grind (arith, nat_tests)

-- the place in the row and column of a place is that place
pub index_of-row_col : (text : List ℕ) (place col : ℕ) → place ≤ length text → line_start text place + col ≡ place → index_of text (row_of text place) col ≡ place
unfolding index_of
index_of-row_col text place col short column =
    let row = greatest (is_row_start text) place refl in
    let starts = row.within in
    let start : row.at ≡ line_start text place = line_start_found text place row.at row.within row.passes row.none_behind in
    let end = least (is_row_end text) (length text - place) place (length text) (omega arith) (grind (arith, nat_tests)) in
    let behind = end.behind in
    let ends : end.at ≡ line_end text row.at = line_end_found text row.at end.at (omega arith) end.within end.passes (λ k lo hi. elim (cases_lt k place) [
      | inl before ↦ none_ends text place row.at short row.none_behind k lo before
      | inr after ↦ end.none_before k after hi
    ]) in
    let count : length (passing (is_row_start text) 0 row.at) ≡ row_of text place = omega (arith, length-row_starts text place short, length-passing_at (is_row_start text) 0 (place + 1) row.at (omega arith) (omega arith) row.passes (λ k lo hi. row.none_behind k lo (omega arith))) in
    let in_row : IsInRow text place row.at (row_of text place) = record { within = row.within; starts = row.passes; rows_before = count; none_behind = row.none_behind } in
    rw (← row_start_found text place row.at (row_of text place) in_row short, ← ends) (omega arith)
