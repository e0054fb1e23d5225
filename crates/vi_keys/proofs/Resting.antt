-- A cursor that went back from the end of a row is not at the end of a row.
use Prim.Native.Nat.{zero, suc}
use Rattle.std.proofs.Common.{◌≡◌, ◌≢◌, ℕ, ◌+◌, ◌-◌, ◌<◌, ◌≤◌, Bool, true, false, not, ◌&&◌, nat_lt, List, length, is_some, refl, sym, ap, ◌∙◌, arith, eqb, inl, inr}
use Rattle.std.proofs.lemmas.Bool.{cases_lt}
use Rattle.std.proofs.lemmas.Bool.Decides.{nat_tests}
use Rattle.text_doc.specs.Document.{Document}
use Rattle.text_doc.specs.Rows.{is_row_end, line_start, line_end}
use Rattle.text_doc.proofs.RowWalks.{is_row_start-line_feed, is_row_end-other, is_row_end-here, line_start_found, line_end_found}
use Rattle.vi_keys.specs.Running.{stands_out}
use Rattle.vi_keys.proofs.Leaving.{and_false}
use Rattle.vi_keys.proofs.Bones.{go_keeps}

-- the least row end from a place on
record End (text : List ℕ) (place : ℕ) : Type 0 where
  at : ℕ
  behind : place ≤ at
  within : at ≤ length text
  passes : is_row_end text at ≡ true
  none_before : (k : ℕ) → place ≤ k → k < at → is_row_end text k ≡ false

end_next : (text : List ℕ) (place : ℕ) (here : Bool) → is_row_end text place ≡ here → place ≤ length text → End text (place + 1) → End text place
end_next text place true is within next = record {
  at = place;
  behind = omega arith;
  within = within;
  passes = is;
  none_before = λ k lo hi. absurd (omega arith);
}
end_next text place false is within next =
    let from = next.behind in
    record {
      at = next.at;
      behind = omega arith;
      within = next.within;
      passes = next.passes;
      none_before = λ k lo hi. elim (cases_lt place k) [
        | inl above ↦ next.none_before k (omega arith) hi
        | inr first ↦ (let same : k ≡ place = omega arith in rw same is)
      ];
    }

end_of : (text : List ℕ) (left place : ℕ) → place + left ≡ length text → End text place
end_of text zero place reach =
    let same : place ≡ length text = omega arith in
    record {
      at = place;
      behind = omega arith;
      within = omega arith;
      passes = is_row_end-here text place (inr same);
      none_before = λ k lo hi. absurd (omega arith);
    }
end_of text (suc left) place reach =
    end_next text place (is_row_end text place) refl (omega arith) (end_of text left (place + 1) (omega arith))

-- the place before a place that starts no row is no end of a row
no_end : (text : List ℕ) (place : ℕ) → place < length text → line_start text (place + 1) < place + 1 → place ≢ line_end text place
no_end text place within starts same =
    let end = end_of text (length text - place) place (omega arith) in
    let found : end.at ≡ line_end text place = line_end_found text place end.at end.behind end.within end.passes end.none_before in
    let here : end.at ≡ place = found ∙ sym same in
    let other : is_row_end text place ≡ false = is_row_end-other text place within (λ feed.
    let start : place + 1 ≡ line_start text (place + 1) = line_start_found text (place + 1) (place + 1) (omega arith) (is_row_start-line_feed text place feed) (λ k lo hi. absurd (omega arith)) in
    absurd (omega (arith, start, starts))) in
    let passes : is_row_end text place ≡ true = ap (λ i. is_row_end text i) (sym here) ∙ end.passes in
    let both : true ≡ false = sym passes ∙ other in
    absurd (grind arith)

pub rests_back : (d : Document) → d.cursor ≤ length d.text → line_start d.text d.cursor < d.cursor → stands_out (record d { cursor = d.cursor - 1 }) ≡ false
rests_back d within starts =
    let back : d.cursor - 1 + 1 ≡ d.cursor = omega arith in
    let from : line_start d.text (d.cursor - 1 + 1) < d.cursor - 1 + 1 = rw back starts in
    let differs : d.cursor - 1 ≢ line_end d.text (d.cursor - 1) = no_end d.text (d.cursor - 1) (omega arith) from in
    let no : eqb (d.cursor - 1) (line_end d.text (d.cursor - 1)) ≡ false = grind (arith, nat_tests) in
    ap (λ (e : Bool). not (is_some d.mark) && (e && nat_lt (line_start d.text (d.cursor - 1)) (d.cursor - 1))) no ∙ and_false (not (is_some d.mark))

-- what is known of where a cursor rests
pub ruleset rests = (rests_back, go_keeps)
