-- Two characters are counted in either order.
use Rattle.std.proofs.Common.{◌≡◌, ℕ, ◌+◌, ◌-◌, ◌<◌, ◌≤◌, Bool, true, false, List, ◌∷◌, ◌++◌, length, take, drop, Option, Some, None, refl, sym, ap, ◌∙◌, arith, drop-cons, append_assoc, cond, inl, inr}
use Prim.Native.Nat.{suc}
use Rattle.std.specs.Prelude.{if◌then◌else◌, ◌==◌, nat_lt, slice_index}
use Rattle.std.specs.List.{sum_by}
use Rattle.std.proofs.lemmas.Bool.{cases_lt}
use Rattle.std.proofs.lemmas.Bool.Decides.{nat_tests}
use Rattle.std.proofs.lemmas.List.{take-append-drop}
use Rattle.std.proofs.lemmas.List.Sums.{sum_by-append, sum_by-cons}
use Rattle.text_doc.specs.Document.{Document, IsDocument}
use Rattle.text_doc.specs.Rows.{line_end}
use Rattle.text_doc.proofs.RowWalks.{line_end_found, is_row_end-here}
use Rattle.edit_state.specs.declared.states.EditState.{EditState}
use Rattle.edit_cmds.specs.Rewriting.{pair_place, turned_pair, transposed_at}
use Rattle.edit_cmds.specs.Laws.{occurrences}
use Rattle.edit_cmds.proofs.laws.transposing_keeps_characters.Goals as goal

either_order : (f : ℕ → ℕ) (front : List ℕ) (a b : ℕ) (back : List ℕ) → sum_by f (front ++ b ∷ a ∷ back) ≡ sum_by f (front ++ a ∷ b ∷ back)
either_order f front a b back =
    omega (arith, sum_by-append f front (b ∷ a ∷ back), sum_by-append f front (a ∷ b ∷ back), sum_by-cons f b (a ∷ back), sum_by-cons f a back, sum_by-cons f a (b ∷ back), sum_by-cons f b back)

-- a text, and two of its characters
parted : (t : List ℕ) (at : ℕ) → at + 2 ≤ length t → take at t ++ slice_index t at ∷ slice_index t (at + 1) ∷ drop (at + 2) t ≡ t
parted t at within =
    let e : suc (at + 1) ≡ at + 2 = omega arith in
    let one : suc at ≡ at + 1 = omega arith in
    let second : drop (at + 1) t ≡ slice_index t (at + 1) ∷ drop (at + 2) t = drop-cons t (at + 1) 0 (omega arith) ∙ ap (λ n. slice_index t (at + 1) ∷ drop n t) e in
    let first : drop at t ≡ slice_index t at ∷ drop (at + 1) t = drop-cons t at 0 (omega arith) ∙ ap (λ n. slice_index t at ∷ drop n t) one in
    ap (λ xs. take at t ++ slice_index t at ∷ xs) (sym second) ∙ (ap (λ xs. take at t ++ xs) (sym first) ∙ take-append-drop at t)

at_end : (text : List ℕ) → line_end text (length text) ≡ length text
at_end text = sym (line_end_found text (length text) (length text) (omega arith) (omega arith) (is_row_end-here text (length text) (inr refl)) (λ k lo hi. absurd (omega arith)))

some_unless : (b : Bool) (place at : ℕ) → (if b then None else Some place) ≡ Some at → (b ≡ false) × (place ≡ at)
some_unless true place at e = cc
some_unless false place at e = (refl, cc)

-- at the end of the text a row ends
ends_at_end : (text : List ℕ) (place : ℕ) → place ≡ length text → (line_end text place == place) ≡ true
ends_at_end text place e = let f : line_end text place ≡ place = rw e (at_end text) in grind (arith, nat_tests)

-- where two characters stand
place_by : (d : Document) (first ends : Bool) (at : ℕ) → (d.cursor == 0) ≡ first → (line_end d.text d.cursor == d.cursor) ≡ ends → IsDocument d
    → (if first then None else (if ends then (if nat_lt d.cursor 2 then None else Some (d.cursor - 2)) else Some (d.cursor - 1))) ≡ Some at → at + 2 ≤ length d.text
place_by d true ends at here end is e = cc
place_by d false true at here end is e =
    let f = some_unless (nat_lt d.cursor 2) (d.cursor - 2) at e in
    let several : nat_lt d.cursor 2 ≡ false = f.0 in
    let place : d.cursor - 2 ≡ at = f.1 in
    let within : d.cursor ≤ length d.text = is.cursor_within in
    grind (arith, nat_tests)
place_by d false false at here end is e =
    let place : d.cursor - 1 ≡ at = cc in
    let within : d.cursor ≤ length d.text = is.cursor_within in
    elim (cases_lt d.cursor (length d.text)) [
      | inl below ↦ (let some : 0 < d.cursor = grind (arith, nat_tests) in omega arith)
      | inr above ↦ (let f = ends_at_end d.text d.cursor (omega arith) in cc)
    ]

counted_at : (place : Option ℕ) (s : EditState) (c : ℕ) → ((at : ℕ) → place ≡ Some at → at + 2 ≤ length s.buffer.doc.text) → occurrences c (transposed_at place s) ≡ occurrences c s
counted_at None s c within = refl
counted_at (Some at) s c within =
    let t = s.buffer.doc.text in
    let f : ℕ → ℕ = λ other. cond (other == c) 1 0 in
    ap (λ (xs : List ℕ). sum_by f xs) (append_assoc (take at t) (turned_pair t at) (drop (at + 2) t))
    ∙ (either_order f (take at t) (slice_index t at) (slice_index t (at + 1)) (drop (at + 2) t) ∙ ap (λ (xs : List ℕ). sum_by f xs) (parted t at (within at refl)))

pub returns : goal.returns
returns c = λ s letter is. counted_at (pair_place s.buffer.doc) s letter (λ at e. place_by s.buffer.doc (s.buffer.doc.cursor == 0) (line_end s.buffer.doc.text s.buffer.doc.cursor == s.buffer.doc.cursor) at refl refl is.document e)
