-- A row that differs from a text is found by no search, wherever it stands.
use Prim.Native.Nat.{zero, suc}
use Rattle.std.proofs.Common.{◌≡◌, ℕ, ◌<◌, Bool, true, false, cond, List, [], ◌∷◌, ◌++◌, length, get_or, slice_index, Some, eq-eqb, refl, sym, ap, ◌∙◌, arith, ⊎_elim}
use Rattle.std.specs.Prelude.{◌==◌, ◌&&◌, ◌||◌, not, nat_le, slice_get}
use Rattle.std.specs.Bool.{OnTrue}
use Rattle.std.proofs.lemmas.Bool.{cases_Bool, eqb-true, false≢true, and_parts, and_right}
use Rattle.std.proofs.lemmas.List.{get_or_default}
use Rattle.std.proofs.lemmas.Option.{slice_get_within, get_or_from_slice_get}
use Rattle.key_names.specs.declared.key.Key.{Key}
use Rattle.key_names.specs.KeyName.{is_plain}
use Rattle.vt_input.specs.declared.row.SeqRow.{SeqRow}
use Rattle.vt_input.specs.Sequences.{is_prefix, is_proper_prefix, is_begun, is_known, longer, longest_from, begins_plain, begins_with_control, begin_with_control}
use Rattle.vt_input.specs.Near.{IsUnlike, IsSameSearch}

pub prefix-unlike : (row x : List ℕ) (k : ℕ) → k < length row → k < length x → (slice_index row k ≡ slice_index x k → ⊥) → is_prefix row x ≡ false
prefix-unlike [] x k r l differ = absurd (omega arith)
prefix-unlike (a ∷ row) [] k r l differ = absurd (omega arith)
prefix-unlike (a ∷ row) (c ∷ cs) zero r l differ = ⊎_elim
    (λ (same : a == c ≡ true). absurd (differ (eqb-true a c same)))
    (λ (other : a == c ≡ false). ap (λ (b : Bool). b && is_prefix row cs) other)
    (cases_Bool (a == c))
prefix-unlike (a ∷ row) (c ∷ cs) (suc k) r l differ = and_right (a == c) (is_prefix row cs) (prefix-unlike row cs k (omega arith) (omega arith) differ)

pub proper_prefix-unlike : (row x : List ℕ) (k : ℕ) → k < length row → k < length x → (slice_index row k ≡ slice_index x k → ⊥) → is_proper_prefix x row ≡ false
proper_prefix-unlike [] x k r l differ = absurd (omega arith)
proper_prefix-unlike (a ∷ row) [] k r l differ = absurd (omega arith)
proper_prefix-unlike (a ∷ row) (c ∷ cs) zero r l differ = ⊎_elim
    (λ (same : a == c ≡ true). absurd (differ (eqb-true a c same)))
    (λ (other : a == c ≡ false). ap (λ (b : Bool). b && is_proper_prefix cs row) other)
    (cases_Bool (a == c))
proper_prefix-unlike (a ∷ row) (c ∷ cs) (suc k) r l differ = and_right (a == c) (is_proper_prefix cs row) (proper_prefix-unlike row cs k (omega arith) (omega arith) differ)

pub IsUnlike-at : (row : SeqRow) (x : List ℕ) (k : ℕ) → k < length row.text → k < length x → (slice_index row.text k ≡ slice_index x k → ⊥) → IsUnlike row x
IsUnlike-at row x k r l differ = record { known = prefix-unlike row.text x k r l differ; begun = proper_prefix-unlike row.text x k r l differ }

pub same-all : (rows : List SeqRow) (x : List ℕ) → IsSameSearch rows rows x
same-all rows x = record { begun = refl; known = λ n. refl; longest = λ best. refl }

pub same-then : (rows near nearer : List SeqRow) (x : List ℕ) → IsSameSearch rows near x → IsSameSearch near nearer x → IsSameSearch rows nearer x
same-then rows near nearer x a b = record {
  begun = b.begun ∙ a.begun;
  known = λ n. b.known n ∙ a.known n;
  longest = λ best. b.longest best ∙ a.longest best;
}

longer-unlike : (row : SeqRow) (best : Key × ℕ) (x : List ℕ) → IsUnlike row x → longer row best x ≡ best
longer-unlike row best x h = ap (λ (b : Bool). cond (b && nat_le best.1 (length row.text)) (row.key, length row.text) best) h.known

-- the first row may go
pub same-first : (row : SeqRow) (rows : List SeqRow) (x : List ℕ) → IsUnlike row x → IsSameSearch (row ∷ rows) rows x
same-first row rows x h = record {
  begun = sym (ap (λ (b : Bool). b || is_begun rows x) h.begun);
  known = λ n. sym (ap (λ (b : Bool). (b && length row.text == n) || is_known rows n x) h.known);
  longest = λ best. ap (λ (b : Key × ℕ). longest_from rows b x) (sym (longer-unlike row best x h));
}

begun-last : (rows : List SeqRow) (row : SeqRow) (x : List ℕ) → IsUnlike row x → is_begun rows x ≡ is_begun (rows ++ row ∷ []) x
begun-last [] row x h = sym (ap (λ (b : Bool). b || false) h.begun)
begun-last (r ∷ rows) row x h = ap (λ (b : Bool). is_proper_prefix x r.text || b) (begun-last rows row x h)

known-last : (rows : List SeqRow) (row : SeqRow) (n : ℕ) (x : List ℕ) → IsUnlike row x → is_known rows n x ≡ is_known (rows ++ row ∷ []) n x
known-last [] row n x h = sym (ap (λ (b : Bool). (b && length row.text == n) || false) h.known)
known-last (r ∷ rows) row n x h = ap (λ (b : Bool). (is_prefix r.text x && length r.text == n) || b) (known-last rows row n x h)

longest-last : (rows : List SeqRow) (row : SeqRow) (best : Key × ℕ) (x : List ℕ) → IsUnlike row x → longest_from rows best x ≡ longest_from (rows ++ row ∷ []) best x
longest-last [] row best x h = sym (longer-unlike row best x h)
longest-last (r ∷ rows) row best x h = longest-last rows row (longer r best x) x h

-- and so may the last
pub same-last : (rows : List SeqRow) (row : SeqRow) (x : List ℕ) → IsUnlike row x → IsSameSearch (rows ++ row ∷ []) rows x
same-last rows row x h = record {
  begun = begun-last rows row x h;
  known = λ n. known-last rows row n x h;
  longest = λ best. longest-last rows row best x h;
}

eqb-same : (a b : ℕ) → a ≡ b → (a == b) ≡ true
eqb-same a b e = eq-eqb a b e

unlike_by : (row : SeqRow) (x : List ℕ) (k c d : ℕ) → Some c ≡ slice_get row.text k → d ≡ get_or x k d → k < length x → (b : Bool) → (c == d) ≡ b → OnTrue (not b) (IsUnlike row x)
unlike_by row x k c d held here l true e = tt
unlike_by row x k c d held here l false e =
    let r : k < length row.text = slice_get_within row.text k c (sym held) in
    let row_is : slice_index row.text k ≡ c = get_or_from_slice_get row.text k c 0 (sym held) in
    let text_is : slice_index x k ≡ d = get_or_default x k 0 d l ∙ sym here in
    IsUnlike-at row x k r l (λ same. false≢true (sym e ∙ eqb-same c d (sym row_is ∙ same ∙ text_is)))

-- a row that differs from the text where both have a character
pub unlike-at : (row : SeqRow) (x : List ℕ) (k c d : ℕ) → Some c ≡ slice_get row.text k → d ≡ get_or x k d → k < length x → OnTrue (not (c == d)) (IsUnlike row x)
unlike-at row x k c d held here l = unlike_by row x k c d held here l (c == d) refl

not-plain : (a c : ℕ) → not (is_plain a) ≡ true → is_plain c ≡ true → a ≡ c → ⊥
not-plain a c control plain same = let both = ap (λ t. not (is_plain t)) same in let other = ap not plain in false≢true (sym other ∙ sym both ∙ control)

IsUnlike-plain : (text cs : List ℕ) (c : ℕ) (row : SeqRow) → row.text ≡ text → begins_with_control text ≡ true → is_plain c ≡ true → IsUnlike row (c ∷ cs)
IsUnlike-plain [] cs c row is control plain = absurd cc
IsUnlike-plain (a ∷ text) cs c row is control plain =
    IsUnlike-at row (c ∷ cs) 0 (omega (arith, ap (λ (t : List ℕ). length t) is)) (omega arith)
    (λ same. not-plain a c control plain (sym (ap (λ (t : List ℕ). slice_index t 0) is) ∙ same))

-- where the text begins with a plain character all may go
pub same-none : (rows : List SeqRow) (x : List ℕ) → begin_with_control rows ≡ true → begins_plain x ≡ true → IsSameSearch rows [] x
same-none rows [] control plain = absurd cc
same-none [] (c ∷ cs) control plain = same-all [] (c ∷ cs)
same-none (row ∷ rows) (c ∷ cs) control plain =
    let parts : (begins_with_control row.text ≡ true) × (begin_with_control rows ≡ true) = and_parts (begins_with_control row.text) (begin_with_control rows) control in
    same-then (row ∷ rows) rows [] (c ∷ cs) (same-first row rows (c ∷ cs) (IsUnlike-plain row.text cs c row refl parts.0 plain)) (same-none rows (c ∷ cs) parts.1 plain)
