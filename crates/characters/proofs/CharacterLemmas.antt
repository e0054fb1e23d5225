-- What is decoded stays decoded, whatever bytes follow.
use Prim.Native.Nat.{zero, suc}
use Rattle.std.proofs.Common.{◌≡◌, ◌≢◌, ℕ, ◌+◌, ◌-◌, ◌<◌, ◌≤◌, true, false, List, [], ◌∷◌, ◌++◌, append_assoc, length, length-append, length-drop, drop, drop-drop, slice_index, Some, None, refl, sym, ap, subst, ◌∙◌, arith, ⊎_elim}
use Rattle.std.proofs.lemmas.Bool.{cases_Bool, cases_eq, cond-true, cond-false, false≢true}
use Rattle.std.proofs.lemmas.Bool.Decides.{nat_tests}
use Rattle.std.proofs.lemmas.List.{get_or_append_left}
use Rattle.bstr.specs.Utf8.{Decoded, bad, good, decoded, decoded_by, continues, second, code_of_2, code_of_3, code_of_4, lead_len, or_replacement}
use Rattle.bstr.proofs.lemmas.PieceLemmas.{by-shape, value-1, value-2, value-3, value-5, value-6, value-8, value-9, value-11, value-12, piece-bounds}
use Rattle.characters.specs.Cut.{Cut, waiting, put_first}
use Rattle.characters.specs.Characters.{is_unfinished_by, is_unfinished, first_char, characters}
use Rattle.characters.proofs.CutLemmas.{IsStable, cut-step, cut-waits}

needs_more : (k n b : ℕ) → k ≡ n → n < lead_len b → is_unfinished_by (bad k) n b ≡ true
needs_more k n b all few = grind (arith, nat_tests)

lead-two : (b : ℕ) → 0xC2 ≤ b → b ≤ 0xF4 → 1 < lead_len b
lead-two b low high = grind (arith, nat_tests)

lead-three : (b : ℕ) → 0xE0 ≤ b → b ≤ 0xF4 → 2 < lead_len b
lead-three b low high = grind (arith, nat_tests)

lead-four : (b : ℕ) → 0xF0 ≤ b → b ≤ 0xF4 → 3 < lead_len b
lead-four b low high = grind (arith, nat_tests)

-- a piece that needs no more bytes stays when more come
decoded_by-more : (n m b c d e c' d' e' : ℕ) → 0 < n → n ≤ m → (1 < n → c' ≡ c) → (2 < n → d' ≡ d) → (3 < n → e' ≡ e)
    → is_unfinished_by (decoded_by n b c d e) n b ≡ false → decoded_by m b c' d' e' ≡ decoded_by n b c d e
decoded_by-more n m b c d e c' d' e' some le second_c third_d fourth_e whole =
    let open_not = λ (k : ℕ) (is : decoded_by n b c d e ≡ bad k) (all : k ≡ n) (few : n < lead_len b).
    false≢true (sym whole ∙ ap (λ p. is_unfinished_by p n b) is ∙ needs_more k n b all few) in
    by-shape n b c d e
    (λ h. absurd (omega arith))
    (λ h. value-1 m b c' d' e' (omega arith, h.1) ∙ sym h.2)
    (λ h. value-2 m b c' d' e' (omega arith, h.1, h.2) ∙ sym h.3)
    (λ h. value-3 m b c' d' e' (omega arith, h.1) ∙ sym h.2)
    (λ h. let lead = lead-two b h.1 h.2 in absurd (open_not 1 h.4 (omega arith) (omega arith)))
    (λ h. let c_is = second_c (omega arith) in
    value-5 m b c' d' e' (omega arith, h.1, h.2, ap (second b) c_is ∙ h.3) ∙ sym h.4)
    (λ h. let c_is = second_c (omega arith) in
    value-6 m b c' d' e' (omega arith, h.1, h.2, ap (second b) c_is ∙ h.3) ∙ ap (λ x. good (code_of_2 b x) 2) c_is ∙ sym h.4)
    (λ h. let lead = lead-three b h.1 h.2 in absurd (open_not 2 h.5 (omega arith) (omega arith)))
    (λ h. let c_is = second_c (omega arith) in
    let d_is = third_d (omega arith) in
    value-8 m b c' d' e' (omega arith, h.1, h.2, ap (second b) c_is ∙ h.3, ap continues d_is ∙ h.4) ∙ sym h.5)
    (λ h. let c_is = second_c (omega arith) in
    let d_is = third_d (omega arith) in
    value-9 m b c' d' e' (omega arith, h.1, h.2, ap (second b) c_is ∙ h.3, ap continues d_is ∙ h.4)
    ∙ ap (λ x. good (code_of_3 b x d') 3) c_is ∙ ap (λ x. good (code_of_3 b c x) 3) d_is ∙ sym h.5)
    (λ h. let lead = lead-four b h.1 h.2 in absurd (open_not 3 h.6 (omega arith) (omega arith)))
    (λ h. let c_is = second_c (omega arith) in
    let d_is = third_d (omega arith) in
    let e_is = fourth_e (omega arith) in
    value-11 m b c' d' e' (omega arith, h.1, h.2, ap (second b) c_is ∙ h.3, ap continues d_is ∙ h.4, ap continues e_is ∙ h.5) ∙ sym h.6)
    (λ h. let c_is = second_c (omega arith) in
    let d_is = third_d (omega arith) in
    let e_is = fourth_e (omega arith) in
    value-12 m b c' d' e' (omega arith, h.1, h.2, ap (second b) c_is ∙ h.3, ap continues d_is ∙ h.4, ap continues e_is ∙ h.5)
    ∙ ap (λ x. good (code_of_4 b x d' e') 4) c_is ∙ ap (λ x. good (code_of_4 b c x e') 4) d_is ∙ ap (λ x. good (code_of_4 b c d x) 4) e_is ∙ sym h.6)

is_unfinished_by-more : (p : Decoded) (n m b : ℕ) → p.size ≤ n → n ≤ m → is_unfinished_by p n b ≡ false → is_unfinished_by p m b ≡ false
is_unfinished_by-more p n m b fits le whole = ⊎_elim
    (λ (same : m ≡ n). subst (λ k. is_unfinished_by p k b ≡ false) (sym same) whole)
    (λ (other : m ≢ n). grind (arith, nat_tests))
    (cases_eq m n)

pub decoded-more : (b : ℕ) (bs more : List ℕ) → is_unfinished (b ∷ bs) ≡ false → decoded (b ∷ bs ++ more) ≡ decoded (b ∷ bs)
decoded-more b bs more whole =
    let at = λ (k : ℕ) (l : k < length (b ∷ bs)). get_or_append_left (b ∷ bs) more 0 k l in
    decoded_by-more (length (b ∷ bs)) (length (b ∷ bs ++ more)) b (slice_index (b ∷ bs) 1) (slice_index (b ∷ bs) 2) (slice_index (b ∷ bs) 3)
    (slice_index (b ∷ bs ++ more) 1) (slice_index (b ∷ bs ++ more) 2) (slice_index (b ∷ bs ++ more) 3)
    (omega arith) (omega (arith, length-append (b ∷ bs) more)) (at 1) (at 2) (at 3) whole

is_unfinished-more : (b : ℕ) (bs more : List ℕ) → is_unfinished (b ∷ bs) ≡ false → is_unfinished (b ∷ bs ++ more) ≡ false
is_unfinished-more b bs more whole =
    let bounds = piece-bounds (b ∷ bs) (omega arith) in
    ap (λ p. is_unfinished_by p (length (b ∷ bs ++ more)) b) (decoded-more b bs more whole)
    ∙ is_unfinished_by-more (decoded (b ∷ bs)) (length (b ∷ bs)) (length (b ∷ bs ++ more)) b bounds.2 (omega (arith, length-append (b ∷ bs) more)) whole

none_some : (p : ℕ × ℕ) → None ≡ Some p → ⊥
none_some p e = cc

-- what is decided is no unfinished character
decided : (x : List ℕ) (k n : ℕ) → first_char x ≡ Some (k, n) → (is_unfinished x ≡ false) × (or_replacement (decoded x).char ≡ k) × ((decoded x).size - 1 ≡ n)
decided x k n e = ⊎_elim
    (λ (open_is : is_unfinished x ≡ true). absurd (none_some (k, n) (sym (cond-true (is_unfinished x) None (Some (or_replacement (decoded x).char, (decoded x).size - 1)) open_is) ∙ e)))
    (λ (whole : is_unfinished x ≡ false).
    let P : Type 0 = ℕ × ℕ in
    let pair : P = (or_replacement (decoded x).char, (decoded x).size - 1) in
    let got : P = (k, n) in
    let h : Some pair ≡ Some got = sym (cond-false (is_unfinished x) None (Some pair) whole) ∙ e in
    let same : pair ≡ got = cc in
    (whole, ap (λ (t : P). t.0) same, ap (λ (t : P). t.1) same))
    (cases_Bool (is_unfinished x))

pub first_char-stable : IsStable first_char
first_char-stable = record {
  within = λ b bs k n e.
      let h = decided (b ∷ bs) k n e in
      let size : (decoded (b ∷ bs)).size - 1 ≡ n = h.2 in
      let bounds = piece-bounds (b ∷ bs) (omega arith) in
      omega arith;
  stays = λ b bs more k n e.
      let h = decided (b ∷ bs) k n e in
      cond-false (is_unfinished (b ∷ bs ++ more)) None (Some (or_replacement (decoded (b ∷ bs ++ more)).char, (decoded (b ∷ bs ++ more)).size - 1)) (is_unfinished-more b bs more h.0)
      ∙ ap (λ (p : Decoded). Some (or_replacement p.char, p.size - 1)) (decoded-more b bs more h.0) ∙ ap (λ (c : ℕ). Some (c, (decoded (b ∷ bs)).size - 1)) h.1 ∙ ap (λ (m : ℕ). Some (k, m)) h.2;
}

pred : (n : ℕ) → suc n - 1 ≡ n
pred n = omega arith

drop-cons_at : (n b : ℕ) (bs : List ℕ) → 1 ≤ n → drop (n - 1) bs ≡ drop n (b ∷ bs)
drop-cons_at zero b bs some = absurd (omega arith)
drop-cons_at (suc n) b bs some = ap (λ k. drop k bs) (pred n)

-- one character off the front
pub characters-step : (x : List ℕ) → 0 < length x → is_unfinished x ≡ false
    → characters x ≡ put_first (or_replacement (decoded x).char) (characters (drop (decoded x).size x))
characters-step [] some whole = absurd (omega arith)
characters-step (b ∷ bs) some whole =
    let p = decoded (b ∷ bs) in
    let bounds = piece-bounds (b ∷ bs) some in
    let taken : drop (p.size - 1) bs ≡ drop p.size (b ∷ bs) = drop-cons_at p.size b bs bounds.0 in
    cut-step first_char b bs (or_replacement p.char) (p.size - 1) (cond-false (is_unfinished (b ∷ bs)) None (Some (or_replacement p.char, p.size - 1)) whole)
    ∙ ap (λ t. put_first (or_replacement p.char) (characters t)) taken

pub characters-waits : (x : List ℕ) → is_unfinished x ≡ true → characters x ≡ waiting x
characters-waits [] open_is = refl
characters-waits (b ∷ bs) open_is =
    cut-waits first_char b bs (cond-true (is_unfinished (b ∷ bs)) None (Some (or_replacement (decoded (b ∷ bs)).char, (decoded (b ∷ bs)).size - 1)) open_is)

-- what reading one character changes
pub record ReadsOne (bytes text after : List ℕ) (at size : ℕ) : Type 0 where
  pub some : 1 ≤ size
  pub within : at + size ≤ length bytes
  pub read : after ++ (characters (drop (at + size) bytes)).items ≡ text ++ (characters (drop at bytes)).items
  pub rest : (characters (drop (at + size) bytes)).rest ≡ (characters (drop at bytes)).rest

whole-some : (x : List ℕ) → is_unfinished x ≡ false → 0 < length x
whole-some [] e = absurd (cc)
whole-some (b ∷ bs) e = omega arith

pub ReadsOne-from : (bytes text after x : List ℕ) (at c size : ℕ) → x ≡ drop at bytes → is_unfinished x ≡ false → c ≡ or_replacement (decoded x).char → size ≡ (decoded x).size
    → at ≤ length bytes → after ≡ text ++ c ∷ [] → ReadsOne bytes text after at size
ReadsOne-from bytes text after x at c size here whole char_is size_is le pushed =
    let some = whole-some x whole in
    let bounds = piece-bounds x some in
    let long : length x ≡ length bytes - at = ap (λ (t : List ℕ). length t) here ∙ length-drop at bytes in
    let next : drop size x ≡ drop (at + size) bytes = ap (λ (t : List ℕ). drop size t) here ∙ drop-drop size at bytes in
    let step : characters (drop at bytes) ≡ put_first c (characters (drop (at + size) bytes)) =
    ap (λ (t : List ℕ). characters t) (sym here) ∙ characters-step x some whole
    ∙ ap (λ (k : ℕ). put_first k (characters (drop (decoded x).size x))) (sym char_is)
    ∙ ap (λ (k : ℕ). put_first c (characters (drop k x))) (sym size_is) ∙ ap (λ (t : List ℕ). put_first c (characters t)) next in
    record {
      some = omega arith;
      within = omega arith;
      read = ap (λ (t : List ℕ). t ++ (characters (drop (at + size) bytes)).items) pushed ∙ append_assoc text (c ∷ []) (characters (drop (at + size) bytes)).items
          ∙ ap (λ (t : Cut ℕ). text ++ t.items) (sym step);
      rest = ap (λ (t : Cut ℕ). t.rest) (sym step);
    }
