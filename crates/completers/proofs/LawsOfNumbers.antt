-- What begins a number can be made one.
use Rattle.std.proofs.Common.{◌≡◌, ℕ, true, false, cond, ◌&&◌, ◌==◌, nat_lt, nat_le, List, [], ◌∷◌, ◌++◌, length, refl, sym, ap, ◌∙◌, ⊎_elim, arith}
use Rattle.std.specs.Char.{is_ascii_digit}
use Rattle.std.specs.List.{list_all}
use Rattle.std.proofs.lemmas.Bool.{cases_Bool, and_from, and_parts, leb-true, le-leb, lt-ltb, ltb-false}
use Rattle.std.proofs.lemmas.List.{append-nil, length-append}
use Rattle.std.proofs.lemmas.List.Folds.{list_all-append}
use Rattle.completers.specs.declared.numbers.TheConstants.{MAX_DIGITS}
use Rattle.completers.specs.Numbers.{unsigned, begins_number, is_number}
use Rattle.completers.proofs.NumberLemmas.{digits_begin}

-- some text makes a number of this one
abbrev pub CanBeNumber : List ℕ → Type 0
CanBeNumber front = (rest : List ℕ) × (is_number (front ++ rest) ≡ true)

whole : (front : List ℕ) → is_number front ≡ true → CanBeNumber front
whole front is = ([], ap is_number (append-nil front) ∙ is)

some_digit : (c : ℕ) (cs : List ℕ) → begins_number (c ∷ cs) ≡ true → nat_lt 0 (length (unsigned (c ∷ cs))) ≡ true → CanBeNumber (c ∷ cs)
some_digit c cs begins some = whole (c ∷ cs) (and_from _ _ begins some)

sign_alone : (c : ℕ) (cs : List ℕ) → (c == 45) ≡ true → nat_lt 0 (length cs) ≡ false → CanBeNumber (c ∷ cs)
sign_alone c [] signed none = (48 ∷ [], ap (λ b. digits_begin (cond b (48 ∷ []) (c ∷ 48 ∷ [])) && nat_lt 0 (length (cond b (48 ∷ []) (c ∷ 48 ∷ [])))) signed)
sign_alone c (d ∷ ds) signed none = absurd (omega (arith, ltb-false 0 (length (d ∷ ds)) none))

pub can_be_number : (front : List ℕ) → begins_number front ≡ true → CanBeNumber front
can_be_number [] begins = (48 ∷ [], refl)
can_be_number (c ∷ cs) begins =
    ⊎_elim
    (λ signed.
    let rest : unsigned (c ∷ cs) ≡ cs = ap (λ b. cond b cs (c ∷ cs)) signed in
    ⊎_elim (λ some. some_digit c cs begins (ap (λ u. nat_lt 0 (length u)) rest ∙ some)) (λ none. sign_alone c cs signed none) (cases_Bool (nat_lt 0 (length cs))))
    (λ plain.
    let rest : unsigned (c ∷ cs) ≡ c ∷ cs = ap (λ b. cond b cs (c ∷ cs)) plain in
    some_digit c cs begins (ap (λ u. nat_lt 0 (length u)) rest ∙ lt-ltb 0 (length (c ∷ cs)) (omega arith)))
    (cases_Bool (c == 45))

digits_front : (xs ys : List ℕ) → digits_begin (xs ++ ys) ≡ true → digits_begin xs ≡ true
digits_front xs ys begins =
    let parts = and_parts (list_all is_ascii_digit (xs ++ ys)) (nat_le (length (xs ++ ys)) MAX_DIGITS) begins in
    let digits = (and_parts (list_all is_ascii_digit xs) (list_all is_ascii_digit ys) (sym (list_all-append is_ascii_digit xs ys) ∙ parts.0)).0 in
    and_from _ _ digits (le-leb (length xs) MAX_DIGITS (omega (arith, leb-true (length (xs ++ ys)) MAX_DIGITS parts.1, length-append xs ys)))

pub begins_front : (front rest : List ℕ) → is_number (front ++ rest) ≡ true → begins_number front ≡ true
begins_front [] rest is = refl
begins_front (c ∷ cs) rest is =
    let begins = (and_parts (begins_number (c ∷ (cs ++ rest))) (nat_lt 0 (length (unsigned (c ∷ (cs ++ rest))))) is).0 in
    ⊎_elim
    (λ signed. ap (λ b. digits_begin (cond b cs (c ∷ cs))) signed ∙ digits_front cs rest (sym (ap (λ b. digits_begin (cond b (cs ++ rest) (c ∷ (cs ++ rest)))) signed) ∙ begins))
    (λ plain. ap (λ b. digits_begin (cond b cs (c ∷ cs))) plain ∙ digits_front (c ∷ cs) rest (sym (ap (λ b. digits_begin (cond b (cs ++ rest) (c ∷ (cs ++ rest)))) plain) ∙ begins))
    (cases_Bool (c == 45))
