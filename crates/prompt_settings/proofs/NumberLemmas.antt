-- What is read as a number is what is written for it, and no other text.
use Rattle.std.proofs.Common.{◌≡◌, ℕ, ◌+◌, ◌*◌, ◌<◌, ◌≤◌, ◌^◌, Bool, true, false, List, length, get_or, take, Some, None, nat_le, sym, ap, subst, ◌∙◌, arith, ⊎_elim}
use Rattle.std.specs.Prelude.{◌&&◌, decimal}
use Rattle.std.specs.Char.{digit_value}
use Rattle.std.specs.Int.{IsInRange}
use Rattle.std.specs.Str.{bytes_eq}
use Rattle.std.specs.Str.Parse.{digits_value}
use Rattle.std.proofs.lemmas.Bool.{cases_Bool, cases_lt, cond-true, cond-false, and_parts, and_from, le-leb, leb-true}
use Rattle.std.proofs.lemmas.Fmt.{decimal-digits_value, digits_decimal, digits_value-decimal, first_decimal, decimal_digit, decimal_nonempty}
use Rattle.std.proofs.lemmas.Int.Digits.{digits_value_more}
use Rattle.std.proofs.lemmas.List.{get_or_default}
use Rattle.std.proofs.lemmas.Slice.Eq.{bytes_eq-Decides}
use Rattle.std.proofs.lemmas.Str.Parse.{IsNumeralModel, numerals_by_value, tells_by_index, digits_value-take-le}
use Rattle.prompt_settings.specs.Number.{number_of}

-- each character is a digit
abbrev pub AreDigits : List ℕ → Type 0
AreDigits text = (i : ℕ) → i < length text → IsInRange 48 57 (get_or text i 0)

-- which the library calls a numeral, with its value
pub digits_are : IsNumeralModel AreDigits (digits_value 10)
digits_are = numerals_by_value AreDigits tells_by_index

-- what a number that was read tells of the text
pub record IsNumber (most : ℕ) (text : List ℕ) (n : ℕ) : Type 0 where
  pub written : text ≡ decimal n
  pub within : n ≤ most
  pub value : digits_value 10 text ≡ n

pub is_number : (most : ℕ) (text : List ℕ) (n : ℕ) → number_of most text ≡ Some n → IsNumber most text n
is_number most text n read =
    let v = digits_value 10 text in
    let test : Bool = nat_le v most && bytes_eq text (decimal v) in
    ⊎_elim
    (λ (yes : test ≡ true).
    let both = and_parts (nat_le v most) (bytes_eq text (decimal v)) yes in
    let same : v ≡ n = let h = cond-true test (Some v) None yes in cc in
    let written : text ≡ decimal v = (bytes_eq-Decides text (decimal v)).0 both.1 in
    record { written = written ∙ ap decimal same; within = omega (arith, leb-true v most both.0, same); value = same })
    (λ (no : test ≡ false). absurd (let h = cond-false test (Some v) None no in cc))
    (cases_Bool test)

-- a text that says no number is none
pub no_number : (most : ℕ) (text : List ℕ) → ((n : ℕ) → IsNumber most text n → ⊥) → None ≡ number_of most text
no_number most text none =
    let v = digits_value 10 text in
    let test : Bool = nat_le v most && bytes_eq text (decimal v) in
    ⊎_elim
    (λ (yes : test ≡ true). absurd (none v (is_number most text v (cond-true test (Some v) None yes))))
    (λ (no : test ≡ false). sym (cond-false test (Some v) None no))
    (cases_Bool test)

-- what is written for a number
pub written_number : (most : ℕ) (text : List ℕ) → digits_value 10 text ≤ most → text ≡ decimal (digits_value 10 text)
    → number_of most text ≡ Some (digits_value 10 text)
written_number most text within written =
    let v = digits_value 10 text in
    cond-true (nat_le v most && bytes_eq text (decimal v)) (Some v) None
    (and_from (nat_le v most) (bytes_eq text (decimal v)) (le-leb v most within) ((bytes_eq-Decides text (decimal v)).1 written))

-- digits without a leading zero
pub read_number : (most : ℕ) (text : List ℕ) → most < 2 ^ 64 → 0 < length text → (get_or text 0 0 ≡ 48 → length text ≡ 1) → AreDigits text
    → digits_value 10 text ≤ most → Some (digits_value 10 text) ≡ number_of most text
read_number most text fits some leading digits within =
    sym (written_number most text within (sym (decimal-digits_value digits_are text digits some leading (omega arith))))

-- each number is read from what is written for it
pub number_of-decimal : (most n : ℕ) → most < 2 ^ 64 → n ≤ most → number_of most (decimal n) ≡ Some n
number_of-decimal most n fits within =
    let value : digits_value 10 (decimal n) ≡ n = digits_value-decimal digits_are n (omega arith) in
    written_number most (decimal n) (omega (arith, value)) (ap decimal (sym value)) ∙ ap (λ v. Some v) value

pub digits_of_number : (most : ℕ) (text : List ℕ) (n : ℕ) → most < 2 ^ 64 → IsNumber most text n → AreDigits text
digits_of_number most text n fits number = subst AreDigits (sym number.written) (digits_decimal digits_are n (omega (arith, number.within)))

-- no number is written with a leading zero
no_leading_zero : (most : ℕ) (text : List ℕ) (n : ℕ) → most < 2 ^ 64 → get_or text 0 0 ≡ 48 → 2 ≤ length text → IsNumber most text n → ⊥
no_leading_zero most text n fits zero_first long number =
    ⊎_elim
    (λ (positive : 0 < n). omega (arith, first_decimal n positive (omega (arith, number.within)), ap (λ t. get_or t 0 0) number.written))
    (λ (none : n ≤ 0).
    let zero : n ≡ 0 = omega arith in
    omega (arith, ap length (number.written ∙ ap decimal zero ∙ decimal_digit 0 (omega arith))))
    (cases_lt 0 n)

-- a number that is too large already stays so
pub not_beyond : (most : ℕ) (text : List ℕ) (n i : ℕ) → most < digits_value 10 (take i text) → IsNumber most text n → ⊥
not_beyond most text n i beyond number =
    omega (arith, digits_value-take-le 10 text i (omega arith), number.within, number.value)

-- what may not stand at the front of a number
pub may_not_begin : (most : ℕ) (text : List ℕ) → most < 2 ^ 64 → ((0 < length text) × (get_or text 0 0 ≡ 48 → length text ≡ 1) → ⊥)
    → (n : ℕ) → IsNumber most text n → ⊥
may_not_begin most text fits refused n number =
    ⊎_elim
    (λ (some : 0 < length text). refused (
      some,
      λ zero_first.
          ⊎_elim
          (λ (long : 1 < length text). absurd (no_leading_zero most text n fits zero_first (omega arith) number))
          (λ (short : length text ≤ 1). omega arith)
          (cases_lt 1 (length text)),
    ))
    (λ (none : length text ≤ 0).
    omega (arith, decimal_nonempty n (omega (arith, number.within)), ap length number.written))
    (cases_lt 0 (length text))

-- the value of one digit more
pub one_more : (text : List ℕ) (i number digit c : ℕ) → i < length text → c ≡ get_or text i c → number ≡ digits_value 10 (take i text)
    → digit ≡ digit_value c → number * 10 + digit ≡ digits_value 10 (take (i + 1) text)
one_more text i number digit c inside item so_far value =
    let here : c ≡ get_or text i 0 = item ∙ get_or_default text i c 0 inside in
    ap (λ (v : ℕ). v * 10 + digit) so_far
    ∙ ap (λ (d : ℕ). digits_value 10 (take i text) * 10 + d) (value ∙ ap digit_value here)
    ∙ sym (digits_value_more 10 text i inside)
