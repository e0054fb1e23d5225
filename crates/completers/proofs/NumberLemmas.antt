-- Where a text stops to begin a number.
use Prim.Native.Nat.{zero, suc}
use Rattle.std.proofs.Common.{◌≡◌, ℕ, ◌+◌, ◌-◌, ◌<◌, ◌≤◌, Bool, true, false, cond, not, ◌&&◌, ◌==◌, nat_le, List, [], ◌∷◌, ◌++◌, length, take, drop, get_or, Some, None, refl, sym, ap, ◌∙◌, ⊎_elim, ◌⊎◌, inl, inr, arith}
use Rattle.std.specs.Char.{is_ascii_digit}
use Rattle.std.specs.List.{list_all}
use Rattle.std.specs.Option.{unwrap_or}
use Rattle.std.proofs.lemmas.Bool.{cases_Bool, le-leb, lt-leb, and_from, and_left, and_right, and_parts}
use Rattle.std.proofs.lemmas.List.{length-take, length-drop, take-take, get_or-drop, take-append-drop}
use Rattle.std.proofs.lemmas.List.Folds.{list_all-append, list_all_more, list_all_at}
use Rattle.text_doc.proofs.Walks.{first_found}
use Rattle.completers.specs.declared.numbers.TheConstants.{MAX_DIGITS}
use Rattle.completers.specs.Numbers.{unsigned, begins_number, is_number, number_fault}

add_suc : (i : ℕ) → i + 1 ≡ suc i
add_suc i = omega arith

take_nil : (n : ℕ) → take {A = ℕ} n [] ≡ []
take_nil zero = refl
take_nil (suc n) = refl

unsigned_signed : (c : ℕ) (cs : List ℕ) → (c == 45) ≡ true → unsigned (c ∷ cs) ≡ cs
unsigned_signed c cs is = ap (λ b. cond b cs (c ∷ cs)) is

unsigned_plain : (c : ℕ) (cs : List ℕ) → (c == 45) ≡ false → unsigned (c ∷ cs) ≡ c ∷ cs
unsigned_plain c cs is = ap (λ b. cond b cs (c ∷ cs)) is

nothing_dropped : (s c : ℕ) (cs : List ℕ) → drop s (c ∷ cs) ≡ c ∷ cs → s ≡ 0
nothing_dropped s c cs is = omega (arith, length-drop s (c ∷ cs), ap length is)

one_dropped : (s c : ℕ) (cs : List ℕ) → s ≤ length (c ∷ cs) → drop s (c ∷ cs) ≡ cs → s ≡ 1
one_dropped s c cs within is = omega (arith, length-drop s (c ∷ cs), ap length is)

-- the sign of a front is that of the text
unsigned-front : (text : List ℕ) (s i : ℕ) → drop s text ≡ unsigned text → s ≤ length text → unsigned (take (i + 1) text) ≡ drop s (take (i + 1) text)
unsigned-front [] s i is within =
    let none : s ≡ 0 = omega arith in
    ap (λ n. unsigned (take n [])) (add_suc i) ∙ sym (ap (λ n. drop n (take (i + 1) [])) none ∙ ap (λ n. take n []) (add_suc i))
unsigned-front (c ∷ cs) s i is within =
    let cut : take (i + 1) (c ∷ cs) ≡ c ∷ take i cs = ap (λ n. take n (c ∷ cs)) (add_suc i) in
    ⊎_elim (λ signed.
    let one = one_dropped s c cs within (is ∙ unsigned_signed c cs signed) in
    ap unsigned cut ∙ unsigned_signed c (take i cs) signed ∙ sym (ap (λ t. drop s t) cut ∙ ap (λ n. drop n (c ∷ take i cs)) one))
    (λ plain.
    let none = nothing_dropped s c cs (is ∙ unsigned_plain c cs plain) in
    ap unsigned cut ∙ unsigned_plain c (take i cs) plain ∙ sym (ap (λ t. drop s t) cut ∙ ap (λ n. drop n (c ∷ take i cs)) none))
    (cases_Bool (c == 45))

-- whether the first digits begin a number
abbrev pub digits_begin : List ℕ → Bool
digits_begin digits = list_all is_ascii_digit digits && nat_le (length digits) MAX_DIGITS

drop-take_sub : (s n : ℕ) (text : List ℕ) → drop s (take n text) ≡ take (n - s) (drop s text)
drop-take_sub zero n text = let e : n ≡ n - 0 = omega arith in ap (λ m. take m text) e
drop-take_sub (suc s) zero text = let e : 0 ≡ 0 - suc s = omega arith in ap (λ m. take m (drop (suc s) text)) e
drop-take_sub (suc s) (suc n) [] = sym (take_nil (suc n - suc s))
drop-take_sub (suc s) (suc n) (c ∷ cs) = let e : n - s ≡ suc n - suc s = omega arith in drop-take_sub s n cs ∙ ap (λ m. take m (drop s cs)) e

front_begins : (text : List ℕ) (s i : ℕ) → drop s text ≡ unsigned text → s ≤ length text
    → begins_number (take (i + 1) text) ≡ digits_begin (take (i + 1 - s) (drop s text))
front_begins text s i is within = ap digits_begin (unsigned-front text s i is within ∙ drop-take_sub s (i + 1) text)

list_all-take : (p : ℕ → Bool) (xs : List ℕ) (m n : ℕ) → m ≤ n → list_all p (take n xs) ≡ true → list_all p (take m xs) ≡ true
list_all-take p xs m n le all =
    let parts : take n xs ≡ take m xs ++ drop m (take n xs) = sym (take-append-drop m (take n xs)) ∙ ap (λ t. t ++ drop m (take n xs)) (take-take m n xs le) in
    (and_parts (list_all p (take m xs)) (list_all p (drop m (take n xs))) (sym (ap (list_all p) parts ∙ list_all-append p (take m xs) (drop m (take n xs))) ∙ all)).0

-- as long as there are only digits and not too many, a number is begun
begins_before : (digits : List ℕ) (m n : ℕ) → m ≤ n → n ≤ MAX_DIGITS → list_all is_ascii_digit (take n digits) ≡ true → digits_begin (take m digits) ≡ true
begins_before digits m n le few all =
    and_from _ _ (list_all-take is_ascii_digit digits m n le all) (le-leb (length (take m digits)) MAX_DIGITS (omega (arith, length-take m digits)))

-- one character more is one too many, or no digit
abbrev pub Stops : List ℕ → ℕ → Type 0
Stops digits n = (MAX_DIGITS ≤ n) ⊎ (is_ascii_digit (get_or digits n 0) ≡ false)

stops_front : (digits : List ℕ) (n : ℕ) → n < length digits → Stops digits n → digits_begin (take (n + 1) digits) ≡ false
stops_front digits n within (inl many) =
    and_right _ _ (lt-leb (length (take (n + 1) digits)) MAX_DIGITS (omega (arith, length-take (n + 1) digits)))
stops_front digits n within (inr other) =
    and_left _ _ (list_all_more is_ascii_digit digits n 0 within ∙ and_right (list_all is_ascii_digit (take n digits)) _ other)

stops_all : (digits : List ℕ) (n : ℕ) → n < length digits → Stops digits n → digits_begin digits ≡ false
stops_all digits n within (inl many) = and_right _ _ (lt-leb (length digits) MAX_DIGITS (omega arith))
stops_all digits n within (inr other) = and_left _ _ (list_all_at is_ascii_digit digits n 0 within other)

-- the answer where the text stops to begin a number at `i`
pub stops_at : (text : List ℕ) (s i : ℕ) → drop s text ≡ unsigned text → s ≤ length text → s ≤ i → i < length text
    → i - s ≤ MAX_DIGITS → list_all is_ascii_digit (take (i - s) (drop s text)) ≡ true → Stops (drop s text) (i - s)
    → Some i ≡ cond (is_number text) None (Some (number_fault text))
stops_at text s i is within from at few all stops =
    let digits = drop s text in
    let inside : i - s < length digits = omega (arith, length-drop s text) in
    let none : is_number text ≡ false = and_left _ _ (ap digits_begin (sym is) ∙ stops_all digits (i - s) inside stops) in
    let next : i + 1 - s ≡ i - s + 1 = omega arith in
    let here : not (begins_number (take (i + 1) text)) ≡ true =
    ap not (front_begins text s i is within ∙ ap (λ n. digits_begin (take n digits)) next ∙ stops_front digits (i - s) inside stops) in
    let before : (k : ℕ) → 0 ≤ k → k < i → not (begins_number (take (k + 1) text)) ≡ false =
    λ k low high. ap not (front_begins text s k is within ∙ begins_before digits (k + 1 - s) (i - s) (omega arith) few all) in
    sym (ap (λ b. cond b None (Some (number_fault text))) none
    ∙ ap (λ o. Some (unwrap_or o (length text))) (sym (first_found (λ k. not (begins_number (take (k + 1) text))) 0 (length text) i (omega arith) at here before)))

-- what the walk reads at `i` is the digit number `i - s`
pub digit_at : (text : List ℕ) (s i c : ℕ) (b : Bool) → s ≤ i → c ≡ get_or text i 0 → is_ascii_digit c ≡ b → is_ascii_digit (get_or (drop s text) (i - s) 0) ≡ b
digit_at text s i c b from is digit =
    let there : s + (i - s) ≡ i = omega arith in
    ap is_ascii_digit (get_or-drop s text (i - s) 0 ∙ ap (λ n. get_or text n 0) there ∙ sym is) ∙ digit

-- one more digit
pub digits_more : (text : List ℕ) (s i : ℕ) → s ≤ i → i < length text → list_all is_ascii_digit (take (i - s) (drop s text)) ≡ true
    → is_ascii_digit (get_or (drop s text) (i - s) 0) ≡ true → list_all is_ascii_digit (take (i + 1 - s) (drop s text)) ≡ true
digits_more text s i from at all digit =
    let next : i + 1 - s ≡ i - s + 1 = omega arith in
    let inside : i - s < length (drop s text) = omega (arith, length-drop s text) in
    ap (λ n. list_all is_ascii_digit (take n (drop s text))) next
    ∙ list_all_more is_ascii_digit (drop s text) (i - s) 0 inside ∙ and_from _ _ all digit
