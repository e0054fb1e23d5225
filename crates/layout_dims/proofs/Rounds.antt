-- When a child has a turn in a round, and the greatest of some numbers.

use Rattle.std.proofs.Common.{◌≡◌, ℕ, ◌+◌, ◌-◌, ◌*◌, ◌/◌, ◌%◌, ◌<◌, ◌≤◌, ◌⊎◌, inl, inr, Bool, true, false, eqb, ltb, ◌||◌, List, [], ◌∷◌, length, get_or, refl, sym, ap, ◌∙◌, arith}
use Prim.Native.Nat.{zero, suc, max}
use Rattle.std.specs.List.{fold, list_any, range_with_len}
use Rattle.std.proofs.Math.Nat.{div-mul-le_self, lt-div-mul-add, mul-le-mul_right, mul-le-mul_left}
use Rattle.std.proofs.lemmas.Nat.{div-mul-add, div-add-mod', mod_below}
use Rattle.std.proofs.lemmas.Bool.{cases_lt, cases_eq, or_left, or_right, or_from, eq-eqb, ne_eqb, lt-ltb, le-ltb}
use Rattle.layout_dims.specs.Numbers.{greatest}
use Rattle.layout_dims.specs.Turns.{round_of, takes_turn}

any_in_range : (p : ℕ → Bool) (a n k : ℕ) → a ≤ k → k < a + n → p k ≡ true → list_any p (range_with_len a n) ≡ true
any_in_range p a zero k above below e = absurd (omega arith)
any_in_range p a (suc n) k above below e =
    elim (cases_eq a k) [
      | inl same ↦ or_left (p a) _ (ap p same ∙ e)
      | inr other ↦ or_right (p a) _ (any_in_range p (a + 1) n k (omega arith) (omega arith) e)
    ]

none_in_range : (p : ℕ → Bool) (a n : ℕ) → ((k : ℕ) → a ≤ k → k < a + n → p k ≡ false) → list_any p (range_with_len a n) ≡ false
none_in_range p a zero h = refl
none_in_range p a (suc n) h =
    or_from (p a) _ (h a (omega arith) (omega arith))
    (none_in_range p (a + 1) n (λ k above below. h k (omega arith) (omega arith)))

div_is : (a q w : ℕ) → q * w ≤ a → a < q * w + w → a / w ≡ q
div_is a q w low high =
    let e : a ≡ q * w + (a - q * w) = omega arith in
    ap (λ n. n / w) e ∙ div-mul-add q w (a - q * w) (omega arith)

-- its next turn is no later than the round
turn_in : (m w q K : ℕ) → w ≤ m → K * m < q * w + w → K < q + 1
turn_in m w q K le soon =
    elim (cases_lt K (q + 1)) [
      | inl below ↦ below
      | inr above ↦ absurd (omega (arith, mul-le-mul_right m above, mul-le-mul_left q le))
    ]

no_other : (m w q K k : ℕ) → 0 < w → q * w ≤ K * m → K * m < q * w + m → q * w + w ≤ K * m → round_of m w k ≡ q + 1 → ⊥
no_other m w q K k pos low high late e =
    let quotient : (k - 1) * m / w ≡ q = omega arith in
    let under : (k - 1) * m / w * w ≤ (k - 1) * m = div-mul-le_self ((k - 1) * m) w in
    let over : (k - 1) * m < (k - 1) * m / w * w + w = lt-div-mul-add pos in
    let same : (k - 1) * m / w * w ≡ q * w = ap (λ n. n * w) quotient in
    elim (cases_lt (k - 1) K) [
      | inl below ↦ let step : (k - 1 + 1) * m ≤ K * m = mul-le-mul_right m (omega arith) in omega arith
      | inr above ↦ let step : K * m ≤ (k - 1) * m = mul-le-mul_right m above in omega arith
    ]

-- a child that had K turns in q rounds has one in the next where the K multiples of m end in its share of that round
pub takes_turn_is : (m w q K : ℕ) → 0 < w → w ≤ m → q * w ≤ K * m → K * m < q * w + m → takes_turn m w (q + 1) ≡ ltb (K * m) (q * w + w)
takes_turn_is m w q K pos le low high =
    elim (cases_lt (K * m) (q * w + w)) [
      | inl soon ↦
          let at : K + 1 - 1 ≡ K = omega arith in
          let there : round_of m w (K + 1) ≡ q + 1 = ap (λ n. n * m / w + 1) at ∙ ap (λ n. n + 1) (div_is (K * m) q w low soon) in
          any_in_range (λ k. eqb (round_of m w k) (q + 1)) 1 (q + 1) (K + 1) (omega arith) (omega (arith, turn_in m w q K le soon)) (eq-eqb _ _ there)
          ∙ sym (lt-ltb _ _ soon)
      | inr late ↦
          none_in_range (λ k. eqb (round_of m w k) (q + 1)) 1 (q + 1) (λ k above below. ne_eqb _ _ (no_other m w q K k pos low high late))
          ∙ sym (le-ltb _ _ late)
    ]

-- what is left of the rounds' shares decides it
pub takes_turn_by_rest : (m w q : ℕ) → 0 < w → w ≤ m → takes_turn m w (q + 1) ≡ (eqb (q * w % m) 0 || ltb m (q * w % m + w))
takes_turn_by_rest m w q pos le =
    let parts : q * w / m * m + q * w % m ≡ q * w = div-add-mod' (q * w) m in
    let small : q * w % m < m = mod_below (q * w) m (omega arith) in
    elim (cases_eq (q * w % m) 0) [
      | inl none ↦
          takes_turn_is m w q (q * w / m) pos le (omega arith) (omega arith)
          ∙ lt-ltb _ _ (omega arith) ∙ sym (or_left _ _ (eq-eqb _ _ none))
      | inr some ↦
          elim (cases_lt m (q * w % m + w)) [
            | inl soon ↦
                takes_turn_is m w q (q * w / m + 1) pos le (omega arith) (omega arith)
                ∙ lt-ltb _ _ (omega arith) ∙ sym (or_right _ _ (lt-ltb _ _ soon))
            | inr late ↦
                takes_turn_is m w q (q * w / m + 1) pos le (omega arith) (omega arith)
                ∙ le-ltb _ _ (omega arith) ∙ sym (or_from _ _ (ne_eqb _ _ some) (le-ltb _ _ late))
          ]
    ]

start_le : (a : ℕ) (xs : List ℕ) → a ≤ fold max a xs
start_le a [] = omega arith
start_le a (x ∷ xs) = omega (arith, start_le (max a x) xs)

each_le : (a : ℕ) (xs : List ℕ) (i : ℕ) → i < length xs → get_or xs i 0 ≤ fold max a xs
each_le a [] i h = absurd (omega arith)
each_le a (x ∷ xs) zero h = omega (arith, start_le (max a x) xs)
each_le a (x ∷ xs) (suc i) h = each_le (max a x) xs i (omega arith)

-- none of the numbers is above their greatest
pub greatest_le : (xs : List ℕ) (i : ℕ) → i < length xs → get_or xs i 0 ≤ greatest xs
greatest_le xs i h = each_le 0 xs i h

-- the greatest is one of the numbers
reached : (a : ℕ) (xs : List ℕ) → (fold max a xs ≡ a) ⊎ ((i : ℕ) × (i < length xs) × (get_or xs i 0 ≡ fold max a xs))
reached a [] = inl refl
reached a (x ∷ xs) =
    elim (reached (max a x) xs) [
      | inl start ↦ elim (cases_lt a x) [
        | inl more ↦ inr (zero, omega arith, omega arith)
        | inr less ↦ inl (omega arith)
      ]
      | inr found ↦ inr (suc found.0, omega (arith, found.1), found.2)
    ]

pub greatest_reached : (xs : List ℕ) → 0 < length xs → (i : ℕ) × (i < length xs) × (get_or xs i 0 ≡ greatest xs)
greatest_reached xs some =
    elim (reached 0 xs) [
      | inl none ↦ (0, some, omega (arith, greatest_le xs 0 some))
      | inr found ↦ found
    ]
