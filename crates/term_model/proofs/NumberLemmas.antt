-- How numbers are read character by character.
use Rattle.std.proofs.Common.{◌≡◌, ℕ, ◌+◌, ◌-◌, ◌*◌, ◌<◌, ◌≤◌, ◌≢◌, List, [], ◌∷◌, length, drop, get_or, min, ◌∙◌, arith}
use Rattle.std.proofs.lemmas.List.{at_drop_more, at_drop_all}
use Rattle.std.proofs.lemmas.Bool.Decides.{nat_tests}
use Rattle.term_model.specs.Parameters.{numbers_from, capped}

-- a number that was capped goes on as if it had not been
pub capped_step : (value digit : ℕ) → min 9999 (10 * min 9999 value + digit) ≡ min 9999 (10 * value + digit)
capped_step value digit = omega arith

-- a separator ends the number, also where it is the last that is read
pub numbers_from-separator : (value i : ℕ) (params : List ℕ) → i < length params → get_or params i 0 ≡ 59
    → numbers_from value (drop i params) ≡ capped value ∷ numbers_from 0 (drop (i + 1) params)
numbers_from-separator value i params within is = at_drop_more (numbers_from value) params i 0 within ∙ grind (arith, nat_tests)

-- a digit continues it
pub numbers_from-digit : (value i : ℕ) (params : List ℕ) → i < length params → get_or params i 0 ≢ 59
    → numbers_from value (drop i params) ≡ numbers_from (10 * value + (get_or params i 0 - 48)) (drop (i + 1) params)
numbers_from-digit value i params within is = at_drop_more (numbers_from value) params i 0 within ∙ grind (arith, nat_tests)

-- the end does too
pub numbers_from-end : (value i : ℕ) (params : List ℕ) → length params ≤ i → numbers_from value (drop i params) ≡ capped value ∷ []
numbers_from-end value i params past = at_drop_all (numbers_from value) params i past
