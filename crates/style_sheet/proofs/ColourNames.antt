-- The names of colours: of which colours a text is no name, and six digits.
use Rattle.std.proofs.Common.{◌≡◌, ℕ, ◌+◌, ◌*◌, ◌/◌, ◌%◌, ◌<◌, ◌⊎◌, true, List, [], ◌∷◌, ◌++◌, length, get_or, slice_index_or, refl, subst, ◌∙◌, zero-add, arith}
use Rattle.std.specs.Prelude.{◌==◌, not, nat_lt}
use Rattle.std.specs.List.{AllByRecursion}
use Rattle.std.specs.Char.{digit_char, digit_value}
use Rattle.std.proofs.lemmas.Bool.Decides.{nat_tests}
use Rattle.std.proofs.lemmas.List.Elements.{All-from_recursion}
use Rattle.std.proofs.lemmas.List.FromFn.{get_or-range_with_len}
use Rattle.std.proofs.lemmas.Str.{digit_value-digit_char}
use Rattle.cell_grid.specs.declared.attrs.Colour.{Colour}
use Rattle.cell_grid.specs.declared.attrs.Colour.TheVariants.{Ansi, Rgb}
use Rattle.style_sheet.specs.Spelling.{ansi_names, colour_name, IsColour}

-- a text that is the name of no numbered colour, and of no other, is no colour's name
pub unnamed : (name : List ℕ) → ((n : ℕ) → n < 16 → slice_index_or ansi_names n [] ≡ name → ⊥)
    → ((r g b : ℕ) → r < 256 → g < 256 → b < 256 → colour_name (Rgb r g b) ≡ name → ⊥) → (colour : Colour) → IsColour colour → colour_name colour ≡ name → ⊥
unnamed name no_number no_digits (Ansi n) fits e = no_number n fits e
unnamed name no_number no_digits (Rgb r g b) fits e = no_digits r g b fits.0 fits.1 fits.2 e

-- a byte and six digits that are three pairs
pub six_digits : (name r g b : List ℕ) (first : ℕ) → length name ≡ 7 → get_or name 0 0 ≡ first → r ≡ get_or name 1 0 ∷ get_or name 2 0 ∷ []
    → g ≡ get_or name 3 0 ∷ get_or name 4 0 ∷ [] → b ≡ get_or name 5 0 ∷ get_or name 6 0 ∷ []
    → first ∷ (r ++ g ++ b) ≡ name
six_digits (o ∷ p ∷ q ∷ s ∷ t ∷ u ∷ v ∷ []) r g b first seven e x y z = rw (← e, x, y, z) refl
six_digits (o ∷ p ∷ q ∷ s ∷ t ∷ u ∷ v ∷ w ∷ more) r g b first seven e x y z = absurd (omega arith)
six_digits [] r g b first seven e x y z = absurd (omega arith)
six_digits (p ∷ []) r g b first seven e x y z = absurd (omega arith)
six_digits (p ∷ q ∷ []) r g b first seven e x y z = absurd (omega arith)
six_digits (p ∷ q ∷ s ∷ []) r g b first seven e x y z = absurd (omega arith)
six_digits (p ∷ q ∷ s ∷ t ∷ []) r g b first seven e x y z = absurd (omega arith)
six_digits (p ∷ q ∷ s ∷ t ∷ u ∷ []) r g b first seven e x y z = absurd (omega arith)
six_digits (p ∷ q ∷ s ∷ t ∷ u ∷ v ∷ []) r g b first seven e x y z = absurd (omega arith)

-- what holds of each of the sixteen numbers holds of a number below 16
pub below_sixteen : (P : ℕ → Type 0) → AllByRecursion P (0 ∷ 1 ∷ 2 ∷ 3 ∷ 4 ∷ 5 ∷ 6 ∷ 7 ∷ 8 ∷ 9 ∷ 10 ∷ 11 ∷ 12 ∷ 13 ∷ 14 ∷ 15 ∷ []) → (n : ℕ) → n < 16 → P n
below_sixteen P each n fits =
    let at : P (get_or (0 ∷ 1 ∷ 2 ∷ 3 ∷ 4 ∷ 5 ∷ 6 ∷ 7 ∷ 8 ∷ 9 ∷ 10 ∷ 11 ∷ 12 ∷ 13 ∷ 14 ∷ 15 ∷ []) n 0) = All-from_recursion P (0 ∷ 1 ∷ 2 ∷ 3 ∷ 4 ∷ 5 ∷ 6 ∷ 7 ∷ 8 ∷ 9 ∷ 10 ∷ 11 ∷ 12 ∷ 13 ∷ 14 ∷ 15 ∷ []) each n 0 fits in
    subst P (get_or-range_with_len 0 16 n 0 fits ∙ zero-add n) at

-- the number that two digits stand for
abbrev pub pair_value : ℕ → ℕ → ℕ
pair_value high low = digit_value high * 16 + digit_value low

pub pair_value-hex_pair : (n : ℕ) → n < 256 → pair_value (digit_char (n / 16)) (digit_char (n % 16)) ≡ n
pair_value-hex_pair n fits =
    let high : n / 16 < 36 = omega arith in
    let low : n % 16 < 36 = omega arith in
    rw (digit_value-digit_char (n / 16) high, digit_value-digit_char (n % 16) low) (omega arith)

pub digit_char-ascii : (d : ℕ) → d < 16 → nat_lt (digit_char d) 128 ≡ true
digit_char-ascii d fits = grind (arith, nat_tests)

-- a digit is no separator
pub digit_char-apart : (d c : ℕ) → d < 16 → (c < 48) ⊎ ((57 < c) × (c < 97)) → not (digit_char d == c) ≡ true
digit_char-apart d c fits apart = grind (arith, nat_tests)
