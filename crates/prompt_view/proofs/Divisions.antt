-- How the rows of a drawing are divided: parts of one row each keep it, and one that may grow without end takes the rest.
use Prim.Native.Nat.{zero, suc}
use Rattle.std.proofs.Common.{◌≡◌, ℕ, ◌+◌, ◌-◌, ◌*◌, ◌<◌, ◌≤◌, false, List, [], ◌∷◌, length, get_or, map, replicate, sum, All, refl, ap, ◌∙◌, arith}
use Rattle.std.proofs.lemmas.List.{length-map, length-replicate, get_or-map, get_or-replicate}
use Rattle.std.proofs.lemmas.List.Elements.{All-cons, All-replicate}
use Rattle.std.proofs.lemmas.List.Folds.{sum_by-replicate}
use Rattle.std.proofs.lemmas.List.Sums.{sum_by-cons, sum-map}
use Rattle.layout_dims.specs.Numbers.{Numbers, IsDimension}
use Rattle.layout_dims.specs.Division.{Division, IsBetween, maxima_of, minima_of}
use Rattle.layout_dims.proofs.Parts.{division_between, division_filled}
use Rattle.prompt_view.specs.Bars.{exactly}
use Rattle.prompt_view.specs.Drawing.{from_one}

-- a part that grows, and so many of one row
abbrev pub parts_with : ℕ → ℕ → List Numbers
parts_with preferred count = from_one preferred ∷ replicate count (exactly 1)

parts_are : (preferred count : ℕ) → 1 ≤ preferred → All IsDimension (parts_with preferred count)
parts_are preferred count some =
    All-cons IsDimension (from_one preferred) (replicate count (exactly 1))
    (record { above_minimum = omega (arith, some); below_maximum = omega arith; maximum_in = omega arith; weight_above = omega arith; weight_in = omega arith })
    (All-replicate IsDimension count (exactly 1)
    (record { above_minimum = omega arith; below_maximum = omega arith; maximum_in = omega arith; weight_above = omega arith; weight_in = omega arith }))

-- the sum of a number of these parts
sum_with : (f : Numbers → ℕ) (preferred count : ℕ) → f (exactly 1) ≡ 1 → sum (map f (parts_with preferred count)) ≡ f (from_one preferred) + count
sum_with f preferred count one =
    sum-map f (parts_with preferred count) ∙ sum_by-cons f (from_one preferred) (replicate count (exactly 1))
    ∙ ap (λ (n : ℕ). f (from_one preferred) + n) (sum_by-replicate f count (exactly 1) ∙ ap (λ (n : ℕ). count * n) one ∙ omega arith)

pub least_of : (preferred count : ℕ) → sum (minima_of (parts_with preferred count)) ≡ 1 + count
least_of preferred count = sum_with (λ p. p.minimum) preferred count refl

most_of : (preferred count : ℕ) → sum (maxima_of (parts_with preferred count)) ≡ 1000000 + count
most_of preferred count = sum_with (λ p. p.maximum) preferred count refl

-- sizes that are all 1
ones : (sizes : List ℕ) → ((i : ℕ) → i < length sizes → get_or sizes i 0 ≡ 1) → sizes ≡ replicate (length sizes) 1
ones [] each = refl
ones (size ∷ sizes) each = λ i. each zero (omega arith) i ∷ ones sizes (λ k h. each (suc k) (omega (arith, h))) i

-- a number of a part behind the first one
number_at : (f : Numbers → ℕ) (preferred count i : ℕ) → i < count → f (exactly 1) ≡ 1 → get_or (map f (parts_with preferred count)) (suc i) 0 ≡ 1
number_at f preferred count i h one =
    get_or-map f (replicate count (exactly 1)) i (exactly 1) 0 (omega (arith, length-replicate count (exactly 1), h))
    ∙ ap f (get_or-replicate count i (exactly 1) (exactly 1) h) ∙ one

-- each part behind the first one has one row, and the first has the others
rest_of : (count room : ℕ) (size : ℕ) (sizes : List ℕ) → sizes ≡ replicate count 1 → sum (size ∷ sizes) ≡ room → size ∷ sizes ≡ (room - count) ∷ replicate count 1
rest_of count room size sizes is all =
    let count_is : sum sizes ≡ count = ap sum is ∙ sum_by-replicate (λ (n : ℕ). n) count 1 ∙ omega arith in
    let first : size ≡ room - count = omega (arith, all, count_is, sum_by-cons (λ (n : ℕ). n) size sizes) in
    λ i. first i ∷ is i

divided : (preferred count room : ℕ) (sizes : List ℕ) → length sizes ≡ suc count → IsBetween (minima_of (parts_with preferred count)) (maxima_of (parts_with preferred count)) sizes → sum sizes ≡ room → sizes ≡ (room - count) ∷ replicate count 1
divided preferred count room [] long between all = absurd (omega (arith, long))
divided preferred count room (size ∷ sizes) long between all =
    let same : length sizes ≡ count = omega (arith, long) in
    let each : (i : ℕ) → i < length sizes → get_or sizes i 0 ≡ 1 =
    λ i h. omega (
      arith,
      between.above (suc i) (omega (arith, h)),
      between.below (suc i) (omega (arith, h)),
      number_at (λ p. p.minimum) preferred count i (omega (arith, h, same)) refl,
      number_at (λ p. p.maximum) preferred count i (omega (arith, h, same)) refl,
    )
    in
    rest_of count room size sizes (ones sizes each ∙ ap (λ (n : ℕ). replicate n 1) same) all

-- the only division of a room that is enough for them
pub division_is : (preferred count room : ℕ) (sizes : List ℕ) → 1 ≤ preferred → room ≤ 500 → Division (parts_with preferred count) room false sizes → sizes ≡ (room - count) ∷ replicate count 1
division_is preferred count room sizes some few division =
    let parts = parts_with preferred count in
    let between = division_between parts room false sizes (parts_are preferred count some) division in
    let long : length sizes ≡ suc count =
    omega (arith, between.one_each, length-map parts (λ (p : Numbers). p.minimum), length-replicate count (exactly 1)) in
    divided preferred count room sizes long between (omega (arith, division_filled parts room false sizes division, most_of preferred count, few))
