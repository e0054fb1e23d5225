-- What the parts' numbers give the two stages.

use Rattle.std.proofs.Common.{◌≡◌, ℕ, ◌*◌, ◌<◌, ◌≤◌, Bool, true, false, List, [], ◌∷◌, length, get_or, map, sum, All, refl, sym, ap, ◌∙◌, subst, arith}
use Prim.Native.Nat.{zero, suc}
use Rattle.std.specs.List.{sum_by}
use Rattle.std.proofs.lemmas.List.{length-map, get_or-map}
use Rattle.std.proofs.lemmas.List.Sums.{sum_by-cons, sum_by-le, sum-map}
use Rattle.layout_dims.specs.Numbers.{Numbers, IsDimension, greatest}
use Rattle.layout_dims.specs.Turns.{turns_taken, turns_before, turn_order, AreWeights}
use Rattle.layout_dims.specs.Division.{weights_of, minima_of, preferred_of, maxima_of, goal_of, caps_of, IsStage, EndsWith, Stages, Division, IsBetween}
use Rattle.layout_dims.specs.Growth.{CanGrow}
use Rattle.layout_dims.proofs.Rounds.{greatest_reached}
use Rattle.layout_dims.proofs.Stages.{each_from_sizes, stage_long}

-- a dimension to stand for one past the end of the parts
nothing : Numbers
nothing = record { minimum = 0; maximum = 0; weight = 0; preferred = 0 }

-- a number of each part, read at a place
at_part : (f : Numbers → ℕ) (parts : List Numbers) (i : ℕ) → i < length parts → get_or (map f parts) i 0 ≡ f (get_or parts i nothing)
at_part f parts i h = get_or-map f parts i nothing 0 h

small_greatest : (xs : List ℕ) → ((i : ℕ) → i < length xs → get_or xs i 0 ≤ 1000) → greatest xs ≤ 1000
small_greatest [] h = omega arith
small_greatest (x ∷ xs) h =
    let top = greatest_reached (x ∷ xs) (omega arith) in
    omega (arith, h top.0 top.1, top.2)

pub weights_are : (parts : List Numbers) → All IsDimension parts → AreWeights (weights_of parts)
weights_are parts all =
    let f : Numbers → ℕ = λ p. p.weight in
    let long = length-map parts f in
    let each = λ (i : ℕ) (h : i < length parts). at_part f parts i h in
    record {
      positive = λ i h. omega (arith, each i (omega arith), (all i nothing (omega arith)).weight_above);
      small = small_greatest (weights_of parts) (λ i h. omega (arith, each i (omega arith), (all i nothing (omega arith)).weight_in));
    }

pub sum_le : (xs ys : List ℕ) → length xs ≡ length ys → ((i : ℕ) → i < length xs → get_or xs i 0 ≤ get_or ys i 0) → sum xs ≤ sum ys
sum_le [] [] e h = omega arith
sum_le [] (y ∷ ys) e h = omega arith
sum_le (x ∷ xs) [] e h = absurd (omega arith)
sum_le (x ∷ xs) (y ∷ ys) e h =
    omega (
      arith,
      sum_by-cons (λ (n : ℕ). n) x xs,
      sum_by-cons (λ (n : ℕ). n) y ys,
      h zero (omega arith),
      sum_le xs ys (omega arith) (λ i lt. h (suc i) (omega arith)),
    )

-- a stage can begin with sizes that are within their caps
can_grow : (ws starts caps : List ℕ) (room : ℕ) → length starts ≡ length ws → length caps ≡ length ws → ((i : ℕ) → i < length ws → get_or starts i 0 ≤ get_or caps i 0) → sum starts ≤ room → room ≤ 1000 → CanGrow ws starts caps (goal_of room caps)
can_grow ws starts caps room one_start one_cap below above small =
    let sums : sum starts ≤ sum caps = sum_le starts caps (one_start ∙ sym one_cap) (λ i h. below i (omega arith)) in
    record {
      one_start = one_start;
      one_cap = one_cap;
      below_caps = below;
      goal_above = omega arith;
      goal_reachable = omega arith;
      goal_small = omega arith;
    }

pub preferred_above : (parts : List Numbers) → All IsDimension parts → (i : ℕ) → i < length (weights_of parts) → get_or (minima_of parts) i 0 ≤ get_or (preferred_of parts) i 0
preferred_above parts all i h =
    let inside : i < length parts = omega (arith, length-map parts (λ (p : Numbers). p.weight)) in
    omega (arith, at_part (λ p. p.minimum) parts i inside, at_part (λ p. p.preferred) parts i inside, (all i nothing inside).above_minimum)

pub maxima_above : (parts : List Numbers) → All IsDimension parts → (i : ℕ) → i < length (weights_of parts) → get_or (preferred_of parts) i 0 ≤ get_or (maxima_of parts) i 0
maxima_above parts all i h =
    let inside : i < length parts = omega (arith, length-map parts (λ (p : Numbers). p.weight)) in
    omega (arith, at_part (λ p. p.maximum) parts i inside, at_part (λ p. p.preferred) parts i inside, (all i nothing inside).below_maximum)

pub first_can_grow : (parts : List Numbers) (room : ℕ) → All IsDimension parts → sum (minima_of parts) ≤ room → room ≤ 1000 → CanGrow (weights_of parts) (minima_of parts) (preferred_of parts) (goal_of room (preferred_of parts))
first_can_grow parts room all above small =
    let weights = length-map parts (λ (p : Numbers). p.weight) in
    can_grow _ _ _ room (length-map parts (λ (p : Numbers). p.minimum) ∙ sym weights) (length-map parts (λ (p : Numbers). p.preferred) ∙ sym weights) (preferred_above parts all) above small

first_below : (ws minima preferred : List ℕ) (goal U : ℕ) (first : List ℕ) → IsStage ws minima preferred 0 goal U first → (i : ℕ) → i < length ws → get_or first i 0 ≤ get_or preferred i 0
first_below ws minima preferred goal U first h i lt =
    let size = each_from_sizes ws minima preferred 0 U first h.after_turns i lt in
    omega arith

pub second_can_grow : (ws minima preferred maxima : List ℕ) (room U : ℕ) (first : List ℕ) → length maxima ≡ length ws → ((i : ℕ) → i < length ws → get_or preferred i 0 ≤ get_or maxima i 0) → room ≤ 1000 → IsStage ws minima preferred 0 (goal_of room preferred) U first → CanGrow ws first maxima (goal_of room maxima)
second_can_grow ws minima preferred maxima room U first long above small h =
    can_grow ws first maxima room (stage_long _ _ _ _ _ _ _ h) long
    (λ i lt. omega (arith, first_below ws minima preferred (goal_of room preferred) U first h i lt, above i lt)) (omega (arith, h.reached)) small

few : (f : Numbers → ℕ) (parts : List Numbers) → length parts ≤ 1000 → All (λ p. f p ≤ 1000000) parts → sum (map f parts) < 4294967296
few f parts short all =
    let most : sum_by f parts ≤ length parts * 1000000 = sum_by-le f 1000000 parts all in
    omega (arith, sum-map f parts)

pub preferred_sum : (parts : List Numbers) → length parts ≤ 1000 → All IsDimension parts → sum (preferred_of parts) < 4294967296
preferred_sum parts short all = few (λ p. p.preferred) parts short (λ k d h. omega (arith, (all k d h).below_maximum, (all k d h).maximum_in))

pub maxima_sum : (parts : List Numbers) → length parts ≤ 1000 → All IsDimension parts → sum (maxima_of parts) < 4294967296
maxima_sum parts short all = few (λ p. p.maximum) parts short (λ k d h. (all k d h).maximum_in)

-- before the first place there is no turn
pub none_taken : (ws : List ℕ) → turns_taken ws 0 0 ≡ 0
unfolding turns_taken turns_before turn_order
none_taken ws = refl

stage_between : (low ws starts caps : List ℕ) (from goal T : ℕ) (sizes : List ℕ) → length low ≡ length ws → ((i : ℕ) → i < length ws → get_or low i 0 ≤ get_or starts i 0) → ((i : ℕ) → i < length ws → get_or starts i 0 ≤ get_or caps i 0) → IsStage ws starts caps from goal T sizes → IsBetween low caps sizes
stage_between low ws starts caps from goal T sizes long lower below h =
    let one_each = stage_long ws starts caps from goal T sizes h in
    let size = λ (i : ℕ) (lt : i < length ws). each_from_sizes ws starts caps from T sizes h.after_turns i lt in
    record {
      one_each = one_each ∙ sym long;
      above = λ i lt. omega (arith, size i (omega arith), lower i (omega arith), below i (omega arith));
      below = λ i lt. omega (arith, size i (omega arith));
    }

minima_long : (parts : List Numbers) → length (minima_of parts) ≡ length (weights_of parts)
minima_long parts = length-map parts (λ (p : Numbers). p.minimum) ∙ sym (length-map parts (λ (p : Numbers). p.weight))

ends_between : (parts : List Numbers) (room U : ℕ) (first sizes : List ℕ) (done : Bool) → All IsDimension parts → IsStage (weights_of parts) (minima_of parts) (preferred_of parts) 0 (goal_of room (preferred_of parts)) U first → EndsWith done (weights_of parts) (maxima_of parts) room U first sizes → IsBetween (minima_of parts) (caps_of done parts) sizes
ends_between parts room U first sizes true all h e =
    let P : List ℕ → Type 0 = λ l. IsBetween (minima_of parts) (preferred_of parts) l in
    subst P (sym e) (stage_between _ _ _ _ _ _ _ _ (minima_long parts) (λ i lt. omega arith) (preferred_above parts all) h)
ends_between parts room U first sizes false all h e =
    let low = stage_between _ _ _ _ _ _ _ _ (minima_long parts) (λ i lt. omega arith) (preferred_above parts all) h in
    let long = stage_long _ _ _ _ _ _ _ h in
    stage_between _ _ _ _ _ _ _ _ (minima_long parts) (λ i lt. low.above i (omega arith))
    (λ i lt. omega (arith, first_below _ _ (preferred_of parts) (goal_of room (preferred_of parts)) U first h i lt, maxima_above parts all i lt)) e.1

-- each size lies between its minimum and the cap of the last stage
pub division_between : (parts : List Numbers) (room : ℕ) (done : Bool) (sizes : List ℕ) → All IsDimension parts → Division parts room done sizes → IsBetween (minima_of parts) (caps_of done parts) sizes
division_between parts room done sizes all h = ends_between parts room h.U h.first sizes done all h.first_stage h.ends

ends_filled : (parts : List Numbers) (room U : ℕ) (first sizes : List ℕ) (done : Bool) → sum first ≡ goal_of room (preferred_of parts) → EndsWith done (weights_of parts) (maxima_of parts) room U first sizes → sum sizes ≡ goal_of room (caps_of done parts)
ends_filled parts room U first sizes true full e = ap sum e ∙ full
ends_filled parts room U first sizes false full e = e.1.reached

-- and they sum to the lesser of the room and the sum of these caps
pub division_filled : (parts : List Numbers) (room : ℕ) (done : Bool) (sizes : List ℕ) → Division parts room done sizes → sum sizes ≡ goal_of room (caps_of done parts)
division_filled parts room done sizes h = ends_filled parts room h.U h.first sizes done h.first_stage.reached h.ends

-- the first stage, as the code reckons where it begins and its goal
pub stage_at : (ws starts caps : List ℕ) (from from' goal goal' T : ℕ) (sizes : List ℕ) → from ≡ from' → goal ≡ goal' → IsStage ws starts caps from goal T sizes → IsStage ws starts caps from' goal' T sizes
stage_at ws starts caps from from' goal goal' T sizes e g h =
    let P : ℕ → Type 0 = λ n. IsStage ws starts caps n goal T sizes in
    let Q : ℕ → Type 0 = λ n. IsStage ws starts caps from' n T sizes in
    subst Q g (subst P e h)

pub can_grow_at : (ws starts caps : List ℕ) (goal goal' : ℕ) → goal' ≡ goal → CanGrow ws starts caps goal → CanGrow ws starts caps goal'
can_grow_at ws starts caps goal goal' e h = let P : ℕ → Type 0 = λ n. CanGrow ws starts caps n in subst P (sym e) h

pub stages_done : (ws minima preferred maxima : List ℕ) (room U : ℕ) (done : Bool) (first : List ℕ) → done ≡ true → IsStage ws minima preferred 0 (goal_of room preferred) U first → Stages ws minima preferred maxima room done first
stages_done ws minima preferred maxima room U done first e h = record {
  U = U;
  first = first;
  first_stage = h;
  ends = let P : Bool → Type 0 = λ b. EndsWith b ws maxima room U first first in subst P (sym e) refl;
}

pub stages_on : (ws minima preferred maxima : List ℕ) (room U T : ℕ) (done : Bool) (first sizes : List ℕ) → done ≡ false → IsStage ws minima preferred 0 (goal_of room preferred) U first → IsStage ws first maxima U (goal_of room maxima) T sizes → Stages ws minima preferred maxima room done sizes
stages_on ws minima preferred maxima room U T done first sizes e h g = record {
  U = U;
  first = first;
  first_stage = h;
  ends = let P : Bool → Type 0 = λ b. EndsWith b ws maxima room U first sizes in subst P (sym e) (T, g);
}

-- what holds of lists holds of equal ones
pub can_grow_by : (ws ws' starts starts' caps caps' : List ℕ) (room : ℕ) → ws ≡ ws' → starts ≡ starts' → caps ≡ caps' → CanGrow ws' starts' caps' (goal_of room caps') → CanGrow ws starts caps (goal_of room caps)
can_grow_by ws ws' starts starts' caps caps' room w s p h =
    let P : List ℕ → Type 0 = λ l. CanGrow l starts caps (goal_of room caps) in
    let Q : List ℕ → Type 0 = λ l. CanGrow ws' l caps (goal_of room caps) in
    let R : List ℕ → Type 0 = λ l. CanGrow ws' starts' l (goal_of room l) in
    subst P (sym w) (subst Q (sym s) (subst R (sym p) h))
