-- Children of equal weights have as many turns, or one more for those that come first.

use Rattle.std.proofs.Common.{◌≡◌, ℕ, ◌+◌, ◌-◌, ◌*◌, ◌/◌, ◌%◌, ◌<◌, ◌≤◌, inl, inr, Bool, true, cond, eqb, ltb, List, length, get_or, sym, ap, ◌∙◌, arith}
use Prim.Native.Nat.{zero, suc}
use Rattle.std.specs.List.{filter, count_by, range_with_len}
use Rattle.std.proofs.lemmas.List.Sums.{sum_by-append}
use Rattle.std.proofs.lemmas.Nat.{le-div}
use Rattle.std.proofs.lemmas.Bool.{cases_lt, lt-ltb, le-ltb, or_left, eq-eqb}
use Rattle.std.proofs.Math.Nat.{div-mul-le_self, le_of_mul-le-mul_right, mul-le-mul_right, mul-mod_left}
use Rattle.layout_dims.specs.Numbers.{greatest}
use Rattle.layout_dims.specs.Turns.{round_of, takes_turn, turn_order, turns, turns_taken, turns_before, AreWeights}
use Rattle.layout_dims.specs.Division.{IsStage}
use Rattle.layout_dims.specs.Fairness.{AreEqual, IsFair}
use Rattle.layout_dims.proofs.Rounds.{greatest_reached, takes_turn_by_rest}
use Rattle.layout_dims.proofs.Orders.{share, count_in, turns_at, turn_added, round_over, count_inside, count_past}
use Rattle.layout_dims.proofs.Stages.{each_from_sizes, stage_long}
use Rattle.layout_dims.proofs.Parts.{none_taken}

pub later_round : (m w k : ℕ) → 0 < w → w ≤ m → 1 ≤ k → round_of m w k < round_of m w (k + 1)
later_round m w k pos le one =
    let q = (k - 1) * m / w in
    let under : q * w ≤ (k - 1) * m = div-mul-le_self ((k - 1) * m) w in
    let on : k + 1 - 1 ≡ k - 1 + 1 = omega arith in
    let more : (k + 1 - 1) * m ≡ (k - 1) * m + m = ap (λ n. n * m) on ∙ omega arith in
    let step : (q + 1) * w ≤ (k + 1 - 1) * m = omega arith in
    omega (arith, le-div (q + 1) ((k + 1 - 1) * m) w pos step)

-- a multiple between two neighbouring multiples
same_multiple : (m r K : ℕ) → 0 < m → r * m ≤ K * m → K * m < r * m + m → K ≡ r
same_multiple m r K pos low high =
    let one : r ≤ K = le_of_mul-le-mul_right low pos in
    elim (cases_lt K (r + 1)) [
      | inl below ↦ omega arith
      | inr above ↦ let much : (r + 1) * m ≤ K * m = mul-le-mul_right m above in absurd (omega arith)
    ]

top_weight : (ws : List ℕ) → AreEqual ws → (i : ℕ) → i < length ws → get_or ws i 0 ≡ greatest ws
top_weight ws equal i h =
    let top = greatest_reached ws (omega arith) in
    equal.same i top.0 h top.1 ∙ top.2

-- with equal weights each child has one turn in each round
always : (ws : List ℕ) (r i : ℕ) → AreWeights ws → AreEqual ws → i < length ws → takes_turn (greatest ws) (get_or ws i 0) (r + 1) ≡ true
always ws r i weights equal h =
    let pos = weights.positive i h in
    let top = top_weight ws equal i h in
    let m = greatest ws in
    let share : r * get_or ws i 0 % m ≡ 0 = ap (λ n. r * n % m) top ∙ mul-mod_left r m in
    takes_turn_by_rest m (get_or ws i 0) r pos (omega arith) ∙ or_left _ _ (eq-eqb _ 0 share)

-- the turns are those of r rounds, and of the children below c in the next
pub record EvenAt (ws : List ℕ) (T r c : ℕ) : Type 0 where
  pub taken : turns_taken ws r c ≡ T
  pub inside : c ≤ length ws

next_even : (ws : List ℕ) (T r c : ℕ) → AreWeights ws → AreEqual ws → c < length ws → turns_taken ws r c ≡ T → EvenAt ws (suc T) r (c + 1)
next_even ws T r c weights equal below e =
    let added = turn_added ws r c weights below (always ws r c weights equal below) in
    record { taken = omega (arith, added.more); inside = omega arith }

even_at : (ws : List ℕ) (T : ℕ) → AreWeights ws → AreEqual ws → 0 < length ws → (r : ℕ) × (c : ℕ) × EvenAt ws T r c
even_at ws zero weights equal some = (0, 0, record { taken = none_taken ws; inside = omega arith })
even_at ws (suc T) weights equal some =
    let before = even_at ws T weights equal some in
    let r = before.0 in
    let c = before.1 in
    elim (cases_lt c (length ws)) [
      | inl below ↦ (r, c + 1, next_even ws T r c weights equal below before.2.taken)
      | inr last ↦
          let end : length ws ≡ c = omega (arith, before.2.inside) in
          (r + 1, 0 + 1, next_even ws T (r + 1) 0 weights equal some (round_over ws r ∙ ap (turns_taken ws r) end ∙ before.2.taken))
    ]

rounds_each : (ws : List ℕ) (r i : ℕ) → AreWeights ws → AreEqual ws → i < length ws → count_in ws i r ≡ r
rounds_each ws r i weights equal h =
    let pos = weights.positive i h in
    let top = top_weight ws equal i h in
    let product : r * get_or ws i 0 ≡ r * greatest ws = ap (λ n. r * n) top in
    let both = share ws i r h pos in
    same_multiple (greatest ws) r (count_in ws i r) (omega arith) (omega (arith, both.0)) (omega (arith, both.1))

turns_even : (ws : List ℕ) (r c i : ℕ) → AreWeights ws → AreEqual ws → c ≤ length ws → i < length ws → turns ws i (turns_taken ws r c) ≡ r + cond (ltb i c) 1 0
unfolding turns_before
turns_even ws r c i weights equal inside h =
    let p : ℕ → Bool = λ k. takes_turn (greatest ws) (get_or ws k 0) (r + 1) in
    let some : 0 < length ws = omega arith in
    let here : count_by (λ k. eqb k i) (filter p (range_with_len 0 c)) ≡ cond (ltb i c) 1 0 =
    elim (cases_lt i c) [
      | inl below ↦ count_inside p 0 c i (omega arith) (omega arith) ∙ ap (λ b. cond b 1 0) (always ws r i weights equal h ∙ sym (lt-ltb i c below))
      | inr past ↦ count_past p 0 c i (omega arith) ∙ ap (λ b. cond b 1 0) (sym (le-ltb i c past))
    ] in
    turns_at ws i r c weights some inside
    ∙ sum_by-append (λ k. cond (eqb k i) 1 0) (turn_order ws r) (filter p (range_with_len 0 c))
    ∙ ap (λ n. n + count_by (λ k. eqb k i) (filter p (range_with_len 0 c))) (rounds_each ws r i weights equal h)
    ∙ ap (λ n. r + n) here

near_counts : (a b r c i j : ℕ) → a ≡ r + cond (ltb i c) 1 0 → b ≡ r + cond (ltb j c) 1 0 → i ≤ j → (b ≤ a) × (a ≤ b + 1)
near_counts a b r c i j e f order =
    elim (cases_lt j c) [
      | inl both ↦
          let first : a ≡ r + 1 = e ∙ ap (λ v. r + cond v 1 0) (lt-ltb i c (omega arith)) in
          let second : b ≡ r + 1 = f ∙ ap (λ v. r + cond v 1 0) (lt-ltb j c both) in
          (omega arith, omega arith)
      | inr past ↦
          let second : b ≡ r + 0 = f ∙ ap (λ v. r + cond v 1 0) (le-ltb j c past) in
          elim (cases_lt i c) [
            | inl early ↦ let first : a ≡ r + 1 = e ∙ ap (λ v. r + cond v 1 0) (lt-ltb i c early) in (omega arith, omega arith)
            | inr late ↦ let first : a ≡ r + 0 = e ∙ ap (λ v. r + cond v 1 0) (le-ltb i c late) in (omega arith, omega arith)
          ]
    ]

-- of two children the later one has no more turns, and at most one fewer
near_turns : (ws : List ℕ) (T i j : ℕ) → AreWeights ws → AreEqual ws → i < length ws → j < length ws → i ≤ j → (turns ws j T ≤ turns ws i T) × (turns ws i T ≤ turns ws j T + 1)
near_turns ws T i j weights equal hi hj order =
    let place = even_at ws T weights equal (omega arith) in
    near_counts (turns ws i T) (turns ws j T) place.0 place.1 i j
    (sym (ap (turns ws i) place.2.taken) ∙ turns_even ws place.0 place.1 i weights equal place.2.inside hi)
    (sym (ap (turns ws j) place.2.taken) ∙ turns_even ws place.0 place.1 j weights equal place.2.inside hj)
    order

pub stage_fair : (ws starts caps : List ℕ) (from goal T : ℕ) (sizes : List ℕ) → AreWeights ws → AreEqual ws → IsStage ws starts caps from goal T sizes → IsFair starts caps sizes
stage_fair ws starts caps from goal T sizes weights equal h =
    let long = stage_long ws starts caps from goal T sizes h in
    record {
      near = λ i j li lj bi bj.
          let hi : i < length ws = omega arith in
          let hj : j < length ws = omega arith in
          let one = each_from_sizes ws starts caps from T sizes h.after_turns i hi in
          let two = each_from_sizes ws starts caps from T sizes h.after_turns j hj in
          elim (cases_lt i j) [
            | inl before ↦
                let now = near_turns ws T i j weights equal hi hj (omega arith) in
                let then = near_turns ws from i j weights equal hi hj (omega arith) in
                omega (arith, now.0, now.1, then.0, then.1)
            | inr behind ↦
                let now = near_turns ws T j i weights equal hj hi behind in
                let then = near_turns ws from j i weights equal hj hi behind in
                omega (arith, now.0, now.1, then.0, then.1)
          ];
    }
