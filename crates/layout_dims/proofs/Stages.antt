-- How a stage begins, goes on by one place, and ends.

use Rattle.std.proofs.Common.{◌≡◌, ℕ, ◌+◌, ◌-◌, ◌*◌, ◌<◌, ◌≤◌, ◌⊎◌, inl, inr, Bool, true, false, cond, eqb, List, [], ◌∷◌, length, get_or, set, sum, refl, sym, ap, ◌∙◌, subst, arith}
use Prim.Native.Nat.{zero, suc, min}
use Rattle.std.proofs.lemmas.List.{length-set, get_or-set_same, get_or-set_other}
use Rattle.std.proofs.lemmas.List.Sums.{sum_by-cons, get_or-le-sum_by}
use Rattle.std.proofs.lemmas.List.FromFn.{fill_by_all, get_or-map-range_with_len, length-map-range_with_len}
use Rattle.std.proofs.lemmas.Bool.{cases_lt, cases_eq, ne_eqb, eq-eqb}
use Rattle.std.proofs.Math.Nat.{mul-le-mul_right}
use Rattle.layout_dims.specs.Numbers.{greatest}
use Rattle.layout_dims.specs.Turns.{takes_turn, turns, turns_taken, AreWeights}
use Rattle.layout_dims.specs.Division.{sizes_after, IsStage}
use Rattle.layout_dims.specs.Growth.{Grows, IsNext, CanGrow}
use Rattle.layout_dims.proofs.Orders.{AddsTurn, turn_added, turn_skipped, round_over, turns_at, before_bounds, share, count_in}

-- the size of one child after T turns
abbrev size_after : List ℕ → List ℕ → List ℕ → ℕ → ℕ → ℕ → ℕ
size_after ws starts caps from T i = min (get_or caps i 0) (get_or starts i 0 + (turns ws i T - turns ws i from))

sizes_from_each : (ws starts caps : List ℕ) (from T : ℕ) (sizes : List ℕ) → length sizes ≡ length ws → ((i : ℕ) → i < length ws → get_or sizes i 0 ≡ size_after ws starts caps from T i) → sizes ≡ sizes_after ws starts caps from T
unfolding sizes_after
sizes_from_each ws starts caps from T sizes long h = fill_by_all (size_after ws starts caps from T) sizes (length ws) 0 long h

pub each_from_sizes : (ws starts caps : List ℕ) (from T : ℕ) (sizes : List ℕ) → sizes ≡ sizes_after ws starts caps from T → (i : ℕ) → i < length ws → get_or sizes i 0 ≡ size_after ws starts caps from T i
unfolding sizes_after
each_from_sizes ws starts caps from T sizes e i h =
    ap (λ l. get_or l i 0) e ∙ get_or-map-range_with_len (size_after ws starts caps from T) 0 (length ws) i i 0 h (omega arith)

-- with no turn each size is its start
pub Grows-start : (ws starts caps : List ℕ) (T goal : ℕ) → CanGrow ws starts caps goal → Grows ws starts caps T T starts goal
Grows-start ws starts caps T goal can = record {
  one_each = can.one_start;
  not_before = omega arith;
  turns_rise = λ i. omega arith;
  after_turns = sizes_from_each ws starts caps T T starts can.one_start (λ i h. omega (arith, can.below_caps i h));
  short = λ t above below. absurd (omega arith);
}

Grows-same : (ws starts caps : List ℕ) (from T T' : ℕ) (sizes : List ℕ) (goal : ℕ) → T' ≡ T → Grows ws starts caps from T sizes goal → Grows ws starts caps from T' sizes goal
Grows-same ws starts caps from T T' sizes goal e h =
    let P : ℕ → Type 0 = λ t. Grows ws starts caps from t sizes goal in subst P (sym e) h

-- the turn of child c makes it one larger, or leaves it where it is at its cap
abbrev HasTurn : List ℕ → List ℕ → ℕ → List ℕ → Type 0
HasTurn caps sizes c sizes' =
    ((get_or sizes c 0 < get_or caps c 0) × (sizes' ≡ set sizes c (get_or sizes c 0 + 1)))
    ⊎ ((get_or caps c 0 ≤ get_or sizes c 0) × (sizes' ≡ sizes))

other_size : (cap start F T T' size : ℕ) (b : Bool) → b ≡ false → T' ≡ T + cond b 1 0 → size ≡ min cap (start + (T - F)) → size ≡ min cap (start + (T' - F))
other_size cap start F T T' size b e count h =
    let same : T' ≡ T = count ∙ ap (λ v. T + cond v 1 0) e ∙ omega arith in
    h ∙ ap (λ t. min cap (start + (t - F))) (sym same)

own_size : (cap start F T T' size size' : ℕ) (b : Bool) → b ≡ true → F ≤ T → T' ≡ T + cond b 1 0 → size ≡ min cap (start + (T - F)) → ((size < cap) × (size' ≡ size + 1)) ⊎ ((cap ≤ size) × (size' ≡ size)) → size' ≡ min cap (start + (T' - F))
own_size cap start F T T' size size' b e le count h turn =
    let more : T' ≡ T + 1 = count ∙ ap (λ v. T + cond v 1 0) e in
    elim turn [ inl grown ↦ omega arith | inr full ↦ omega arith ]

each_more : (ws starts caps : List ℕ) (from T T' c : ℕ) (sizes sizes' : List ℕ) (goal : ℕ) → length caps ≡ length ws → c < length ws → Grows ws starts caps from T sizes goal → AddsTurn ws T c T' → HasTurn caps sizes c sizes' → (i : ℕ) → i < length ws → get_or sizes' i 0 ≡ size_after ws starts caps from T' i
each_more ws starts caps from T T' c sizes sizes' goal long inside h adds turn i lt =
    let before = each_from_sizes ws starts caps from T sizes h.after_turns i lt in
    elim (cases_eq c i) [
      | inl same ↦
          let here : get_or sizes' i 0 ≡ get_or sizes' c 0 = ap (λ k. get_or sizes' k 0) (sym same) in
          let there : get_or sizes c 0 ≡ get_or sizes i 0 = ap (λ k. get_or sizes k 0) same in
          let cap : get_or caps c 0 ≡ get_or caps i 0 = ap (λ k. get_or caps k 0) same in
          own_size (get_or caps i 0) (get_or starts i 0) (turns ws i from) (turns ws i T) (turns ws i T') (get_or sizes i 0) (get_or sizes' i 0) (eqb c i) (eq-eqb c i same) (h.turns_rise i) (adds.counts i) before
          (elim turn [
            | inl grown ↦ inl (omega (arith, grown.0), here ∙ ap (λ l. get_or l c 0) grown.1 ∙ get_or-set_same sizes c _ 0 (omega (arith, h.one_each)) ∙ omega arith)
            | inr full ↦ inr (omega (arith, full.0), ap (λ l. get_or l i 0) full.1)
          ])
      | inr other ↦
          let kept : get_or sizes' i 0 ≡ get_or sizes i 0 = elim turn [
            | inl grown ↦ ap (λ l. get_or l i 0) grown.1 ∙ get_or-set_other sizes c i _ 0 (λ e. other (sym e))
            | inr full ↦ ap (λ l. get_or l i 0) full.1
          ] in
          kept ∙ other_size (get_or caps i 0) (get_or starts i 0) (turns ws i from) (turns ws i T) (turns ws i T') (get_or sizes i 0) (eqb c i) (ne_eqb c i other) (adds.counts i) before
    ]

Grows-turn : (ws starts caps : List ℕ) (from T T' c : ℕ) (sizes sizes' : List ℕ) (goal : ℕ) → length caps ≡ length ws → c < length ws → sum sizes < goal → Grows ws starts caps from T sizes goal → AddsTurn ws T c T' → HasTurn caps sizes c sizes' → Grows ws starts caps from T' sizes' goal
Grows-turn ws starts caps from T T' c sizes sizes' goal long inside less h adds turn =
    let keeps : length sizes' ≡ length ws = elim turn [
      | inl grown ↦ ap length grown.1 ∙ length-set sizes c _ ∙ h.one_each
      | inr full ↦ ap length full.1 ∙ h.one_each
    ] in
    record {
      one_each = keeps;
      not_before = omega (arith, h.not_before, adds.more);
      turns_rise = λ i. omega (arith, h.turns_rise i, adds.counts i);
      after_turns = sizes_from_each ws starts caps from T' sizes' keeps (each_more ws starts caps from T T' c sizes sizes' goal long inside h adds turn);
      short = λ t above below. elim (cases_lt t T) [
        | inl earlier ↦ h.short t above earlier
        | inr last ↦
            let now : t ≡ T = omega (arith, adds.more) in
            let same : sum (sizes_after ws starts caps from t) ≡ sum sizes = ap (λ n. sum (sizes_after ws starts caps from n)) now ∙ ap sum (sym h.after_turns) in
            omega arith
      ];
    }

-- the three things that can happen at a place
pub Grows-grown : (ws starts caps : List ℕ) (from r c : ℕ) (sizes : List ℕ) (goal : ℕ) → AreWeights ws → length caps ≡ length ws → c < length ws → sum sizes < goal → takes_turn (greatest ws) (get_or ws c 0) (r + 1) ≡ true → get_or sizes c 0 < get_or caps c 0 → Grows ws starts caps from (turns_taken ws r c) sizes goal → Grows ws starts caps from (turns_taken ws r (c + 1)) (set sizes c (get_or sizes c 0 + 1)) goal
Grows-grown ws starts caps from r c sizes goal weights long inside less e below h =
    Grows-turn ws starts caps from _ _ c sizes _ goal long inside less h (turn_added ws r c weights inside e) (inl (below, refl))

kept : (ws starts caps : List ℕ) (from r c : ℕ) (sizes : List ℕ) (goal : ℕ) → AreWeights ws → length caps ≡ length ws → c < length ws → sum sizes < goal → (takes_turn (greatest ws) (get_or ws c 0) (r + 1) ≡ false) ⊎ (get_or caps c 0 ≤ get_or sizes c 0) → Grows ws starts caps from (turns_taken ws r c) sizes goal → (b : Bool) → takes_turn (greatest ws) (get_or ws c 0) (r + 1) ≡ b → Grows ws starts caps from (turns_taken ws r (c + 1)) sizes goal
kept ws starts caps from r c sizes goal weights long inside less why h false e =
    Grows-same ws starts caps from _ _ sizes goal (turn_skipped ws r c e) h
kept ws starts caps from r c sizes goal weights long inside less why h true e =
    elim why [
      | inl none ↦ absurd (cc (none, e))
      | inr full ↦ Grows-turn ws starts caps from _ _ c sizes sizes goal long inside less h (turn_added ws r c weights inside e) (inr (full, refl))
    ]

pub Grows-kept : (ws starts caps : List ℕ) (from r c : ℕ) (sizes : List ℕ) (goal : ℕ) → AreWeights ws → length caps ≡ length ws → c < length ws → sum sizes < goal → (takes_turn (greatest ws) (get_or ws c 0) (r + 1) ≡ false) ⊎ (get_or caps c 0 ≤ get_or sizes c 0) → Grows ws starts caps from (turns_taken ws r c) sizes goal → Grows ws starts caps from (turns_taken ws r (c + 1)) sizes goal
Grows-kept ws starts caps from r c sizes goal weights long inside less why h =
    kept ws starts caps from r c sizes goal weights long inside less why h (takes_turn (greatest ws) (get_or ws c 0) (r + 1)) refl

pub Grows-wrap : (ws starts caps : List ℕ) (from r c : ℕ) (sizes : List ℕ) (goal : ℕ) → c ≡ length ws → Grows ws starts caps from (turns_taken ws r c) sizes goal → Grows ws starts caps from (turns_taken ws (r + 1) 0) sizes goal
Grows-wrap ws starts caps from r c sizes goal last h =
    Grows-same ws starts caps from _ _ sizes goal (round_over ws r ∙ ap (turns_taken ws r) (sym last)) h

-- where one sum is below another, so is some term
smaller_term : (xs ys : List ℕ) → length xs ≡ length ys → sum xs < sum ys → (i : ℕ) × (i < length xs) × (get_or xs i 0 < get_or ys i 0)
smaller_term [] [] e h = absurd (omega arith)
smaller_term [] (y ∷ ys) e h = absurd (omega arith)
smaller_term (x ∷ xs) [] e h = absurd (omega arith)
smaller_term (x ∷ xs) (y ∷ ys) e h =
    let left : sum (x ∷ xs) ≡ x + sum xs = sum_by-cons (λ n. n) x xs in
    let right : sum (y ∷ ys) ≡ y + sum ys = sum_by-cons (λ n. n) y ys in
    elim (cases_lt x y) [
      | inl here ↦ (zero, omega arith, here)
      | inr not_here ↦
          let found = smaller_term xs ys (omega arith) (omega arith) in
          (suc found.0, omega (arith, found.1), found.2)
    ]

far_enough : (m w r r0 K K0 : ℕ) → 0 < w → m ≤ 1000 → r * w ≤ K * m → K0 * m < r0 * w + m → K ≤ K0 + 1001 → r < r0 + 1002000
far_enough m w r r0 K K0 pos small low high near =
    let some : K * m ≤ (K0 + 1001) * m = mul-le-mul_right m near in
    elim (cases_lt r (r0 + 1002000)) [
      | inl below ↦ below
      | inr above ↦
          let much : (r0 + 1002000) * w ≤ r * w = mul-le-mul_right w above in
          absurd (omega arith)
    ]

-- a stage that is not over has not gone on for long: a child below its cap has grown with its share of the rounds
pub rounds_bounded : (ws starts caps : List ℕ) (r0 c0 r c : ℕ) (sizes : List ℕ) (goal : ℕ) → AreWeights ws → length caps ≡ length ws → c0 ≤ length ws → c ≤ length ws → sum sizes < sum caps → sum sizes ≤ 1000 → Grows ws starts caps (turns_taken ws r0 c0) (turns_taken ws r c) sizes goal → r < r0 + 1002000
rounds_bounded ws starts caps r0 c0 r c sizes goal weights long first_in last_in less small h =
    let child = smaller_term sizes caps (h.one_each ∙ sym long) less in
    let i = child.0 in
    let inside : i < length ws = omega (arith, child.1, h.one_each) in
    let pos = weights.positive i inside in
    let size = each_from_sizes ws starts caps _ _ sizes h.after_turns i inside in
    let within : get_or sizes i 0 ≤ sum sizes = get_or-le-sum_by (λ n. n) sizes i 0 child.1 in
    let now = turns_at ws i r c weights (omega arith) last_in in
    let then = turns_at ws i r0 c0 weights (omega arith) first_in in
    let low = before_bounds ws i r c in
    let high = before_bounds ws i r0 c0 in
    far_enough (greatest ws) (get_or ws i 0) r r0 (count_in ws i r) (count_in ws i r0) pos weights.small
    (share ws i r inside pos).0 (share ws i r0 inside pos).1
    (omega (arith, child.2, size, within, now, then, low.0, high.1))

-- a place further there is less to go
pub falls_by_place : (n R r c r' c' : ℕ) → c ≤ n → r < R → IsNext n r c r' c' → (R - r') * (n + 1) + (n - c') < (R - r) * (n + 1) + (n - c)
falls_by_place n R r c r' c' inside below next =
    elim next [
      | inl over ↦
          let left : R - r ≡ R - r' + 1 = omega (arith, over.1) in
          let product : (R - r) * (n + 1) ≡ (R - r') * (n + 1) + (n + 1) = ap (λ k. k * (n + 1)) left ∙ omega arith in
          omega (arith, over.0, over.2)
      | inr on ↦
          let same : (R - r') * (n + 1) ≡ (R - r) * (n + 1) = ap (λ k. (R - k) * (n + 1)) on.1 in
          omega (arith, on.0, on.2)
    ]

pub next_in : (n r c r' c' : ℕ) → IsNext n r c r' c' → (c' ≤ n) × (r' ≤ r + 1)
next_in n r c r' c' next =
    elim next [
      | inl over ↦ (omega (arith, over.2), omega (arith, over.1))
      | inr on ↦ (omega (arith, on.0, on.2), omega (arith, on.1))
    ]

-- there are as many sizes as weights
pub stage_long : (ws starts caps : List ℕ) (from goal T : ℕ) (sizes : List ℕ) → IsStage ws starts caps from goal T sizes → length sizes ≡ length ws
unfolding sizes_after
stage_long ws starts caps from goal T sizes h =
    ap length h.after_turns
    ∙ length-map-range_with_len (λ i. min (get_or caps i 0) (get_or starts i 0 + (turns ws i T - turns ws i from))) 0 (length ws)
