-- How many turns each child has in the first rounds, and before a place of the order.

use Rattle.std.proofs.Common.{◌≡◌, ℕ, ◌+◌, ◌-◌, ◌*◌, ◌<◌, ◌≤◌, inl, inr, Bool, true, false, cond, eqb, ltb, List, [], ◌∷◌, ◌++◌, length, get_or, take, refl, sym, ap, ◌∙◌, arith, zero-add}
use Prim.Native.Nat.{zero, suc}
use Rattle.std.specs.List.{filter, count_by, flat_map, range_with_len}
use Rattle.std.proofs.lemmas.List.{append-nil, append_assoc, length-append, take_at, nil_from_length}
use Rattle.std.proofs.lemmas.List.Sums.{sum_by-cons, sum_by-append, sum_by_push, count_by-le-length}
use Rattle.std.proofs.lemmas.List.Elements.{filter-append}
use Rattle.std.proofs.lemmas.List.Concat.{flat_map-append}
use Rattle.std.proofs.lemmas.Bool.{cases_lt, cases_eq, ne_eqb, eq-eqb, lt-ltb, le-ltb}
use Rattle.std.proofs.Math.Nat.{le_of_mul-le-mul_right}
use Rattle.layout_dims.specs.Numbers.{greatest}
use Rattle.layout_dims.specs.Turns.{takes_turn, children_in, turn_order, turns, turns_before, turns_taken, AreWeights}
use Rattle.layout_dims.proofs.Rounds.{takes_turn_is, greatest_le, greatest_reached}

range_push : (a n j : ℕ) → a + n ≡ j → range_with_len a (suc n) ≡ range_with_len a n ++ j ∷ []
range_push a zero j e = let same : a ≡ j = omega arith in ap (λ k. k ∷ []) same
range_push a (suc n) j e = ap (λ l. a ∷ l) (range_push (a + 1) n j (omega arith))

-- the children from c on follow those below c
range_split : (a c d : ℕ) → range_with_len a (c + d) ≡ range_with_len a c ++ range_with_len (a + c) d
range_split a zero d =
    let here : a ≡ a + 0 = omega arith in
    ap (range_with_len a) (zero-add d) ∙ ap (λ n. range_with_len n d) here
range_split a (suc c) d =
    let on : suc c + d ≡ suc (c + d) = omega arith in
    let from : a + 1 + c ≡ a + suc c = omega arith in
    ap (range_with_len a) on ∙ ap (λ l. a ∷ l) (range_split (a + 1) c d)
    ∙ ap (λ n. a ∷ (range_with_len (a + 1) c ++ range_with_len n d)) from

count_cond : (q : ℕ → Bool) (b : Bool) (x : ℕ) (xs : List ℕ) → count_by q (cond b (x ∷ xs) xs) ≡ cond b (cond (q x) 1 0) 0 + count_by q xs
count_cond q true x xs = sum_by-cons (λ y. cond (q y) 1 0) x xs
count_cond q false x xs = sym (zero-add (count_by q xs))

skipped : (b c : Bool) (k n : ℕ) → c ≡ false → n ≡ k → cond b (cond c 1 0) 0 + n ≡ k
skipped true true k n e h = absurd (cc)
skipped true false k n e h = omega arith
skipped false c k n e h = omega arith

counted : (b c : Bool) (n : ℕ) → c ≡ true → n ≡ 0 → cond b (cond c 1 0) 0 + n ≡ cond b 1 0
counted true true n e h = omega arith
counted true false n e h = absurd (cc)
counted false c n e h = omega arith

count_outside : (p : ℕ → Bool) (a n i : ℕ) → i < a → count_by (λ c. eqb c i) (filter p (range_with_len a n)) ≡ 0
count_outside p a zero i h = refl
count_outside p a (suc n) i h =
    count_cond (λ c. eqb c i) (p a) a (filter p (range_with_len (a + 1) n))
    ∙ skipped (p a) (eqb a i) 0 _ (ne_eqb a i (λ e. omega arith)) (count_outside p (a + 1) n i (omega arith))

pub count_inside : (p : ℕ → Bool) (a n i : ℕ) → a ≤ i → i < a + n → count_by (λ c. eqb c i) (filter p (range_with_len a n)) ≡ cond (p i) 1 0
count_inside p a zero i above below = absurd (omega arith)
count_inside p a (suc n) i above below =
    count_cond (λ c. eqb c i) (p a) a (filter p (range_with_len (a + 1) n))
    ∙ elim (cases_eq a i) [
      | inl same ↦
          counted (p a) (eqb a i) _ (eq-eqb a i same) (count_outside p (a + 1) n i (omega arith))
          ∙ ap (λ k. cond (p k) 1 0) same
      | inr other ↦
          skipped (p a) (eqb a i) _ _ (ne_eqb a i other) (count_inside p (a + 1) n i (omega arith) (omega arith))
    ]

pub count_past : (p : ℕ → Bool) (a n i : ℕ) → a + n ≤ i → count_by (λ c. eqb c i) (filter p (range_with_len a n)) ≡ 0
count_past p a zero i past = refl
count_past p a (suc n) i past =
    count_cond (λ c. eqb c i) (p a) a (filter p (range_with_len (a + 1) n))
    ∙ skipped (p a) (eqb a i) 0 _ (ne_eqb a i (λ e. omega arith)) (count_past p (a + 1) n i (omega arith))

cond_le : (b : Bool) → cond b 1 0 ≤ 1
cond_le true = omega arith
cond_le false = omega arith

-- no child has two turns in one round
count_most : (p : ℕ → Bool) (a n i : ℕ) → count_by (λ c. eqb c i) (filter p (range_with_len a n)) ≤ 1
count_most p a zero i = omega arith
count_most p a (suc n) i =
    elim (cases_lt i a) [
      | inl below ↦ omega (arith, count_outside p a (suc n) i below)
      | inr above ↦ elim (cases_lt i (a + suc n)) [
        | inl within ↦ omega (arith, count_inside p a (suc n) i above within, cond_le (p i))
        | inr past ↦ omega (arith, count_past p a (suc n) i past)
      ]
    ]

-- a round's turns follow those of the rounds before it
pub order_more : (ws : List ℕ) (r : ℕ) → turn_order ws (suc r) ≡ turn_order ws r ++ children_in ws (r + 1)
unfolding turn_order
order_more ws r =
    ap (flat_map (children_in ws)) (range_push 1 r (r + 1) (omega arith))
    ∙ flat_map-append (children_in ws) (range_with_len 1 r) ((r + 1) ∷ [])
    ∙ ap (λ l. turn_order ws r ++ l) (append-nil (children_in ws (r + 1)))

pub order_longer : (ws : List ℕ) (r d : ℕ) → (rest : List ℕ) × (turn_order ws (r + d) ≡ turn_order ws r ++ rest)
order_longer ws r zero = ([], ap (turn_order ws) (omega arith) ∙ sym (append-nil (turn_order ws r)))
order_longer ws r (suc d) =
    let on : r + suc d ≡ suc (r + d) = omega arith in
    let before = order_longer ws r d in (
      before.0 ++ children_in ws (r + d + 1),
      ap (turn_order ws) on ∙ order_more ws (r + d)
          ∙ ap (λ l. l ++ children_in ws (r + d + 1)) before.1 ∙ append_assoc (turn_order ws r) before.0 (children_in ws (r + d + 1)),
    )

-- the turns of child i in the first r rounds
abbrev pub count_in : List ℕ → ℕ → ℕ → ℕ
count_in ws i r = count_by (λ c. eqb c i) (turn_order ws r)

abbrev pub HasShare : ℕ → ℕ → ℕ → ℕ → Type 0
HasShare m w r K = (r * w ≤ K * m) × (K * m < r * w + m)

share_more : (m w r K K' : ℕ) → w ≤ m → HasShare m w r K → K' ≡ K + cond (ltb (K * m) (r * w + w)) 1 0 → HasShare m w (suc r) K'
share_more m w r K K' le h e =
    elim (cases_lt (K * m) (r * w + w)) [
      | inl soon ↦ let at : K' ≡ K + 1 = e ∙ ap (λ b. K + cond b 1 0) (lt-ltb _ _ soon) in
          let grown : K' * m ≡ K * m + m = ap (λ n. n * m) at ∙ omega arith in (omega (arith, h.0), omega (arith, h.1))
      | inr late ↦ let at : K' ≡ K = e ∙ ap (λ b. K + cond b 1 0) (le-ltb _ _ late) ∙ omega arith in
          let same : K' * m ≡ K * m = ap (λ n. n * m) at in (omega (arith, h.0), omega (arith, h.1))
    ]

-- in each round a child has the turns of its share of the rounds, w for each m
pub share : (ws : List ℕ) (i r : ℕ) → i < length ws → 0 < get_or ws i 0 → HasShare (greatest ws) (get_or ws i 0) r (count_in ws i r)
unfolding turn_order
share ws i zero h pos = (omega arith, omega (arith, greatest_le ws i h))
share ws i (suc r) h pos =
    let m = greatest ws in
    let w = get_or ws i 0 in
    let p : ℕ → Bool = λ c. takes_turn m (get_or ws c 0) (r + 1) in
    let before = share ws i r h pos in
    let more : count_in ws i (suc r) ≡ count_in ws i r + count_by (λ c. eqb c i) (children_in ws (r + 1)) =
    ap (count_by (λ c. eqb c i)) (order_more ws r) ∙ sum_by-append (λ c. cond (eqb c i) 1 0) (turn_order ws r) (children_in ws (r + 1)) in
    let here : count_by (λ c. eqb c i) (children_in ws (r + 1)) ≡ cond (takes_turn m w (r + 1)) 1 0 =
    count_inside p 0 (length ws) i (omega arith) (omega arith) in
    let test : takes_turn m w (r + 1) ≡ ltb (count_in ws i r * m) (r * w + w) =
    takes_turn_is m w r (count_in ws i r) pos (greatest_le ws i h) before.0 before.1 in
    share_more m w r (count_in ws i r) (count_in ws i (suc r)) (greatest_le ws i h) before
    (more ∙ ap (λ n. count_in ws i r + n) (here ∙ ap (λ b. cond b 1 0) test))

-- no round is empty
pub rounds_le : (ws : List ℕ) (r : ℕ) → AreWeights ws → 0 < length ws → r ≤ length (turn_order ws r)
rounds_le ws r pos some =
    let top = greatest_reached ws some in
    let here = share ws top.0 r top.1 (pos.positive top.0 top.1) in
    let much : r * greatest ws ≤ count_in ws top.0 r * greatest ws = omega (arith, here.0, ap (λ n. r * n) top.2) in
    let above : 0 < greatest ws = omega (arith, pos.positive top.0 top.1, top.2) in
    let fits : r ≤ count_in ws top.0 r = le_of_mul-le-mul_right much above in
    omega (arith, count_by-le-length (λ c. eqb c top.0) (turn_order ws r))

-- the children with a turn in the round after r, among those below c
abbrev part : List ℕ → ℕ → ℕ → ℕ → List ℕ
part ws r a n = filter (λ i. takes_turn (greatest ws) (get_or ws i 0) (r + 1)) (range_with_len a n)

-- the first turns are those before a place, as many as there are
pub order_front : (ws : List ℕ) (r c : ℕ) → AreWeights ws → 0 < length ws → c ≤ length ws → take (turns_taken ws r c) (turn_order ws (turns_taken ws r c)) ≡ turns_before ws r c
unfolding turns_before turns_taken
order_front ws r c pos some le =
    let A = turn_order ws r in
    let B = part ws r 0 c in
    let T = length (A ++ B) in
    let long : T ≡ length A + length B = length-append A B in
    let rounds : r ≤ length A = rounds_le ws r pos some in
    elim (cases_eq (length B) 0) [
      | inl none ↦
          let empty : B ≡ [] = nil_from_length B none in
          let on : r + (T - r) ≡ T = omega arith in
          let longer = order_longer ws r (T - r) in
          ap (λ n. take T (turn_order ws n)) (sym on) ∙ ap (take T) longer.1 ∙ take_at A longer.0 T (omega arith)
          ∙ sym (append-nil A) ∙ ap (λ l. A ++ l) (sym empty)
      | inr others ↦
          let on : suc r + (T - suc r) ≡ T = omega arith in
          let longer = order_longer ws (suc r) (T - suc r) in
          let rest = part ws r c (length ws - c) in
          let whole : children_in ws (r + 1) ≡ B ++ rest =
          ap (λ n. part ws r 0 n) (omega arith) ∙ ap (filter (λ i. takes_turn (greatest ws) (get_or ws i 0) (r + 1))) (range_split 0 c (length ws - c))
          ∙ filter-append _ (range_with_len 0 c) (range_with_len (0 + c) (length ws - c)) ∙ ap (λ n. B ++ part ws r n (length ws - c)) (zero-add c) in
          let all : turn_order ws T ≡ (A ++ B) ++ (rest ++ longer.0) =
          ap (turn_order ws) (sym on) ∙ longer.1 ∙ ap (λ l. l ++ longer.0) (order_more ws r ∙ ap (λ l. A ++ l) whole ∙ sym (append_assoc A B rest))
          ∙ append_assoc (A ++ B) rest longer.0 in
          ap (take T) all ∙ take_at (A ++ B) (rest ++ longer.0) T refl
    ]

-- so a child's turns among them are its turns before the place
pub turns_at : (ws : List ℕ) (i r c : ℕ) → AreWeights ws → 0 < length ws → c ≤ length ws → turns ws i (turns_taken ws r c) ≡ count_by (λ k. eqb k i) (turns_before ws r c)
unfolding turns
turns_at ws i r c pos some le = ap (count_by (λ k. eqb k i)) (order_front ws r c pos some le)

-- one child further there is one more turn where this child has one
pub before_more : (ws : List ℕ) (r c : ℕ) → turns_before ws r (c + 1) ≡ turns_before ws r c ++ cond (takes_turn (greatest ws) (get_or ws c 0) (r + 1)) (c ∷ []) []
unfolding turns_before
before_more ws r c =
    let p : ℕ → Bool = λ i. takes_turn (greatest ws) (get_or ws i 0) (r + 1) in
    let on : c + 1 ≡ suc c = omega arith in
    ap (λ n. turn_order ws r ++ part ws r 0 n) on
    ∙ ap (λ l. turn_order ws r ++ filter p l) (range_push 0 c c (zero-add c))
    ∙ ap (λ l. turn_order ws r ++ l) (filter-append p (range_with_len 0 c) (c ∷ []))
    ∙ sym (append_assoc (turn_order ws r) (part ws r 0 c) (filter p (c ∷ [])))

-- behind the last child the next round begins
pub before_wrap : (ws : List ℕ) (r : ℕ) → turns_before ws (r + 1) 0 ≡ turns_before ws r (length ws)
unfolding turns_before
before_wrap ws r =
    let on : r + 1 ≡ suc r = omega arith in
    append-nil (turn_order ws (r + 1)) ∙ ap (turn_order ws) on ∙ order_more ws r

-- a place stands behind the rounds that are over, and no child has two turns in the round that it stands in
pub before_bounds : (ws : List ℕ) (i r c : ℕ) → (count_in ws i r ≤ count_by (λ k. eqb k i) (turns_before ws r c)) × (count_by (λ k. eqb k i) (turns_before ws r c) ≤ count_in ws i r + 1)
unfolding turns_before
before_bounds ws i r c =
    let sums = sum_by-append (λ k. cond (eqb k i) 1 0) (turn_order ws r) (part ws r 0 c) in
    let most : count_by (λ k. eqb k i) (part ws r 0 c) ≤ 1 = count_most (λ k. takes_turn (greatest ws) (get_or ws k 0) (r + 1)) 0 c i in
    (omega (arith, sums), omega (arith, sums, most))

-- one more turn of child c: one more turn in all, and one more of this child alone
pub record AddsTurn (ws : List ℕ) (T c T' : ℕ) : Type 0 where
  pub more : T' ≡ T + 1
  pub counts : (i : ℕ) → turns ws i T' ≡ turns ws i T + cond (eqb c i) 1 0

pub turn_added : (ws : List ℕ) (r c : ℕ) → AreWeights ws → c < length ws → takes_turn (greatest ws) (get_or ws c 0) (r + 1) ≡ true → AddsTurn ws (turns_taken ws r c) c (turns_taken ws r (c + 1))
unfolding turns_taken
turn_added ws r c pos h e =
    let longer : turns_before ws r (c + 1) ≡ turns_before ws r c ++ c ∷ [] = before_more ws r c ∙ ap (λ b. turns_before ws r c ++ cond b (c ∷ []) []) e in
    record {
      more = ap length longer ∙ length-append (turns_before ws r c) (c ∷ []);
      counts = λ i.
          turns_at ws i r (c + 1) pos (omega arith) (omega arith)
          ∙ ap (count_by (λ k. eqb k i)) longer ∙ sum_by_push (λ k. cond (eqb k i) 1 0) (turns_before ws r c) c
          ∙ ap (λ n. n + cond (eqb c i) 1 0) (sym (turns_at ws i r c pos (omega arith) (omega arith)));
    }

pub turn_skipped : (ws : List ℕ) (r c : ℕ) → takes_turn (greatest ws) (get_or ws c 0) (r + 1) ≡ false → turns_taken ws r (c + 1) ≡ turns_taken ws r c
unfolding turns_taken
turn_skipped ws r c e =
    ap length (before_more ws r c ∙ ap (λ b. turns_before ws r c ++ cond b (c ∷ []) []) e ∙ append-nil (turns_before ws r c))

pub round_over : (ws : List ℕ) (r : ℕ) → turns_taken ws (r + 1) 0 ≡ turns_taken ws r (length ws)
unfolding turns_taken
round_over ws r = ap length (before_wrap ws r)
