-- A list is the same with its first item at the end exactly where all its items are equal.
use Rattle.std.proofs.Common.{rules, ◌≡◌, ◌↔◌, ℕ, ◌+◌, ◌<◌, ◌≤◌, Bool, true, false, cond, List, [], ◌∷◌, ◌++◌, length, nat_lt, Some, refl, subst, arith}
use Rattle.std.proofs.lemmas.Grind.{common_steps}
use Rattle.std.proofs.lemmas.Bool.Decides.{nat_tests}
use Rattle.std.proofs.lemmas.List.Sums.{prefix_len-le-length}
use Rattle.std.specs.Prelude.{slice_get}
use Rattle.std.specs.List.{prefix_len}
use Rattle.edit_buffer.specs.declared.rings.Clip.{Clip}
use Rattle.edit_buffer.specs.Rings.{same_clip, rotated}

-- clips that are alike are one
alike_is : (one other : Clip) → (same_clip one other ≡ true) ↔ (one ≡ other)
alike_is one other = search (rules, common_steps)

by_test : (b : Bool) (m n : ℕ) (Q : Type 0) → (b ≡ true → (m ≡ n) ↔ Q) → (b ≡ false → (0 ≡ n) ↔ Q) → (cond b m 0 ≡ n) ↔ Q
by_test true m n Q passes stops = passes refl
by_test false m n Q passes stops = stops refl

-- as many items pass as there are exactly where the list is the same with another such item at its end as at its front
turned_same : (p : Clip → Bool) (x : Clip) → ((c : Clip) → (p c ≡ true) ↔ (x ≡ c)) → (xs : List Clip) → (prefix_len p xs ≡ length xs) ↔ (xs ++ x ∷ [] ≡ x ∷ xs)
turned_same p x same [] = (λ e. refl, λ e. refl)
turned_same p x same (y ∷ ys) =
    let rest = turned_same p x same ys in
    let passed : p y ≡ true → (1 + prefix_len p ys ≡ length (y ∷ ys)) ↔ (y ∷ (ys ++ x ∷ []) ≡ x ∷ y ∷ ys) = λ here.
    let e : x ≡ y = (same y).0 here in (
      λ all. let t = rest.0 (omega arith) in cc,
      λ turned. let t : prefix_len p ys ≡ length ys = rest.1 (cc) in omega arith,
    ) in
    let stopped : p y ≡ false → (0 ≡ length (y ∷ ys)) ↔ (y ∷ (ys ++ x ∷ []) ≡ x ∷ y ∷ ys) = λ here.
    (λ all. absurd (omega arith), λ turned. let e : x ≡ y = cc in let t = (same y).1 e in cc) in
    by_test (p y) (1 + prefix_len p ys) (length (y ∷ ys)) (y ∷ (ys ++ x ∷ []) ≡ x ∷ y ∷ ys) passed stopped

turns_first : (x : Clip) (xs : List Clip) → (nat_lt (prefix_len (same_clip x) (x ∷ xs)) (length (x ∷ xs)) ≡ false) ↔ (rotated (x ∷ xs) ≡ x ∷ xs)
turns_first x xs =
    let here : same_clip x x ≡ true = (alike_is x x).1 refl in
    let all = turned_same (same_clip x) x (alike_is x) xs in
    let most = prefix_len-le-length (same_clip x) xs in
    rw here (
      λ none. all.0 (grind (arith, nat_tests)),
      λ turned. let e = all.1 turned in grind (arith, nat_tests),
    )

-- a ring whose clips are all as the first one is as it was
pub turns_not : (clips : List Clip) (first : Clip) → slice_get clips 0 ≡ Some first → (nat_lt (prefix_len (same_clip first) clips) (length clips) ≡ false) ↔ (rotated clips ≡ clips)
turns_not [] first is = cc
turns_not (x ∷ xs) first is =
    let e : x ≡ first = cc in
    let P : Clip → Type 0 = λ f. (nat_lt (prefix_len (same_clip f) (x ∷ xs)) (length (x ∷ xs)) ≡ false) ↔ (rotated (x ∷ xs) ≡ x ∷ xs) in
    subst P e (turns_first x xs)

-- the first clip after a rotation of several clips, and of at most one
pub second_of_many : (clips : List Clip) → 1 < length clips → slice_get (rotated clips) 0 ≡ slice_get clips 1
second_of_many [] many = absurd (omega arith)
second_of_many (x ∷ []) many = absurd (omega arith)
second_of_many (x ∷ y ∷ clips) many = refl

pub second_of_one : (clips : List Clip) → length clips ≤ 1 → slice_get (rotated clips) 0 ≡ slice_get clips 0
second_of_one [] one = refl
second_of_one (x ∷ []) one = refl
second_of_one (x ∷ y ∷ clips) one = absurd (omega (arith, one))
