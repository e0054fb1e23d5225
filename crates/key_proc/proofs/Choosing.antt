-- Of a list, the last of those items than which none has a smaller rank.
use Rattle.std.proofs.Common.{◌≡◌, ℕ, ◌+◌, ◌-◌, ◌<◌, ◌≤◌, Bool, true, false, cond, ◌&&◌, ◌⊎◌, List, [], ◌∷◌, ◌++◌, length, Option, Some, None, refl, sym, ap, ◌∙◌, arith, append_assoc, inl, inr, ltb, leb}
use Rattle.std.specs.List.{filter, list_all, slice_get}
use Rattle.std.proofs.lemmas.List.{length-append}
use Rattle.std.proofs.lemmas.List.Elements.{filter-append}
use Rattle.std.proofs.lemmas.List.Folds.{list_all-append}
use Rattle.std.proofs.lemmas.Bool.{leb-true, ltb-true, le-leb, lt-ltb, lt-leb, le-ltb, cases_lt, and_parts}
use Rattle.std.proofs.lemmas.Option.{slice_get-get_or}
use Rattle.std.proofs.Math.Seq.{get_or-append_seam}

and_false : (a : Bool) → (a && false) ≡ false
and_false true = refl
and_false false = refl

list_all-weaker : {X : Type 0} (p q : X → Bool) → ((x : X) → p x ≡ true → q x ≡ true) → (xs : List X) → list_all p xs ≡ true → list_all q xs ≡ true
list_all-weaker p q to [] e = refl
list_all-weaker p q to (x ∷ xs) e =
    let both : (p x ≡ true) × (list_all p xs ≡ true) = and_parts (p x) (list_all p xs) e in
    rw (to x both.0) (list_all-weaker p q to xs both.1)

filter-none : {X : Type 0} (p q : X → Bool) → ((x : X) → q x ≡ true → p x ≡ false) → (xs : List X) → list_all q xs ≡ true → filter p xs ≡ []
filter-none p q to [] e = refl
filter-none p q to (x ∷ xs) e =
    let both : (q x ≡ true) × (list_all q xs ≡ true) = and_parts (q x) (list_all q xs) e in
    rw (to x both.0) (filter-none p q to xs both.1)

-- the items than which none has a smaller rank
abbrev pub least_of : {X : Type 0} → (X → ℕ) → List X → List X
least_of rank xs = filter (λ x. list_all (λ y. leb (rank x) (rank y)) xs) xs

-- the last of these
abbrev pub last_least : {X : Type 0} → (X → ℕ) → List X → Option X
last_least rank xs = slice_get (least_of rank xs) (length (least_of rank xs) - 1)

last_at : {X : Type 0} (xs : List X) (x : X) → slice_get (xs ++ x ∷ []) (length (xs ++ x ∷ []) - 1) ≡ Some x
last_at xs x =
    let size : length (xs ++ x ∷ []) ≡ length xs + 1 = length-append xs (x ∷ []) in
    let at : length (xs ++ x ∷ []) - 1 ≡ length xs = omega arith in
    rw at (slice_get-get_or (xs ++ x ∷ []) (length xs) x (omega arith) ∙ ap Some (get_or-append_seam xs x [] x))

-- an item parts a list: none before it has a smaller rank, and each behind it a greater one
pub record IsLast {X : Type 0} (rank : X → ℕ) (before : List X) (x : X) (after : List X) : Type 0 where
  pub earlier : list_all (λ y. leb (rank x) (rank y)) before ≡ true
  pub later : list_all (λ y. ltb (rank x) (rank y)) after ≡ true

from_lt : (a b : ℕ) → ltb a b ≡ true → leb a b ≡ true
from_lt a b e = le-leb a b (omega (arith, ltb-true a b e))

none_smaller : {X : Type 0} (rank : X → ℕ) (before : List X) (x : X) (after : List X) → IsLast rank before x after →
    list_all (λ y. leb (rank x) (rank y)) (before ++ x ∷ after) ≡ true
none_smaller rank before x after is =
    list_all-append (λ y. leb (rank x) (rank y)) before (x ∷ after)
    ∙ rw (is.earlier, le-leb (rank x) (rank x) (omega arith)) (list_all-weaker _ _ (λ y. from_lt (rank x) (rank y)) after is.later)

greater_fails : {X : Type 0} (rank : X → ℕ) (before : List X) (x : X) (after : List X) (y : X) → ltb (rank x) (rank y) ≡ true →
    list_all (λ z. leb (rank y) (rank z)) (before ++ x ∷ after) ≡ false
greater_fails rank before x after y e =
    list_all-append (λ z. leb (rank y) (rank z)) before (x ∷ after)
    ∙ rw (lt-leb (rank y) (rank x) (ltb-true (rank x) (rank y) e)) (and_false (list_all (λ z. leb (rank y) (rank z)) before))

-- such an item is the last of the least
pub last_least-is : {X : Type 0} (rank : X → ℕ) (before : List X) (x : X) (after : List X) → IsLast rank before x after →
    last_least rank (before ++ x ∷ after) ≡ Some x
last_least-is {X} rank before x after is =
    let all : List X = before ++ x ∷ after in
    let test : X → Bool = λ y. list_all (λ z. leb (rank y) (rank z)) all in
    let none : filter test after ≡ [] = filter-none test (λ y. ltb (rank x) (rank y)) (λ y e. greater_fails rank before x after y e) after is.later in
    let here : filter test (x ∷ after) ≡ x ∷ [] = rw (none_smaller rank before x after is, none) refl in
    let least : least_of rank all ≡ filter test before ++ x ∷ [] = filter-append test before (x ∷ after) ∙ ap (λ ys. filter test before ++ ys) here in
    rw least (last_at (filter test before) x)

-- the item that parts a list that is not empty
pub record Parted {X : Type 0} (rank : X → ℕ) (xs : List X) : Type 0 where
  pub before : List X
  pub item : X
  pub after : List X
  pub split : xs ≡ before ++ item ∷ after
  pub is : IsLast rank before item after

lesser : (a b c : ℕ) → a < b → leb b c ≡ true → ltb a c ≡ true
lesser a b c h e = lt-ltb a c (omega (arith, leb-true b c e))

at_most : (a b c : ℕ) → a ≤ b → leb b c ≡ true → leb a c ≡ true
at_most a b c h e = le-leb a c (omega (arith, leb-true b c e))

all_above : {X : Type 0} (rank : X → ℕ) (first : X) (xs : List X) (p : Parted rank xs) → rank first < rank p.item → list_all (λ y. ltb (rank first) (rank y)) xs ≡ true
all_above rank first xs p h =
    let all : list_all (λ y. leb (rank p.item) (rank y)) xs ≡ true = ap (list_all (λ y. leb (rank p.item) (rank y))) p.split ∙ none_smaller rank p.before p.item p.after p.is in
    list_all-weaker _ _ (λ y. lesser (rank first) (rank p.item) (rank y) h) xs all

parted_by : {X : Type 0} (rank : X → ℕ) (first : X) (xs : List X) (p : Parted rank xs) → (rank first < rank p.item) ⊎ (rank p.item ≤ rank first) → Parted rank (first ∷ xs)
parted_by rank first xs p (inl less) = record {
  before = [];
  item = first;
  after = xs;
  split = refl;
  is = record { earlier = refl; later = all_above rank first xs p less };
}
parted_by rank first xs p (inr more) = record {
  before = first ∷ p.before;
  item = p.item;
  after = p.after;
  split = ap (λ ys. first ∷ ys) p.split;
  is = record { earlier = rw (le-leb (rank p.item) (rank first) more) p.is.earlier; later = p.is.later };
}

parted_cons : {X : Type 0} (rank : X → ℕ) (first : X) (xs : List X) → (xs ≡ []) ⊎ Parted rank xs → Parted rank (first ∷ xs)
parted_cons rank first xs (inl none) = record {
  before = [];
  item = first;
  after = xs;
  split = refl;
  is = record { earlier = refl; later = ap (list_all (λ y. ltb (rank first) (rank y))) none };
}
parted_cons rank first xs (inr p) = parted_by rank first xs p (cases_lt (rank first) (rank p.item))

-- each list is empty or parted
pub parted : {X : Type 0} (rank : X → ℕ) (xs : List X) → (xs ≡ []) ⊎ Parted rank xs
parted rank [] = inl refl
parted rank (x ∷ xs) = inr (parted_cons rank x xs (parted rank xs))

-- the last of the least so far, or one more item behind
abbrev pub later_of : {X : Type 0} → (X → ℕ) → Option X → X → Option X
later_of rank None x = Some x
later_of rank (Some y) x = cond (ltb (rank y) (rank x)) (Some y) (Some x)

stays : {X : Type 0} (rank : X → ℕ) (xs : List X) (x : X) (p : Parted rank xs) → rank p.item < rank x → last_least rank (xs ++ x ∷ []) ≡ Some p.item
stays rank xs x p less =
    let same : xs ++ x ∷ [] ≡ p.before ++ p.item ∷ (p.after ++ x ∷ []) = ap (λ ys. ys ++ x ∷ []) p.split ∙ append_assoc p.before (p.item ∷ p.after) (x ∷ []) in
    let later : list_all (λ y. ltb (rank p.item) (rank y)) (p.after ++ x ∷ []) ≡ true =
    list_all-append (λ y. ltb (rank p.item) (rank y)) p.after (x ∷ []) ∙ rw (p.is.later, lt-ltb (rank p.item) (rank x) less) refl in
    rw same (last_least-is rank p.before p.item (p.after ++ x ∷ []) (record { earlier = p.is.earlier; later = later }))

yields : {X : Type 0} (rank : X → ℕ) (xs : List X) (x : X) (p : Parted rank xs) → rank x ≤ rank p.item → last_least rank (xs ++ x ∷ []) ≡ Some x
yields rank xs x p more =
    let all : list_all (λ y. leb (rank p.item) (rank y)) xs ≡ true = ap (list_all (λ y. leb (rank p.item) (rank y))) p.split ∙ none_smaller rank p.before p.item p.after p.is in
    last_least-is rank xs x [] (record { earlier = list_all-weaker _ _ (λ y. at_most (rank x) (rank p.item) (rank y) more) xs all; later = refl })

pushed_by : {X : Type 0} (rank : X → ℕ) (xs : List X) (x : X) (p : Parted rank xs) → (rank p.item < rank x) ⊎ (rank x ≤ rank p.item) →
    last_least rank (xs ++ x ∷ []) ≡ later_of rank (Some p.item) x
pushed_by rank xs x p (inl less) = stays rank xs x p less ∙ rw (lt-ltb (rank p.item) (rank x) less) refl
pushed_by rank xs x p (inr more) = yields rank xs x p more ∙ rw (le-ltb (rank p.item) (rank x) more) refl

pushed_on : {X : Type 0} (rank : X → ℕ) (xs : List X) (x : X) → (xs ≡ []) ⊎ Parted rank xs →
    last_least rank (xs ++ x ∷ []) ≡ later_of rank (last_least rank xs) x
pushed_on rank xs x (inl none) = rw none (last_least-is rank [] x [] (record { earlier = refl; later = refl }))
pushed_on rank xs x (inr p) =
    let now : last_least rank xs ≡ Some p.item = ap (last_least rank) p.split ∙ last_least-is rank p.before p.item p.after p.is in
    pushed_by rank xs x p (cases_lt (rank p.item) (rank x)) ∙ ap (λ o. later_of rank o x) (sym now)

-- one more item behind the others
pub last_least-push : {X : Type 0} (rank : X → ℕ) (xs : List X) (x : X) → last_least rank (xs ++ x ∷ []) ≡ later_of rank (last_least rank xs) x
last_least-push rank xs x = pushed_on rank xs x (parted rank xs)
