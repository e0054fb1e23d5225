-- Facts of lists: of what a filter keeps of a mapped list, and of elements at their places.
use Rattle.std.proofs.Common.{Bool, true, false, cond, ℕ, zero, suc, ◌≡◌, ◌+◌, ◌<◌, refl, sym, ap, List, [], ◌∷◌, map, filter, length, drop, drop-cons, add-one, get_or}

kept : {A B : Type 0} (v : A → B) (b : Bool) (x : A) (xs : List A) (ys : List B) → ys ≡ map v xs → cond b (v x ∷ ys) ys ≡ map v (cond b (x ∷ xs) xs)
kept v true x xs ys e = ap (λ l. v x ∷ l) e
kept v false x xs ys e = e

-- a filter of a mapped list maps what the filter keeps
pub filter_mapped : {A B : Type 0} (q : B → Bool) (v : A → B) (xs : List A) → filter q (map v xs) ≡ map v (filter (λ x. q (v x)) xs)
filter_mapped q v [] = refl
filter_mapped q v (x ∷ xs) = kept v (q (v x)) x (filter (λ y. q (v y)) xs) (filter q (map v xs)) (filter_mapped q v xs)

pub picked : {A : Type 0} (q : A → Bool) (x : A) (xs : List A) → q x ≡ true → filter q (x ∷ xs) ≡ x ∷ filter q xs
picked q x xs e = rw e refl

pub passed : {A : Type 0} (q : A → Bool) (x : A) (xs : List A) → q x ≡ false → filter q (x ∷ xs) ≡ filter q xs
passed q x xs e = rw e refl

-- what stands first behind so many elements
pub first_is : {A : Type 0} (xs : List A) (i : ℕ) (x : A) (ys : List A) → drop i xs ≡ x ∷ ys → (d : A) → get_or xs i d ≡ x
first_is [] zero x ys e d = cc
first_is [] (suc i) x ys e d = cc
first_is (z ∷ xs) zero x ys e d = cc
first_is (z ∷ xs) (suc i) x ys e d = first_is xs i x ys e d

pub next_is : {A : Type 0} (xs : List A) (i : ℕ) (x : A) → i < length xs → x ≡ get_or xs i x → drop i xs ≡ x ∷ drop (i + 1) xs
next_is xs i x h is = rw (add-one, drop-cons xs i x) (ap (λ y. y ∷ drop (suc i) xs) (sym is))
