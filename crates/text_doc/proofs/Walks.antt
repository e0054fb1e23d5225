-- What a filter over a range gives, by what a walk along the range has met.
use Prim.Native.Nat.{zero, suc}
use Rattle.std.proofs.Common.{◌≡◌, ℕ, ◌+◌, ◌-◌, ◌<◌, ◌≤◌, Bool, true, false, cond, List, [], ◌∷◌, ◌++◌, length, reverse, Some, None, refl, sym, ap, ◌∙◌, arith, append_assoc, inl, inr}
use Rattle.std.specs.List.{range_with_len, filter, slice_get}
use Rattle.std.proofs.lemmas.List.{reverse-append, length-reverse, length-append}
use Rattle.std.proofs.lemmas.List.Elements.{filter-append}
use Rattle.std.proofs.lemmas.Bool.{cases_lt}
use Rattle.text_doc.specs.Places.{passing, first, last}

range_split : (a m n t b : ℕ) → m + n ≡ t → a + m ≡ b → range_with_len a t ≡ range_with_len a m ++ range_with_len b n
range_split a zero n t b e f =
    let et : t ≡ n = omega arith in
    let eb : b ≡ a = omega arith in
    rw (et, eb) refl
range_split a (suc m) n zero b e f = absurd (omega arith)
range_split a (suc m) n (suc t) b e f =
    ap (λ xs. a ∷ xs) (range_split (a + 1) m n t b (omega arith) (omega arith))

range_cons : (a t n : ℕ) → t ≡ n + 1 → range_with_len a t ≡ a ∷ range_with_len (a + 1) n
range_cons a zero n e = absurd (omega arith)
range_cons a (suc t) n e = let et : t ≡ n = omega arith in rw et refl

-- a range is parted at a place
pub passing_split : (p : ℕ → Bool) (a b i : ℕ) → a ≤ i → i ≤ b → passing p a b ≡ passing p a i ++ passing p i b
passing_split p a b i lo hi =
    ap (filter p) (range_split a (i - a) (b - i) (b - a) i (omega arith) (omega arith)) ∙ filter-append p (range_with_len a (i - a)) (range_with_len i (b - i))

-- the first place of a range passes or does not
pub passing_front : (p : ℕ → Bool) (i b : ℕ) → i < b → passing p i b ≡ cond (p i) (i ∷ passing p (i + 1) b) (passing p (i + 1) b)
passing_front p i b h = ap (filter p) (range_cons i (b - i) (b - (i + 1)) (omega arith))

none_of_len : (p : ℕ → Bool) (n a : ℕ) → ((k : ℕ) → a ≤ k → k < a + n → p k ≡ false) → filter p (range_with_len a n) ≡ []
none_of_len p zero a h = refl
none_of_len p (suc n) a h =
    let here : p a ≡ false = h a (omega arith) (omega arith) in
    rw here (none_of_len p n (a + 1) (λ k lo hi. h k (omega arith) (omega arith)))

-- where no place passes, the filter is empty
pub passing_none : (p : ℕ → Bool) (a b : ℕ) → ((k : ℕ) → a ≤ k → k < b → p k ≡ false) → passing p a b ≡ []
passing_none p a b h = none_of_len p (b - a) a (λ k lo hi. h k lo (omega arith))

-- a place that passes parts the filter
pub passing_at : (p : ℕ → Bool) (a b i : ℕ) → a ≤ i → i < b → p i ≡ true → passing p a b ≡ passing p a i ++ i ∷ passing p (i + 1) b
passing_at p a b i lo hi here =
    passing_split p a b i lo (omega arith)
    ∙ ap (λ xs. passing p a i ++ xs) (passing_front p i b hi ∙ ap (λ v. cond v (i ∷ passing p (i + 1) b) (passing p (i + 1) b)) here)

-- one more place at the end of a range
pub passing_back : (p : ℕ → Bool) (a i : ℕ) → a ≤ i → passing p a (i + 1) ≡ passing p a i ++ cond (p i) (i ∷ []) []
passing_back p a i lo =
    passing_split p a (i + 1) i lo (omega arith)
    ∙ ap (λ xs. passing p a i ++ xs) (passing_front p i (i + 1) (omega arith) ∙ ap (λ xs. cond (p i) (i ∷ xs) xs) (passing_none p (i + 1) (i + 1) (λ k from to. absurd (omega arith))))

length-if : (b : Bool) (i : ℕ) → length (cond b (i ∷ []) []) ≡ cond b 1 0
length-if true i = refl
length-if false i = refl

-- how many pass, with one more place behind
pub length-passing_back : (p : ℕ → Bool) (a i : ℕ) → a ≤ i → length (passing p a (i + 1)) ≡ length (passing p a i) + cond (p i) 1 0
length-passing_back p a i lo =
    rw (passing_back p a i lo, length-append (passing p a i) (cond (p i) (i ∷ []) []), length-if (p i) i) refl

-- how many pass, up to the last place that passes
pub length-passing_at : (p : ℕ → Bool) (a b i : ℕ) → a ≤ i → i < b → p i ≡ true → ((k : ℕ) → i < k → k < b → p k ≡ false) → length (passing p a b) ≡ length (passing p a i) + 1
length-passing_at p a b i lo hi here behind =
    let none : passing p (i + 1) b ≡ [] = passing_none p (i + 1) b (λ k from to. behind k (omega arith) to) in
    rw (passing_at p a b i lo hi here, none, length-append (passing p a i) (i ∷ [])) refl

-- no more pass in a part of a range
pub length-passing_le : (p : ℕ → Bool) (a b i : ℕ) → b ≤ i → length (passing p a b) ≤ length (passing p a i)
length-passing_le p a b i hi =
    elim (cases_lt b a) [
      | inl below ↦ (let none : passing p a b ≡ [] = passing_none p a b (λ k from to. absurd (omega arith)) in rw none (omega arith))
      | inr within ↦ rw (passing_split p a i b within hi, length-append (passing p a b) (passing p b i)) (omega arith)
    ]

seam : (xs : List ℕ) (y : ℕ) (ys : List ℕ) → slice_get (xs ++ y ∷ ys) (length xs) ≡ Some y
seam [] y ys = refl
seam (x ∷ xs) y ys = seam xs y ys

-- a place that passes behind `k` others is number `k`, from 0
pub nth_found : (p : ℕ → Bool) (a b i k : ℕ) → a ≤ i → i < b → p i ≡ true → length (passing p a i) ≡ k → Some i ≡ slice_get (passing p a b) k
nth_found p a b i k lo hi here count =
    rw (passing_at p a b i lo hi here, ← count) (sym (seam (passing p a i) i (passing p (i + 1) b)))

reverse_at : (xs : List ℕ) (y : ℕ) (ys : List ℕ) → reverse (xs ++ y ∷ ys) ≡ reverse ys ++ y ∷ reverse xs
reverse_at xs y ys =
    reverse-append xs (y ∷ ys)
    ∙ ap (λ zs. zs ++ reverse xs) (reverse-append (y ∷ []) ys)
    ∙ append_assoc (reverse ys) (y ∷ []) (reverse xs)

-- a place that passes before `k` others is number `k` from the end, from 0
pub nth_found_back : (p : ℕ → Bool) (a b i k : ℕ) → a ≤ i → i < b → p i ≡ true → length (passing p (i + 1) b) ≡ k → Some i ≡ slice_get (reverse (passing p a b)) k
nth_found_back p a b i k lo hi here count =
    let size : length (reverse (passing p (i + 1) b)) ≡ k = length-reverse (passing p (i + 1) b) ∙ count in
    rw (passing_at p a b i lo hi here, reverse_at (passing p a i) i (passing p (i + 1) b), ← size)
    (sym (seam (reverse (passing p (i + 1) b)) i (reverse (passing p a i))))

-- the first place that passes
pub first_found : (p : ℕ → Bool) (a b i : ℕ) → a ≤ i → i < b → p i ≡ true → ((k : ℕ) → a ≤ k → k < i → p k ≡ false) → Some i ≡ first (passing p a b)
first_found p a b i lo hi here before = nth_found p a b i 0 lo hi here (ap length (passing_none p a i before))

-- the last place that passes
pub last_found : (p : ℕ → Bool) (a b i : ℕ) → a ≤ i → i < b → p i ≡ true → ((k : ℕ) → i < k → k < b → p k ≡ false) → Some i ≡ last (passing p a b)
last_found p a b i lo hi here behind =
    nth_found_back p a b i 0 lo hi here (ap length (passing_none p (i + 1) b (λ k lo' hi'. behind k (omega arith) hi')))

-- no first place where none passes
pub first_none : (p : ℕ → Bool) (a b : ℕ) → ((k : ℕ) → a ≤ k → k < b → p k ≡ false) → None ≡ first (passing p a b)
first_none p a b h = rw (passing_none p a b h) refl

-- no last place where none passes
pub last_none : (p : ℕ → Bool) (a b : ℕ) → ((k : ℕ) → a ≤ k → k < b → p k ≡ false) → None ≡ last (passing p a b)
last_none p a b h = rw (passing_none p a b h) refl
