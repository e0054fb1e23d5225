-- Cutting a list in two pieces is cutting it whole.
use Prim.Native.Nat.{zero, suc}
use Rattle.std.proofs.Common.{◌≡◌, ℕ, ◌≤◌, List, [], ◌∷◌, ◌++◌, length, drop, Option, Some, None, refl, sym, ap, ◌∙◌, arith}
use Rattle.characters.specs.Cut.{Cut, First, waiting, put_first, cut_by, cut_behind, cut_of}

-- an item takes no more than there is, and what is decided stays decided
pub record IsStable {K : Type 0} (first : First K) : Type 0 where
  pub within : (c : ℕ) (cs : List ℕ) (k : K) (n : ℕ) → first (c ∷ cs) ≡ Some (k, n) → n ≤ length cs
  pub stays : (c : ℕ) (cs more : List ℕ) (k : K) (n : ℕ) → first (c ∷ cs) ≡ Some (k, n) → first (c ∷ cs ++ more) ≡ Some (k, n)

-- a cut with items before it
abbrev pub with_items : {K : Type 0} → List K → Cut K → Cut K
with_items front cut = record { items = front ++ cut.items; rest = cut.rest }

-- the cut of x, and then of its rest with y behind
abbrev pub cut_then : {K : Type 0} → First K → Cut K → List ℕ → Cut K
cut_then first cut y = with_items cut.items (cut_of first (cut.rest ++ y))

append_by : {K : Type 0} (first : First K) (c : ℕ) (cs y : List ℕ) → IsStable first
    → ((n : ℕ) → n ≤ length cs → cut_behind first n (cs ++ y) ≡ cut_then first (cut_behind first n cs) y)
    → (o : Option (K × ℕ)) → first (c ∷ cs) ≡ o → cut_of first (c ∷ cs ++ y) ≡ cut_then first (cut_of first (c ∷ cs)) y
append_by {K} first c cs y stable ih None e =
    let here : cut_of first (c ∷ cs) ≡ waiting (c ∷ cs) = ap (λ (o : Option (K × ℕ)). cut_by o (c ∷ cs) (λ n. cut_behind first n cs)) e in
    sym (ap (λ (t : Cut K). cut_then first t y) here)
append_by {K} first c cs y stable ih (Some taken) e =
    let here : cut_of first (c ∷ cs) ≡ put_first taken.0 (cut_behind first taken.1 cs) = ap (λ (o : Option (K × ℕ)). cut_by o (c ∷ cs) (λ n. cut_behind first n cs)) e in
    let all : cut_of first (c ∷ cs ++ y) ≡ put_first taken.0 (cut_behind first taken.1 (cs ++ y)) =
    ap (λ (o : Option (K × ℕ)). cut_by o (c ∷ cs ++ y) (λ n. cut_behind first n (cs ++ y))) (stable.stays c cs y taken.0 taken.1 e) in
    all ∙ ap (λ (t : Cut K). put_first taken.0 t) (ih taken.1 (stable.within c cs taken.0 taken.1 e)) ∙ sym (ap (λ (t : Cut K). cut_then first t y) here)

pub cut_behind-append : {K : Type 0} (first : First K) → IsStable first → (n : ℕ) (x y : List ℕ) → n ≤ length x
    → cut_behind first n (x ++ y) ≡ cut_then first (cut_behind first n x) y
cut_behind-append first stable zero [] y le = refl
cut_behind-append first stable (suc n) [] y le = absurd (omega arith)
cut_behind-append first stable zero (c ∷ cs) y le =
    append_by first c cs y stable (λ n within. cut_behind-append first stable n cs y within) (first (c ∷ cs)) refl
cut_behind-append first stable (suc n) (c ∷ cs) y le = cut_behind-append first stable n cs y (omega arith)

-- the law of cutting
pub cut-append : {K : Type 0} (first : First K) → IsStable first → (x y : List ℕ) → cut_of first (x ++ y) ≡ cut_then first (cut_of first x) y
cut-append first stable x y = cut_behind-append first stable 0 x y (omega arith)

-- a cut behind n numbers is the cut of what follows them
pub cut_behind-drop : {K : Type 0} (first : First K) (n : ℕ) (x : List ℕ) → cut_behind first n x ≡ cut_of first (drop n x)
cut_behind-drop first zero [] = refl
cut_behind-drop first (suc n) [] = refl
cut_behind-drop first zero (c ∷ cs) = refl
cut_behind-drop first (suc n) (c ∷ cs) = cut_behind-drop first n cs

-- one item off the front
pub cut-step : {K : Type 0} (first : First K) (c : ℕ) (cs : List ℕ) (k : K) (n : ℕ) → first (c ∷ cs) ≡ Some (k, n)
    → cut_of first (c ∷ cs) ≡ put_first k (cut_of first (drop n cs))
cut-step {K} first c cs k n e =
    ap (λ (o : Option (K × ℕ)). cut_by o (c ∷ cs) (λ m. cut_behind first m cs)) e ∙ ap (λ (t : Cut K). put_first k t) (cut_behind-drop first n cs)

pub cut-waits : {K : Type 0} (first : First K) (c : ℕ) (cs : List ℕ) → first (c ∷ cs) ≡ None → cut_of first (c ∷ cs) ≡ waiting (c ∷ cs)
cut-waits {K} first c cs e = ap (λ (o : Option (K × ℕ)). cut_by o (c ∷ cs) (λ m. cut_behind first m cs)) e

-- a rest is empty, or nothing is decided at its front
abbrev pub Waits : {K : Type 0} → First K → List ℕ → Type 0
Waits first [] = Unit {0}
Waits first (c ∷ cs) = first (c ∷ cs) ≡ None

rest_by : {K : Type 0} (first : First K) (c : ℕ) (cs : List ℕ) → ((n : ℕ) → Waits first (cut_behind first n cs).rest)
    → (o : Option (K × ℕ)) → first (c ∷ cs) ≡ o → Waits first (cut_by o (c ∷ cs) (λ n. cut_behind first n cs)).rest
rest_by first c cs ih None e = e
rest_by first c cs ih (Some taken) e = ih taken.1

pub Waits-cut_behind : {K : Type 0} (first : First K) (n : ℕ) (x : List ℕ) → Waits first (cut_behind first n x).rest
Waits-cut_behind first zero [] = tt
Waits-cut_behind first (suc n) [] = tt
Waits-cut_behind first zero (c ∷ cs) = rest_by first c cs (λ n. Waits-cut_behind first n cs) (first (c ∷ cs)) refl
Waits-cut_behind first (suc n) (c ∷ cs) = Waits-cut_behind first n cs

nil_by : {K : Type 0} (first : First K) → ((c : ℕ) (cs : List ℕ) → first (c ∷ cs) ≡ None → ⊥) → (r : List ℕ) → Waits first r → r ≡ []
nil_by first never [] w = refl
nil_by first never (c ∷ cs) w = absurd (never c cs w)

-- where each item is decided, nothing is left
pub rest-nil : {K : Type 0} (first : First K) → ((c : ℕ) (cs : List ℕ) → first (c ∷ cs) ≡ None → ⊥) → (n : ℕ) (x : List ℕ) → (cut_behind first n x).rest ≡ []
rest-nil first never n x = nil_by first never (cut_behind first n x).rest (Waits-cut_behind first n x)
