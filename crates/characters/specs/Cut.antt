-- What a contract sees of cutting: a list of numbers as items, each decided at the front of what is left.
use Prim.Native.Nat.{zero, suc}
use Rattle.std.specs.Prelude.{ℕ, List, [], ◌∷◌, Option, Some, None}

-- the items of a list, and what waits behind them
pub record Cut (K : Type 0) : Type 0 where
  pub items : List K
  pub rest : List ℕ

-- the first item of a list, and how many numbers behind the first one it takes; none where the list waits for more
abbrev pub First : Type 0 → Type 0
First K = List ℕ → Option (K × ℕ)

-- nothing is decided
abbrev pub waiting : {K : Type 0} → List ℕ → Cut K
waiting x = record { items = []; rest = x }

abbrev pub put_first : {K : Type 0} → K → Cut K → Cut K
put_first k cut = record { items = k ∷ cut.items; rest = cut.rest }

abbrev pub cut_by : {K : Type 0} → Option (K × ℕ) → List ℕ → (ℕ → Cut K) → Cut K
cut_by None x behind = waiting x
cut_by (Some taken) x behind = put_first taken.0 (behind taken.1)

-- the cut of a list whose first n numbers belong to an item before it
abbrev pub cut_behind : {K : Type 0} → First K → ℕ → List ℕ → Cut K
cut_behind first n [] = waiting []
cut_behind first (suc n) (c ∷ cs) = cut_behind first n cs
cut_behind first zero (c ∷ cs) = cut_by (first (c ∷ cs)) (c ∷ cs) (λ n. cut_behind first n cs)

-- the items of a list, one behind the other, and the rest that waits
abbrev pub cut_of : {K : Type 0} → First K → List ℕ → Cut K
cut_of first x = cut_behind first 0 x
