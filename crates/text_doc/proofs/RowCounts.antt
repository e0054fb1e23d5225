-- How many line feeds a walk has met.
use Rattle.std.proofs.Common.{◌≡◌, ℕ, ◌+◌, ◌<◌, cond, List, length, take, get_or, eqb}
use Rattle.std.specs.List.{count_by}
use Rattle.std.proofs.lemmas.List.Sums.{sum_by_more}

-- one more character
pub row_counts : (text : List ℕ) (place : ℕ) → place < length text → count_by (λ c. eqb c 10) (take (place + 1) text) ≡ count_by (λ c. eqb c 10) (take place text) + cond (eqb (get_or text place 0) 10) 1 0
row_counts text place within = sum_by_more (λ c. cond (eqb c 10) 1 0) text place 0 within
