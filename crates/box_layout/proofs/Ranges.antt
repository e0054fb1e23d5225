-- Lists that are made from a range of numbers, with a part of them replaced.
use Prim.Native.Nat.{zero, suc}
use Rattle.std.proofs.Common.{◌≡◌, ℕ, ◌+◌, ◌≤◌, ◌<◌, List, [], ◌∷◌, ◌++◌, length, map, take, drop, get_or, refl, ap, ◌∙◌, arith}
use Rattle.std.specs.List.{range_with_len}
use Rattle.cell_grid.specs.declared.cell.Cell.{Cell}
use Rattle.cell_grid.specs.Grid.{blitted, row_at}
use Rattle.cell_grid.specs.Row.{laid_at}

pub map-same : {X : Type 0} (f g : ℕ → X) (from count : ℕ) → ((i : ℕ) → from ≤ i → i < from + count → f i ≡ g i) → map f (range_with_len from count) ≡ map g (range_with_len from count)
map-same f g from zero same = refl
map-same f g from (suc count) same =
    ap (λ first. first ∷ map f (range_with_len (from + 1) count)) (same from (omega arith) (omega arith))
    ∙ ap (λ rest. g from ∷ rest) (map-same f g (from + 1) count (λ i low high. same i (omega arith) (omega arith)))

-- other items in place of those from a place on
pub part-replaced : {X : Type 0} (f g : ℕ → X) (other : X) (from place count : ℕ) (part : List X) → place + length part ≤ count → ((i : ℕ) → from ≤ i → i < from + place → f i ≡ g i) → ((k i : ℕ) → k < length part → from + place + k ≡ i → get_or part k other ≡ g i) → ((i : ℕ) → from + place + length part ≤ i → i < from + count → f i ≡ g i) → take place (map f (range_with_len from count)) ++ part ++ drop (place + length part) (map f (range_with_len from count)) ≡ map g (range_with_len from count)
part-replaced f g other from zero count [] fits before here behind = map-same f g from count (λ i low high. behind i (omega arith) high)
part-replaced f g other from zero zero (first ∷ part) fits before here behind = absurd (omega arith)
part-replaced f g other from zero (suc count) (first ∷ part) fits before here behind =
    let rest = map f (range_with_len (from + 1) count) in
    let long : zero + length (first ∷ part) ≡ suc (zero + length part) = omega arith in
    ap (λ (n : ℕ). first ∷ part ++ drop n (f from ∷ rest)) long
    ∙ ap (λ items. first ∷ items) (
    part-replaced f g other (from + 1) zero count part (omega arith) (λ i low high. absurd (omega arith)) (λ k i within is. here (suc k) i (omega arith) (omega arith))
    (λ i low high. behind i (omega arith) (omega arith))
    )
    ∙ ap (λ item. item ∷ map g (range_with_len (from + 1) count)) (here zero from (omega arith) (omega arith))
part-replaced f g other from (suc place) zero part fits before here behind = absurd (omega arith)
part-replaced f g other from (suc place) (suc count) part fits before here behind =
    let rest = map f (range_with_len (from + 1) count) in
    let long : suc place + length part ≡ suc (place + length part) = omega arith in
    ap (λ (n : ℕ). f from ∷ take place rest ++ part ++ drop n (f from ∷ rest)) long
    ∙ ap (λ items. f from ∷ items) (
    part-replaced f g other (from + 1) place count part (omega arith) (λ i low high. before i (omega arith) (omega arith))
    (λ k i within is. here k i within (omega arith)) (λ i low high. behind i (omega arith) (omega arith))
    )
    ∙ ap (λ item. item ∷ map g (range_with_len (from + 1) count)) (before from (omega arith) (omega arith))

-- rows with those of a part laid over them
pub rows-blitted : (f g : ℕ → List Cell) (from place count col : ℕ) (part : List (List Cell)) → place + length part ≤ count → ((i : ℕ) → from ≤ i → i < from + place → f i ≡ g i) → ((k i : ℕ) → k < length part → from + place + k ≡ i → laid_at (f i) col (row_at part k) ≡ g i) → ((i : ℕ) → from + place + length part ≤ i → i < from + count → f i ≡ g i) → blitted (map f (range_with_len from count)) part place col ≡ map g (range_with_len from count)
rows-blitted f g from zero count col [] fits above here below = map-same f g from count (λ i low high. below i (omega arith) high)
rows-blitted f g from zero zero col (cells ∷ part) fits above here below = absurd (omega arith)
rows-blitted f g from zero (suc count) col (cells ∷ part) fits above here below =
    ap (λ (rows : List (List Cell)). laid_at (f from) col cells ∷ rows) (
    rows-blitted f g (from + 1) zero count col part (omega arith) (λ i low high. absurd (omega arith)) (λ k i within is. here (suc k) i (omega arith) (omega arith))
    (λ i low high. below i (omega arith) (omega arith))
    )
    ∙ ap (λ (row : List Cell). row ∷ map g (range_with_len (from + 1) count)) (here zero from (omega arith) (omega arith))
rows-blitted f g from (suc place) zero col part fits above here below = absurd (omega arith)
rows-blitted f g from (suc place) (suc count) col part fits above here below =
    ap (λ (rows : List (List Cell)). f from ∷ rows) (
    rows-blitted f g (from + 1) place count col part (omega arith) (λ i low high. above i (omega arith) (omega arith))
    (λ k i within is. here k i within (omega arith)) (λ i low high. below i (omega arith) (omega arith))
    )
    ∙ ap (λ (row : List Cell). row ∷ map g (range_with_len (from + 1) count)) (above from (omega arith) (omega arith))
