-- Steps taken one by one, and steps that lead nowhere.
use Rattle.std.proofs.Common.{◌≡◌, ℕ, ◌-◌, ◌<◌, refl, ap, sym, ◌∙◌, arith}
use Prim.Native.Nat.{zero, suc}
use Rattle.edit_state.specs.WordMoves.{stepped}

-- the first step, and then the others
pub stepped-first : (step : ℕ → ℕ) (count place : ℕ) → 0 < count → stepped step count place ≡ stepped step (count - 1) (step place)
stepped-first step zero place some = absurd (omega (arith, some))
stepped-first step (suc count) place some =
    let e : suc count - 1 ≡ count = omega arith in
    sym (ap (λ n. stepped step n (step place)) e)

-- a step that leads nowhere may be taken any number of times
pub stepped-stays : (step : ℕ → ℕ) (count place : ℕ) → step place ≡ place → stepped step count place ≡ place
stepped-stays step zero place stays = refl
stepped-stays step (suc count) place stays = ap (stepped step count) stays ∙ stepped-stays step count place stays

-- what is known of steps
pub ruleset steps = (stepped-first, stepped-stays)
