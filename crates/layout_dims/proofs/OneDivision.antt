-- A room has one division, and none where it is less than the sum of the minima.

use Rattle.std.proofs.Common.{◌≡◌, ℕ, ◌≤◌, inl, inr, Bool, true, false, List, sum, All, sym, ap, ◌∙◌, subst, arith}
use Rattle.std.proofs.lemmas.Bool.{cases_lt}
use Rattle.layout_dims.specs.Numbers.{Numbers, IsDimension}
use Rattle.layout_dims.specs.Division.{minima_of, goal_of, sizes_after, IsStage, EndsWith, Division}
use Rattle.layout_dims.proofs.Parts.{sum_le, division_between, division_filled}

-- a number of turns whose sizes have the sum is not below the least one
not_sooner : (ws starts caps : List ℕ) (from goal T T' : ℕ) (sizes sizes' : List ℕ) → IsStage ws starts caps from goal T sizes → IsStage ws starts caps from goal T' sizes' → T' ≤ T
not_sooner ws starts caps from goal T T' sizes sizes' h h' =
    elim (cases_lt T T') [
      | inl below ↦ absurd (h'.least T h.not_before below (ap sum (sym h.after_turns) ∙ h.reached))
      | inr above ↦ above
    ]

-- a stage ends after one number of turns
pub one_end : (ws starts caps : List ℕ) (from goal T T' : ℕ) (sizes sizes' : List ℕ) → IsStage ws starts caps from goal T sizes → IsStage ws starts caps from goal T' sizes' → T ≡ T'
one_end ws starts caps from goal T T' sizes sizes' h h' =
    let low = not_sooner ws starts caps from goal T T' sizes sizes' h h' in
    let high = not_sooner ws starts caps from goal T' T sizes' sizes h' h in
    omega (arith, low, high)

-- and with one list of sizes
pub one_stage : (ws starts caps : List ℕ) (from goal T T' : ℕ) (sizes sizes' : List ℕ) → IsStage ws starts caps from goal T sizes → IsStage ws starts caps from goal T' sizes' → sizes ≡ sizes'
one_stage ws starts caps from goal T T' sizes sizes' h h' =
    h.after_turns ∙ ap (sizes_after ws starts caps from) (one_end ws starts caps from goal T T' sizes sizes' h h') ∙ sym h'.after_turns

one_ending : (done : Bool) (ws maxima : List ℕ) (room U : ℕ) (first sizes sizes' : List ℕ) → EndsWith done ws maxima room U first sizes → EndsWith done ws maxima room U first sizes' → sizes ≡ sizes'
one_ending true ws maxima room U first sizes sizes' e e' = e ∙ sym e'
one_ending false ws maxima room U first sizes sizes' e e' =
    one_stage ws first maxima U (goal_of room maxima) e.0 e'.0 sizes sizes' e.1 e'.1

pub one_division : (parts : List Numbers) (room : ℕ) (done : Bool) (sizes sizes' : List ℕ) → Division parts room done sizes → Division parts room done sizes' → sizes ≡ sizes'
one_division parts room done sizes sizes' h h' =
    let turns : h'.U ≡ h.U = one_end _ _ _ _ _ _ _ _ _ h'.first_stage h.first_stage in
    let first : h'.first ≡ h.first = one_stage _ _ _ _ _ _ _ _ _ h'.first_stage h.first_stage in
    one_ending done _ _ room h.U h.first sizes sizes' h.ends
    (subst (λ (l : List ℕ). EndsWith done _ _ room h.U l sizes') first (subst (λ (n : ℕ). EndsWith done _ _ room n h'.first sizes') turns h'.ends))

-- the sizes are at least the minima and their sum is at most the room
pub room_enough : (parts : List Numbers) (room : ℕ) (done : Bool) (sizes : List ℕ) → All IsDimension parts → Division parts room done sizes → sum (minima_of parts) ≤ room
room_enough parts room done sizes all h =
    let between = division_between parts room done sizes all h in
    let sums : sum (minima_of parts) ≤ sum sizes = sum_le (minima_of parts) sizes (sym between.one_each) (λ i lt. between.above i (omega (arith, between.one_each))) in
    omega (arith, sums, division_filled parts room done sizes h)
