use Rattle.std.proofs.Common.{ℕ, ◌<◌, List, length, get_or, sum, sym, ap, ◌∙◌, subst, arith}
use Rattle.std.proofs.lemmas.Grind.{common_steps}
use Rattle.layout_dims.specs.Turns.{AreWeights}
use Rattle.layout_dims.specs.Division.{Division}
use Rattle.layout_dims.proofs.Parts.{weights_are, can_grow_by, first_can_grow, preferred_sum, maxima_sum, maxima_above, division_between, division_filled}
use Rattle.layout_dims.proofs.room.divide.Goals as goal

pub run_stages-requires-clause-weights_in : goal.run_stages-requires-clause-weights_in
run_stages-requires-clause-weights_in c =
    subst AreWeights (sym (c.deref.ensures.value ∙ c.in_ok-weights.ensures)) (weights_are _ c.least_room.ensures.ordered)

pub run_stages-requires-clause-can_grow : goal.run_stages-requires-clause-can_grow
run_stages-requires-clause-can_grow c =
    let weights = c.deref.ensures.value ∙ c.in_ok-weights.ensures in
    let sizes = c.as_mut_slice-growing.ensures.value ∙ c.in_ok-sizes.ensures in
    let preferred = c.deref-2.ensures.value ∙ c.in_ok-preferred.ensures in
    can_grow_by _ _ _ _ _ _ c.args.room weights sizes preferred
    (first_can_grow c.args.parts.now c.args.room c.least_room.ensures.ordered (omega (arith, c.least_room.ensures.minima)) c.requires.room_in)

pub run_stages-requires-clause-ordered : goal.run_stages-requires-clause-ordered
run_stages-requires-clause-ordered c = λ i inside.
    let weights = ap length (c.deref.ensures.value ∙ c.in_ok-weights.ensures) in
    let preferred = ap (λ l. get_or l i 0) (c.deref-2.ensures.value ∙ c.in_ok-preferred.ensures) in
    let maxima = ap (λ l. get_or l i 0) (c.deref-3.ensures.value ∙ c.in_ok-maxima.ensures) in
    omega (arith, preferred, maxima, maxima_above c.args.parts.now c.least_room.ensures.ordered i (omega (arith, weights)))

pub run_stages-requires-clause-preferred_sum : goal.run_stages-requires-clause-preferred_sum
run_stages-requires-clause-preferred_sum c =
    let P : List ℕ → Type 0 = λ l. sum l < 4294967296 in
    subst P (sym (c.deref-2.ensures.value ∙ c.in_ok-preferred.ensures)) (preferred_sum _ c.requires.parts_in c.least_room.ensures.ordered)

pub run_stages-requires-clause-maxima_sum : goal.run_stages-requires-clause-maxima_sum
run_stages-requires-clause-maxima_sum c =
    let P : List ℕ → Type 0 = λ l. sum l < 4294967296 in
    subst P (sym (c.deref-3.ensures.value ∙ c.in_ok-maxima.ensures)) (maxima_sum _ c.requires.parts_in c.least_room.ensures.ordered)

pub returns-clause-between : goal.returns-clause-between
returns-clause-between c =
    let divided : Division c.args.parts.now c.args.room c.args.done c.from_vec.result = grind (arith, common_steps) in
    division_between _ _ _ _ c.least_room.ensures.ordered divided

pub returns-clause-filled : goal.returns-clause-filled
returns-clause-filled c =
    let divided : Division c.args.parts.now c.args.room c.args.done c.from_vec.result = grind (arith, common_steps) in
    division_filled _ _ _ _ divided
