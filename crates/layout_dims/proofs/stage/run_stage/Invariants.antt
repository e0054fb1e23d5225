use Rattle.std.proofs.Common.{◌≡◌, ◌+◌, ◌-◌, ◌*◌, ◌≤◌, length, sum}
use Rattle.layout_dims.specs.Turns.{turns_taken}
use Rattle.layout_dims.specs.Growth.{Grows}
use Rattle.layout_dims.proofs.stage.run_stage.Given as goal

-- the sizes are those after the turns before this place, and the goal is not passed
abbrev pub invariant-loop-total : goal.invariant-loop-total
invariant-loop-total l = record {
  total : l.total ≡ sum l.sizes;
  within : l.total ≤ l.goal;
  place_in : l.place.child ≤ length l.weights;
  rounds_in : l.place.rounds ≤ l.fn.place.rounds + 1002000;
  grows : Grows l.weights l.fn.sizes l.caps (turns_taken l.weights l.fn.place.rounds l.fn.place.child) (turns_taken l.weights l.place.rounds l.place.child) l.sizes l.goal;
}

abbrev pub decreases-loop-total : goal.decreases-loop-total
decreases-loop-total l =
    (l.fn.place.rounds + 1002000 - l.place.rounds) * (length l.weights + 1) + (length l.weights - l.place.child)
