use Rattle.std.proofs.Common.{◌≡◌, ◌-◌, ◌≤◌, length, drop}
use Rattle.vt_input.specs.Taken.{given_with}
use Rattle.vt_input.proofs.cutter.Cutter.cut.Given as goal

abbrev pub invariant-loop-at : goal.invariant-loop-at
invariant-loop-at l = record {
  within : l.at ≤ length l.text;
  so_far : given_with l.rows l.flush l.self (drop l.at l.text) ≡ given_with l.rows l.flush l.initial.self l.text;
}

abbrev pub decreases-loop-at : goal.decreases-loop-at
decreases-loop-at l = length l.text - l.at
