use Rattle.std.proofs.Common.{◌≡◌, ℕ, drop}
use Rattle.term_model.specs.Parameters.{numbers_from, capped}
use Rattle.term_model.proofs.numbers.first_number.Given as goal

-- some number stands for the digits so far, and the value is that number or the greatest that counts
abbrev pub invariant-loop-i : goal.invariant-loop-i
invariant-loop-i l =
    (whole : ℕ) × (l.value ≡ capped whole) × (numbers_from 0 l.params ≡ numbers_from whole (drop l.i l.params))
