-- The argument of a command, and what it amounts to.
use Rattle.std.specs.Prelude.{ℕ, ◌+◌, ◌-◌, ◌*◌, max, Bool, true, false, List, [], ◌∷◌, ◌++◌, take, fold, nat_lt, Option, None, Some, if◌then◌else◌}
use Rattle.edit_state.specs.declared.arguments.Arg.{Arg}
use Rattle.edit_state.specs.declared.arguments.Amount.{Amount}
use Rattle.edit_state.specs.declared.arguments.Amount.TheVariants.{Forward, Backward}

-- the number that digits spell
abbrev pub number_of_digits : List ℕ → ℕ
number_of_digits digits = fold (λ number c. number * 10 + (c - 48)) 0 digits

-- a number from 1,000,000 on counts as 1
abbrev pub counted : ℕ → ℕ
counted number = if nat_lt number 1000000 then number else 1

-- minus zero is zero
abbrev pub backward : ℕ → Amount
backward number = if nat_lt 0 number then Backward number else Forward 0

-- a lone sign is -1
abbrev pub amount_by : Bool → List ℕ → Amount
amount_by false digits = Forward (counted (number_of_digits digits))
amount_by true [] = Backward 1
amount_by true (digit ∷ digits) = backward (counted (number_of_digits (digit ∷ digits)))

-- what an argument amounts to
abbrev pub amount_of : Arg → Amount
amount_of arg = amount_by arg.negative arg.digits

-- what is done where no argument is held is done once
abbrev pub amount_in : Option Arg → Amount
amount_in None = Forward 1
amount_in (Some arg) = amount_of arg

-- the amount the other way
abbrev pub turned : Amount → Amount
turned (Forward count) = Backward count
turned (Backward count) = Forward count

-- how often something is done that can't be done backward
abbrev pub times_of : Amount → ℕ
times_of (Forward count) = count
times_of (Backward count) = 0

-- how often something is done that is done at least once
abbrev pub count_of : Amount → ℕ
count_of amount = max (times_of amount) 1

-- the argument with one more digit: at most eight are kept
abbrev pub with_digit : Option Arg → ℕ → Arg
with_digit None digit = record { negative = false; digits = digit ∷ [] }
with_digit (Some arg) digit = record { negative = arg.negative; digits = take 8 (arg.digits ++ digit ∷ []) }
