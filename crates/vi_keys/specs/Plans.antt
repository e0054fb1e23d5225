-- What a command is to do, and what stands in each of its parts.
use Rattle.std.specs.Prelude.{ℕ, ◌*◌, ◌<◌, ◌≤◌, min, Option, None, Some}
use Rattle.std.specs.Option.{ForSome}
use Rattle.edit_state.specs.declared.states.EditState.{EditState}
use Rattle.edit_state.specs.declared.states.Done.{Done}
use Rattle.edit_state.specs.declared.vi_states.ViState.{ViState}
use Rattle.edit_state.specs.declared.vi_states.ViMode.{ViMode}
use Rattle.edit_state.specs.declared.vi_states.ViMode.TheVariants.{Insert}
use Rattle.edit_state.specs.declared.vi_states.Operator.{Operator}
use Rattle.edit_state.specs.declared.vi_states.Operator.TheVariants.{Delete, Change, Yank}
use Rattle.edit_state.specs.Arguments.{amount_in, count_of}
use Rattle.vi_keys.specs.declared.acts.Act.{Act}
use Rattle.vi_keys.specs.declared.acts.Act.TheVariants.{Stay}
use Rattle.vi_keys.specs.declared.acts.Marks.TheVariants.{Keep}
use Rattle.vi_keys.specs.declared.plans.Plan.{Plan}

-- an effect alone
abbrev pub plain : ViState → Act → Plan
plain v act = record { act = act; marks = Keep; vi = v; said = None }

-- an answer alone
abbrev pub answered : ViState → Done → Plan
answered v done = record { act = Stay; marks = Keep; vi = v; said = Some done }

-- how often something is done by the argument alone
abbrev pub counted : EditState → ℕ
counted s = count_of (amount_in s.arg)

abbrev pub multiplied : Option Operator → ℕ → ℕ → ℕ
multiplied None before count = count
multiplied (Some operator) before count = min 999999 (count * before)

-- how often a motion is made: the count before an operator counts too
abbrev pub count_for : EditState → ViState → ℕ
count_for s v = multiplied v.operator v.operator_count (counted s)

-- the count of a waiting operator is one that an argument can have
abbrev pub Counts : ViState → Type 0
Counts v = ForSome v.operator (λ operator. (0 < v.operator_count) × (v.operator_count ≤ 999999))

-- keys are read in this mode
abbrev pub in_mode : ViMode → ViState → ViState
in_mode mode v = record v { mode = mode }

-- no operator waits
abbrev pub ended : ViState → ViState
ended v = record v { operator = None }

-- what an operator leaves: after a change characters are inserted
abbrev pub left_by : Operator → ViState → ViState
left_by Delete v = ended v
left_by Change v = in_mode Insert (ended v)
left_by Yank v = ended v
