-- From any line the steps forward reach the last one.
use Rattle.std.proofs.Common.{◌≡◌, ℕ, ◌-◌, ◌<◌, Bool, true, false, length, refl, arith}
use Rattle.std.proofs.lemmas.Bool.Decides.{nat_tests}
use Rattle.edit_buffer.specs.BufferState.{BufferState}
use Rattle.edit_buffer.specs.Moves.{can_go_back, can_go_forward}
use Rattle.edit_state.specs.declared.states.EditState.{EditState}
use Rattle.edit_state.specs.HistoryMoves.{lines_back, lines_forward}
use Rattle.edit_cmds.proofs.laws.end_of_history_is_newest.Goals as goal

-- so many lines, one of which is the present one
record HasLines (count : ℕ) (b : BufferState) : Type 0 where
  lines : length b.lines ≡ count
  within : b.index < count

back_by : (goes : Bool) (s : EditState) (count : ℕ) → can_go_back s.buffer count ≡ goes → s.buffer.index < length s.buffer.lines → HasLines (length s.buffer.lines) (lines_back s count).buffer
back_by true s count e within = rw e (record { lines = refl; within = omega arith })
back_by false s count e within = rw e (record { lines = refl; within = within })

forward_by : (goes : Bool) (t : EditState) (count : ℕ) → can_go_forward t.buffer count ≡ goes → HasLines count t.buffer → (lines_forward t count).buffer.index ≡ count - 1
forward_by true t count e here = rw e (omega arith)
forward_by false t count e here = let f : t.buffer.index ≡ count - 1 = grind (arith, nat_tests) in rw e f

pub returns : goal.returns
returns c = λ s is.
    let first = lines_back s s.buffer.index in
    forward_by (can_go_forward first.buffer (length s.buffer.lines)) first (length s.buffer.lines) refl (back_by (can_go_back s.buffer s.buffer.index) s s.buffer.index refl is.index)
