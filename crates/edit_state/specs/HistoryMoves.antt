-- What steps through the history make of an edit state.
use Rattle.std.specs.Prelude.{ℕ, None, if◌then◌else◌}
use Rattle.edit_buffer.specs.Moves.{can_go_back, gone_back, can_go_forward, gone_forward}
use Rattle.edit_state.specs.declared.states.EditState.{EditState}

-- up to so many lines back; on another line no column is kept
abbrev pub lines_back : EditState → ℕ → EditState
lines_back s count =
    if can_go_back s.buffer count then record s { buffer = gone_back s.buffer count; column = None } else s

-- up to so many lines forward
abbrev pub lines_forward : EditState → ℕ → EditState
lines_forward s count =
    if can_go_forward s.buffer count then record s { buffer = gone_forward s.buffer count; column = None } else s
