-- What every command leaves behind beside what its row does.
use Rattle.std.specs.Prelude.{◌≡◌, ℕ, Bool, true, false, Option, None, Some}
use Rattle.edit_state.specs.declared.states.EditState.{EditState}
use Rattle.edit_state.specs.declared.states.Done.{Done}
use Rattle.edit_state.specs.declared.states.Done.TheVariants.{Changed, Same, Bell, StartComplete, Accept, Interrupt, EndOfFile}
use Rattle.edit_cmds.specs.declared.leaving.Keeps.{Keeps}

-- a part that is not kept is dropped
abbrev pub kept_if : {X : Type 0} → Bool → Option X → Option X
kept_if true part = part
kept_if false part = None

-- the state with the parts that a command keeps
abbrev pub keeping : Keeps → EditState → EditState
keeping keeps s = record s {
  arg = kept_if keeps.argument s.arg;
  column = kept_if keeps.column s.column;
  before_paste = kept_if keeps.paste s.before_paste;
}

-- the state behind a command with this number, after its row
abbrev pub left_behind : ℕ → Keeps → EditState → EditState
left_behind number keeps s = record (keeping keeps s) { previous = Some number }

-- the later state but for the command that ran last
abbrev pub beside_previous : EditState → EditState → EditState
beside_previous before after = record after { previous = before.previous }

abbrev pub changed_for_same : Done → Done
changed_for_same Same = Changed
changed_for_same Changed = Changed
changed_for_same Bell = Bell
changed_for_same StartComplete = StartComplete
changed_for_same Accept = Accept
changed_for_same Interrupt = Interrupt
changed_for_same EndOfFile = EndOfFile

-- the answer of a row, or that something changed where something is dropped
abbrev pub answer_with : Bool → Done → Done
answer_with true done = changed_for_same done
answer_with false done = done

-- a row keeps the command that ran last, and begins to hold nothing that is dropped behind it
pub record LeavesAlone (keeps : Keeps) (before after : EditState) : Type 0 where
  pub previous : after.previous ≡ before.previous
  pub argument : keeps.argument ≡ false → before.arg ≡ None → after.arg ≡ None
  pub column : keeps.column ≡ false → before.column ≡ None → after.column ≡ None
  pub paste : keeps.paste ≡ false → before.before_paste ≡ None → after.before_paste ≡ None
