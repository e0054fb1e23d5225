-- What running a command makes of the edit state and of what vi's keys keep.
use Rattle.std.specs.Prelude.{◌≡◌, ◌-◌, ◌==◌, nat_lt, Bool, true, false, not, ◌&&◌, None, Some, is_some, if◌then◌else◌}
use Rattle.key_names.specs.declared.key.Key.{Key}
use Rattle.text_doc.specs.Document.{Document}
use Rattle.text_doc.specs.Rows.{line_start, line_end}
use Rattle.edit_state.specs.declared.states.EditState.{EditState}
use Rattle.edit_state.specs.declared.vi_states.ViState.{ViState}
use Rattle.edit_state.specs.declared.vi_states.ViMode.{ViMode}
use Rattle.edit_state.specs.declared.vi_states.ViMode.TheVariants.{Insert, Navigation, Replace}
use Rattle.edit_state.specs.StateEdits.{gone_to}
use Rattle.vi_keys.specs.declared.commands.ViCommand.{ViCommand}
use Rattle.vi_keys.specs.declared.motions.Motion.TheVariants.{Down, Up}
use Rattle.vi_keys.specs.declared.deeds.Deed.{Deed}
use Rattle.vi_keys.specs.declared.deeds.Deed.TheVariants.{Move, Digit}
use Rattle.vi_keys.specs.declared.plans.Plan.{Plan}
use Rattle.vi_keys.specs.ViNumbers.{number_of}
use Rattle.vi_keys.specs.Deeds.{deed_of}
use Rattle.vi_keys.specs.Acts.{acted, marked}
use Rattle.vi_keys.specs.Answering.{Answers, Rings, IsAsBefore, named, digits_of}
use Rattle.vi_keys.specs.declared.running.Rest.{Rest}
use Rattle.edit_state.specs.declared.states.Done.{Done}
use Rattle.vi_keys.specs.Plans.{Counts}
use Rattle.vi_keys.specs.Planning.{plan_of}

-- no search is held, and the count of a waiting operator is one that an argument can have
pub record IsReady (s : EditState) (v : ViState) : Type 0 where
  pub unsearched : s.search ≡ None
  pub count : Counts v

-- what builds the argument keeps it
abbrev pub keeps_argument : Deed → Bool
keeps_argument Digit = true
keeps_argument _ = false

-- moves by rows that serve no operator keep the column
abbrev pub keeps_column : Deed → ViState → Bool
keeps_column (Move Down) v = not (is_some v.operator)
keeps_column (Move Up) v = not (is_some v.operator)
keeps_column _ v = false

-- the state with what every command leaves behind
abbrev pub left_behind : ViCommand → ViState → EditState → EditState
left_behind command v s = record s {
  arg = if keeps_argument (deed_of command) then s.arg else None;
  column = if keeps_column (deed_of command) v then s.column else None;
  previous = Some (number_of command);
  before_paste = None;
}

abbrev pub is_navigation : ViMode → Bool
is_navigation Insert = false
is_navigation Navigation = true
is_navigation Replace = false

-- keys are read in Navigation and no operator waits
abbrev pub is_idle : ViState → Bool
is_idle v = is_navigation v.mode && not (is_some v.operator)

-- the cursor is at the end of a row that has a character, and nothing is selected
abbrev pub stands_out : Document → Bool
stands_out d = not (is_some d.mark) && (d.cursor == line_end d.text d.cursor && nat_lt (line_start d.text d.cursor) d.cursor)

-- in Navigation, without operator and selection, a cursor at the end of a row that is not empty goes one back
abbrev pub settled : ViState → EditState → EditState
settled v s = if is_idle v && stands_out s.buffer.doc then gone_to s (s.buffer.doc.cursor - 1) else s

-- the state after a plan
abbrev pub carried_out : Plan → ViCommand → ViState → EditState → EditState
carried_out plan command v s = settled plan.vi (left_behind command v (marked plan.marks (acted plan.act s)))

-- the state after a command
abbrev pub ran : ViCommand → Key → EditState → ViState → EditState
ran command key s v = carried_out (plan_of command key s v) command v s

-- what vi's keys keep after a command
abbrev pub vi_after : ViCommand → Key → EditState → ViState → ViState
vi_after command key s v = (plan_of command key s v).vi

-- the answer tells what a plan did
abbrev pub AnswersTo : Plan → Done → EditState → ViState → EditState → ViState → Type 0
AnswersTo plan done before vi_before after vi_after =
    Answers (named plan.said plan.act before) (Rings plan.act before) done (IsAsBefore before vi_before after vi_after)

-- what a command may change beside its effect
abbrev pub rest_of : EditState → ViState → Rest
rest_of s v = record {
  cursor = s.buffer.doc.cursor;
  mark = s.buffer.doc.mark;
  column = s.column;
  digits = digits_of s.arg;
  pasted = is_some s.before_paste;
  vi = v;
}
