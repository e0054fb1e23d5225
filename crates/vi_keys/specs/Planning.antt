-- What each command is to do.
use Rattle.std.specs.Prelude.{Bool, None, if◌then◌else◌}
use Rattle.std.specs.Char.{is_ascii_digit}
use Rattle.key_names.specs.declared.key.Key.{Key}
use Rattle.key_names.specs.declared.key.Key.TheVariants.{Char}
use Rattle.edit_state.specs.declared.states.EditState.{EditState}
use Rattle.edit_state.specs.declared.states.Done.TheVariants as done
use Rattle.edit_state.specs.declared.vi_states.ViState.{ViState}
use Rattle.edit_state.specs.declared.vi_states.ViMode.TheVariants as mode
use Rattle.edit_state.specs.CharMoves.{place_back}
use Rattle.vi_keys.specs.declared.commands.ViCommand.{ViCommand}
use Rattle.vi_keys.specs.declared.deeds.Deed.{Deed}
use Rattle.vi_keys.specs.declared.deeds.Deed.TheVariants.{Move, Await, Again, OnSelection, OnMotion, OnRows, OnWord, InsertAt, Enter, EnterNavigation, OverwriteBack, Overwrite, Replace, SwapCase, Join, Put, Open, Select, Undo, Redo, Digit, Leave, EndOperator, Answer}
use Rattle.vi_keys.specs.declared.acts.Act.TheVariants as act
use Rattle.vi_keys.specs.declared.acts.Marks.TheVariants as marks
use Rattle.vi_keys.specs.declared.plans.Plan.{Plan}
use Rattle.vi_keys.specs.Deeds.{deed_of}
use Rattle.vi_keys.specs.Reaches.{reach_of}
use Rattle.vi_keys.specs.Plans.{plain, answered, counted, in_mode, ended}
use Rattle.vi_keys.specs.Moving.{gone, moving}
use Rattle.vi_keys.specs.Operating.{taken, on_rows, again, selected, on_word, await_for}
use Rattle.vi_keys.specs.Changing.{overwritten, replaced, case_swapped, joined, opened, put}

-- the mark is set at the cursor
abbrev pub selecting : Bool → ViState → Plan
selecting rows v = record { act = act.Stay; marks = marks.Set; vi = record v { lines = rows }; said = None }

-- the operator and the selection end
abbrev pub leaving : ViState → Plan
leaving v = record { act = act.Stay; marks = marks.Clear; vi = ended v; said = None }

-- a digit is added to the argument
abbrev pub counting : Key → ViState → Plan
counting (Char c) v = if is_ascii_digit c then plain v (act.Digit c) else answered v done.Same
counting _ v = answered v done.Same

-- what is to be done
abbrev pub plan_for : Deed → Key → EditState → ViState → Plan
plan_for (Move motion) key s v = moving motion key s v
plan_for (Await operator) key s v = await_for operator s v
plan_for (Again operator) key s v = again operator s v
plan_for (OnSelection operator) key s v = selected operator s v
plan_for (OnMotion operator motion) key s v = taken operator s.buffer.doc (reach_of motion key s v.last_find (counted s)) v
plan_for (OnRows operator) key s v = on_rows operator s.buffer.doc (counted s) v
plan_for (OnWord around) key s v = on_word around s v
plan_for (InsertAt motion) key s v = gone (reach_of motion key s v.last_find 1) (in_mode mode.Insert v)
plan_for (Enter entered) key s v = plain (in_mode entered v) act.Stay
plan_for EnterNavigation key s v = plain (in_mode mode.Navigation v) (act.Go (place_back s.buffer.doc 1))
plan_for OverwriteBack key s v = plain v (act.Go (place_back s.buffer.doc 1))
plan_for Overwrite key s v = overwritten key s.buffer.doc v
plan_for Replace key s v = replaced key s v
plan_for SwapCase key s v = case_swapped s v
plan_for Join key s v = joined s.buffer.doc v
plan_for (Put behind) key s v = put behind s v
plan_for (Open below) key s v = opened below s.buffer.doc (in_mode mode.Insert v) v
plan_for (Select rows) key s v = selecting rows v
plan_for Undo key s v = plain v act.Undo
plan_for Redo key s v = plain v act.Redo
plan_for Digit key s v = counting key v
plan_for Leave key s v = leaving v
plan_for EndOperator key s v = answered (ended v) done.Bell
plan_for (Answer answer) key s v = answered v answer

-- what a command is to do by a key
abbrev pub plan_of : ViCommand → Key → EditState → ViState → Plan
plan_of command key s v = plan_for (deed_of command) key s v
