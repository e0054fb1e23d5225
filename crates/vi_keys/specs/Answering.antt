-- What the answer of a command tells.
use Rattle.std.specs.Prelude.{◌≡◌, ◌≢◌, ◌↔◌, ℕ, Bool, true, false, [], length, Option, None, Some}
use Rattle.edit_buffer.specs.declared.menus.Menu.{Menu}
use Rattle.edit_buffer.specs.Undo.{differing}
use Rattle.edit_state.specs.declared.states.EditState.{EditState}
use Rattle.edit_state.specs.declared.arguments.Arg.{Arg}
use Rattle.edit_state.specs.declared.states.Done.{Done}
use Rattle.edit_state.specs.declared.states.Done.TheVariants.{Changed, Same, Bell, StartComplete, Accept, Interrupt, EndOfFile}
use Rattle.edit_state.specs.declared.vi_states.ViState.{ViState}
use Rattle.edit_state.specs.MenuMoves.{stops}
use Rattle.edit_state.specs.AutoMoves.{auto_up, auto_down}
use Rattle.vi_keys.specs.declared.acts.Act.{Act}
use Rattle.vi_keys.specs.declared.acts.Act.TheVariants.{AutoDown, AutoUp, Put, Undo, Redo}
use Rattle.vi_keys.specs.declared.acts.Told.{Told}
use Rattle.vi_keys.specs.declared.acts.Told.TheVariants.{Rang, Edited, Kept}

-- a state without what a command may change beside its effect: the cursor and the mark, and what it leaves behind
abbrev pub bones : EditState → EditState
bones s = record s {
  buffer = record s.buffer { doc = record s.buffer.doc { cursor = 0; mark = None } };
  arg = None;
  previous = None;
  column = None;
  before_paste = None;
}

-- the effect has nothing to do
abbrev pub Rings : Act → EditState → Type 0
Rings Undo s = differing s.buffer.doc.text s.buffer.undo ≡ []
Rings Redo s = s.buffer.redo ≡ []
Rings _ s = ⊥

-- what is told of an effect: that it rang, or whether more than the cursor and the mark differ
pub record Reported (told : Told) (rings : Type 0) (before after : EditState) : Type 0 where
  pub rang : (told ≡ Rang) ↔ rings
  pub edited : told ≡ Edited → bones after ≢ bones before
  pub kept : told ≡ Kept → bones after ≡ bones before

-- of choices in a menu it is told whether they rang, and else they count as a change
abbrev pub told_in_menu : Bool → Told
told_in_menu true = Rang
told_in_menu false = Edited

abbrev pub ReportedUnless : Option Menu → Bool → Told → EditState → EditState → Type 0
ReportedUnless None stopped told before after = Reported told ⊥ before after
ReportedUnless (Some m) stopped told before after = told ≡ told_in_menu stopped

-- a clip that is put counts as a change
abbrev pub Reports : Told → Act → EditState → EditState → Type 0
Reports told (Put at clip) before after = told ≡ Edited
Reports told (AutoDown count) before after = ReportedUnless before.buffer.menu (stops true count before.buffer.menu) told before after
Reports told (AutoUp count) before after = ReportedUnless before.buffer.menu (stops false count before.buffer.menu) told before after
Reports told effect before after = Reported told (Rings effect before) before after

-- all is as before, but for the number of the command that ran last
pub record IsAsBefore (before : EditState) (vi_before : ViState) (after : EditState) (vi_after : ViState) : Type 0 where
  pub state : after ≡ record before { previous = after.previous }
  pub vi : vi_after ≡ vi_before

-- `Changed` is told exactly where something differs, and `Same` where nothing does
abbrev pub Tells : Done → Type 0 → Type 0
Tells Changed same = same → ⊥
Tells Same same = same
Tells Bell same = Unit {0}
Tells StartComplete same = ⊥
Tells Accept same = ⊥
Tells Interrupt same = ⊥
Tells EndOfFile same = ⊥

-- an answer that the plan names, or else the bell exactly where the effect has nothing to do, and what differs
abbrev pub Answers : Option Done → Type 0 → Done → Type 0 → Type 0
Answers (Some said) rings done same = done ≡ said
Answers None rings done same = ((done ≡ Bell) ↔ rings) × Tells done same

abbrev pub done_in_menu : Bool → Done
done_in_menu true = Bell
done_in_menu false = Changed

abbrev pub named_in_menu : Option Menu → Bool → Option Done
named_in_menu None stopped = None
named_in_menu (Some m) stopped = Some (done_in_menu stopped)

-- the answer of an effect that is named: of choices in a menu, and of a clip that is put
abbrev pub named_by : Act → EditState → Option Done
named_by (Put at clip) s = Some Changed
named_by (AutoDown count) s = named_in_menu s.buffer.menu (stops true count s.buffer.menu)
named_by (AutoUp count) s = named_in_menu s.buffer.menu (stops false count s.buffer.menu)
named_by effect s = None

-- the answer that a plan names, or else that of its effect
abbrev pub named : Option Done → Act → EditState → Option Done
named (Some done) effect s = Some done
named None effect s = named_by effect s

-- what a told effect answers
abbrev pub done_by : Told → Bool → Done
done_by Rang differs = Bell
done_by Edited differs = Changed
done_by Kept true = Changed
done_by Kept false = Same

abbrev pub answer_of : Option Done → Done → Done
answer_of None done = done
answer_of (Some said) done = said

abbrev pub told_of : Bool → Told
told_of true = Edited
told_of false = Kept

abbrev pub told_by : Bool → Told
told_by true = Edited
told_by false = Rang

-- choices, rows or lines of the history forward, or back
abbrev pub auto_on : Bool → EditState → ℕ → EditState
auto_on true s count = auto_down s count
auto_on false s count = auto_up s count

-- how many digits an argument has
abbrev pub digits_of : Option Arg → Option ℕ
digits_of None = None
digits_of (Some arg) = Some (length arg.digits)
