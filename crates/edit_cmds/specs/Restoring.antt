-- The rows of Emacs keys that undo, cancel and complete.
use Rattle.std.specs.Prelude.{◌≡◌, [], Option, None, Some}
use Rattle.edit_buffer.specs.declared.menus.Menu.{Menu}
use Rattle.edit_buffer.specs.Menus.{cancelled_in}
use Rattle.edit_buffer.specs.Undo.{differing, undone, redone}
use Rattle.edit_state.specs.declared.states.EditState.{EditState}
use Rattle.edit_cmds.specs.Killing.{unmarked}

abbrev pub undo : EditState → EditState
undo s = record s { buffer = undone s.buffer }

-- no saved text differs
abbrev pub HasNoUndo : EditState → Type 0
HasNoUndo s = differing s.buffer.doc.text s.buffer.undo ≡ []

abbrev pub redo : EditState → EditState
redo s = record s { buffer = redone s.buffer }

abbrev pub HasNoRedo : EditState → Type 0
HasNoRedo s = s.buffer.redo ≡ []

-- a menu is cancelled; without one the mark is gone
abbrev pub cancelled_by : Option Menu → EditState → EditState
cancelled_by None s = unmarked s
cancelled_by (Some m) s = record s { buffer = cancelled_in (Some m) s.buffer }

abbrev pub cancel : EditState → EditState
cancel s = cancelled_by s.buffer.menu s
