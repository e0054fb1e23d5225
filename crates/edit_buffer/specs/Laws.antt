-- What undo, redo and cancelling a menu mean to one who edits.
use Rattle.std.specs.Prelude.{◌≡◌, ◌≢◌, ℕ, ◌<◌, List, fold, length, Option, None}
use Rattle.text_doc.specs.Document.{SameTextAndCursor}
use Rattle.text_doc.specs.declared.completions.Completion.{Completion}
use Rattle.edit_buffer.specs.declared.edits.Edit.{Edit}
use Rattle.edit_buffer.specs.BufferState.{BufferState, IsBufferState, document_of, pair_of}
use Rattle.edit_buffer.specs.Edits.{applied}
use Rattle.edit_buffer.specs.Menus.{menu_of, chosen_in, with_items_in, cancelled_in}
use Rattle.edit_buffer.specs.Moves.{moved_to, gone_back, gone_forward}
use Rattle.edit_buffer.specs.Undo.{differing, saved, undone, redone}

-- the buffer after these edits, from the first to the last
abbrev pub edited_by : List Edit → BufferState → BufferState
edited_by edits b = fold applied b edits

-- what may happen while a menu is open: a choice, or further items
pub data MenuStep : Type 0 where
  Choose : Option ℕ → MenuStep
  Add : List Completion → MenuStep

-- the buffer after such a step
abbrev pub menu_stepped : BufferState → MenuStep → BufferState
menu_stepped b (Choose which) = chosen_in b.menu b which
menu_stepped b (Add items) = with_items_in b.menu b items

-- what may happen between a save and an undo: an edit, a move between working lines, and all that a menu does
pub data Step : Type 0 where
  Apply : Edit → Step
  Back : ℕ → Step
  Forward : ℕ → Step
  Goto : ℕ → ℕ → Step
  StartMenu : List Completion → Step
  InMenu : MenuStep → Step
  CancelMenu : Step
  CloseMenu : Step

-- the buffer after such a step
abbrev pub stepped : BufferState → Step → BufferState
stepped b (Apply edit) = applied b edit
stepped b (Back steps) = gone_back b steps
stepped b (Forward steps) = gone_forward b steps
stepped b (Goto line at) = moved_to b line at
stepped b (StartMenu items) = record b { menu = menu_of b.doc items }
stepped b (InMenu step) = menu_stepped b step
stepped b CancelMenu = cancelled_in b.menu b
stepped b CloseMenu = record b { menu = None }

-- the buffer after these steps, from the first to the last
abbrev pub stepped_by : List Step → BufferState → BufferState
stepped_by steps b = fold stepped b steps

-- undo restores text and cursor of `kept`, and a redo then those from before the undo
pub record UndoesTo (kept changed : BufferState) : Type 0 where
  pub undoes : 0 < length (differing changed.doc.text changed.undo)
  pub restores : (undone changed).doc ≡ document_of (pair_of kept.doc)
  pub redoes : 0 < length (undone changed).redo
  pub gives_back : SameTextAndCursor (redone (undone changed)).doc changed.doc

-- after a save and edits that end in another text, undo restores what was saved, and redo what was undone
abbrev pub UndoRestoresSaved : Type 0
UndoRestoresSaved =
    (b : BufferState) (edits : List Edit) → (edited_by edits (saved b)).doc.text ≢ b.doc.text → UndoesTo b (edited_by edits (saved b))

-- the same after a save and any steps that end in another text
abbrev pub UndoRestoresBehindSteps : Type 0
UndoRestoresBehindSteps =
    (b : BufferState) (steps : List Step) → (stepped_by steps (saved b)).doc.text ≢ b.doc.text → UndoesTo b (stepped_by steps (saved b))

-- the buffer with a new menu of these items, after these steps in it, and after it was cancelled
abbrev pub cancelled_after : BufferState → List Completion → List MenuStep → BufferState
cancelled_after b items steps =
    let last = fold menu_stepped (record b { menu = menu_of b.doc items }) steps in
    cancelled_in last.menu last

-- text and cursor are as they were, all working lines too, and there is no menu
pub record IsRestored (before after : BufferState) : Type 0 where
  pub document : SameTextAndCursor after.doc before.doc
  pub lines : after.lines ≡ before.lines
  pub closed : after.menu ≡ None

-- cancelling a menu of at least one item gives back text and cursor from before it, whatever was chosen in it
abbrev pub CancelRestoresOriginal : Type 0
CancelRestoresOriginal =
    (b : BufferState) (items : List Completion) (steps : List MenuStep) → IsBufferState b → 0 < length items → IsRestored b (cancelled_after b items steps)
