-- What vi's commands mean to one who types them.
use Rattle.std.specs.Prelude.{◌≡◌, ◌≢◌, ◌<◌, ◌≤◌, ℕ, false, length, None, Some, IfSome}
use Rattle.text_doc.specs.Document.{IsDocument}
use Rattle.key_names.specs.declared.key.Key.{Key}
use Rattle.edit_state.specs.declared.states.EditState.{EditState}
use Rattle.edit_state.specs.declared.vi_states.ViState.{ViState}
use Rattle.edit_state.specs.declared.vi_states.Operator.{Operator}
use Rattle.edit_state.specs.declared.vi_states.Operator.TheVariants.{Delete, Yank}
use Rattle.vi_keys.specs.declared.commands.ViCommand.{ViCommand}
use Rattle.vi_keys.specs.declared.commands.ViCommand.TheVariants.{CutAhead, DeleteOperator, MoveRight, PutBefore}
use Rattle.vi_keys.specs.declared.motions.Motion.{Motion}
use Rattle.vi_keys.specs.declared.motions.Kind.TheVariants.{Rows}
use Rattle.vi_keys.specs.declared.motions.Reach.{Reach}
use Rattle.vi_keys.specs.Spans.{span_of}
use Rattle.vi_keys.specs.ViNumbers.{number_of, command_of}
use Rattle.vi_keys.specs.Deeds.{motion_of}
use Rattle.vi_keys.specs.Reaches.{reach_of}
use Rattle.vi_keys.specs.Plans.{count_for}
use Rattle.vi_keys.specs.Running.{ran, vi_after, stands_out}

-- a command is found by its number, and by no other number
pub record NumbersReadBack : Type 0 where
  pub found : (command : ViCommand) → command_of (number_of command) ≡ Some command
  pub by_no_other : (number : ℕ) → IfSome (command_of number) (λ command. number_of command ≡ number)

-- text, cursor, mark and ring are the same
pub record SameEdit (a b : EditState) : Type 0 where
  pub document : a.buffer.doc ≡ b.buffer.doc
  pub ring : a.ring ≡ b.ring

-- a copy by a motion changes no text
abbrev pub YankLeavesText : Type 0
YankLeavesText =
    (command : ViCommand) (motion : Motion) (key : Key) (s : EditState) (v : ViState) → motion_of command ≡ Some motion → v.operator ≡ Some Yank
    → (ran command key s v).buffer.doc.text ≡ s.buffer.doc.text

-- `x` leaves the same as `d` and then `l`
abbrev pub CutIsDelete : Type 0
CutIsDelete =
    (key first second : Key) (s : EditState) (v : ViState)
    → SameEdit (ran CutAhead key s v) (ran MoveRight second (ran DeleteOperator first s v) (vi_after DeleteOperator first s v))

-- no operator waits, and the document and the ring are as before
pub record EndsAlone (before after : EditState) (vi : ViState) : Type 0 where
  pub operator : vi.operator ≡ None
  pub edit : SameEdit after before

-- a motion that has no place ends the operator that waits, and leaves the document and the ring
abbrev pub NoPlaceEnds : Type 0
NoPlaceEnds =
    (command : ViCommand) (motion : Motion) (operator : Operator) (key : Key) (s : EditState) (v : ViState) → motion_of command ≡ Some motion → v.operator ≡ Some operator
    → reach_of motion key s v.last_find (count_for s v) ≡ None → stands_out s.buffer.doc ≡ false → EndsAlone s (ran command key s v) (vi_after command key s v)

-- what was deleted as characters comes back by `P`, where the cursor stayed at its place
abbrev pub PutRestoresDeleted : Type 0
PutRestoresDeleted =
    (command : ViCommand) (motion : Motion) (key other : Key) (s : EditState) (v : ViState) (r : Reach) → motion_of command ≡ Some motion → v.operator ≡ Some Delete
    → reach_of motion key s v.last_find (count_for s v) ≡ Some r → r.kind ≢ Rows → IsDocument s.buffer.doc → (span_of s.buffer.doc r).from < (span_of s.buffer.doc r).to
    → (span_of s.buffer.doc r).to ≤ length s.buffer.doc.text → (ran command key s v).buffer.doc.cursor ≡ (span_of s.buffer.doc r).from
    → (ran PutBefore other (ran command key s v) (vi_after command key s v)).buffer.doc.text ≡ s.buffer.doc.text
