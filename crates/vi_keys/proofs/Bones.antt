-- What moves of the cursor leave, and what tells that more than they differ.
use Rattle.std.proofs.Common.{◌≡◌, ℕ, List, [], slice_set, Option, Some, None, refl, ap, subst}
use Rattle.std.proofs.lemmas.List.{set-get_or}
use Rattle.edit_buffer.specs.BufferState.{BufferState, IsBufferState}
use Rattle.edit_state.specs.declared.states.EditState.{EditState}
use Rattle.edit_state.specs.StateEdits.{gone_to}
use Rattle.edit_state.specs.RowMoves.{moved_to_row, place_up, place_down, rows_up, rows_down}
use Rattle.vi_keys.specs.declared.acts.Marks.{Marks}
use Rattle.vi_keys.specs.declared.acts.Marks.TheVariants.{Keep, Clear, Set}
use Rattle.vi_keys.specs.Acts.{marked}
use Rattle.vi_keys.specs.Answering.{bones}

-- the present working line is the text
pub kept_lines : (b : BufferState) → IsBufferState b → slice_set b.lines b.index b.doc.text ≡ b.lines
kept_lines b kept =
    let P : List ℕ → Type 0 = λ text. slice_set b.lines b.index text ≡ b.lines in
    subst P kept.present (set-get_or b.lines b.index [])

-- a state with these working lines has the bones of the state whose lines they are
same_lines : (s : EditState) (lines : List (List ℕ)) → lines ≡ s.buffer.lines → bones (record s { buffer = record s.buffer { lines = lines } }) ≡ bones s
same_lines s lines same =
    ap (λ (xs : List (List ℕ)). bones (record s { buffer = record s.buffer { lines = xs } })) same

-- the cursor moves
pub go_keeps : (s : EditState) (at : ℕ) → IsBufferState s.buffer → bones (gone_to s at) ≡ bones s
go_keeps s at kept = same_lines s _ (kept_lines s.buffer kept)

pub row_keeps : (s : EditState) (place : Option ℕ) → IsBufferState s.buffer → bones (moved_to_row s place) ≡ bones s
row_keeps s None kept = refl
row_keeps s (Some at) kept = go_keeps s at kept

pub rows_up_keeps : (s : EditState) (count : ℕ) → IsBufferState s.buffer → bones (rows_up s count) ≡ bones s
rows_up_keeps s count kept = row_keeps s (place_up s count) kept

pub rows_down_keeps : (s : EditState) (count : ℕ) → IsBufferState s.buffer → bones (rows_down s count) ≡ bones s
rows_down_keeps s count kept = row_keeps s (place_down s count) kept

-- the mark is set or goes
pub mark_keeps : (marks : Marks) (s : EditState) → IsBufferState s.buffer → bones (marked marks s) ≡ bones s
mark_keeps Keep s kept = refl
mark_keeps Clear s kept = same_lines s _ (kept_lines s.buffer kept)
mark_keeps Set s kept = same_lines s _ (kept_lines s.buffer kept)

-- what is known of moves
pub ruleset moves = (go_keeps, rows_up_keeps, rows_down_keeps, mark_keeps)
