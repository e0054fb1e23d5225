-- What a contract sees of a turn.
use Rattle.std.specs.Prelude.{◌≡◌, ℕ, false, List, Option, Some, None, is_some}
use Rattle.cell_grid.specs.Size.{Extent}
use Rattle.diff_render.specs.Frames.{IsFrame, WasDrawnAt}
use Rattle.diff_render.specs.declared.shown.OnScreen.{OnScreen}
use Rattle.session_core.specs.declared.outcomes.Outcome.{Outcome}
use Rattle.session_core.specs.declared.outcomes.Outcome.TheVariants.{Accepted, EndOfFile, Interrupted}
use Rattle.session_core.specs.Draw.{draw}
use Rattle.session_core.specs.State.{State, HasFailed, failed, has_ended}
use Rattle.session_core.specs.Next.{next}
use Rattle.events.specs.declared.events.Event.{Event}
use Rattle.prompt_run.specs.Run.{shown_at}
use Rattle.prompt_run.specs.declared.turns.Turned.{Turned}
use Rattle.prompt_run.specs.declared.turns.Turned.TheVariants as turned
use Rattle.prompt_run.specs.declared.turns.TurnFault.{TurnFault}
use Rattle.prompt_run.specs.declared.turns.TurnFault.TheVariants as faults

-- what an outcome leaves a prompt at
abbrev pub turned_of : Option Outcome → Turned
turned_of None = turned.Going
turned_of (Some (Accepted text)) = turned.Accepted
turned_of (Some EndOfFile) = turned.EndOfFile
turned_of (Some Interrupted) = turned.Interrupted

-- what a turn that was not made leaves of the session: one that had ended stays, and any other has ended without an outcome
abbrev pub Leaves : TurnFault → Event → State → State → Type 0
Leaves faults.Ended event old new = new ≡ old
Leaves faults.ScreenFault event old new = new ≡ failed (next old event)
Leaves faults.NoMemory event old new = HasFailed new

-- a frame, which doesn't ask, turns what is on the screen into the drawing of a state
abbrev pub ShowsState : OnScreen → State → List ℕ → Type 0
ShowsState shown s frame = IsFrame s.size shown (draw s) (is_some s.outcome) false frame

-- the screen was given one frame, and took or missed it, which turns what was shown, at this size before, into the drawing of the state
abbrev pub GivesState : {S : Type 0} → (S → List ℕ → S → Type 0) → S → S → Extent → OnScreen → State → Type 0
GivesState given old new before shown s = (frame : List ℕ) × given old frame new × ShowsState (shown_at before s.size shown) s frame

-- what is shown may be used in a turn of a session: where the session has not ended, it was drawn at its size, or its size was forgotten
abbrev pub MayTurn : State → OnScreen → Type 0
MayTurn s shown = has_ended s ≡ false → WasDrawnAt s.size shown
