-- A frame that was made for the drawing of a state shows the state.
use Rattle.std.proofs.Common.{◌≡◌, ℕ, Bool, true, false, List, is_some, refl, sym, subst}
use Rattle.std.specs.Prelude.{IsTrue}
use Rattle.cell_grid.specs.Size.{Extent}
use Rattle.cell_grid.specs.declared.drawing.Drawing.{Drawing}
use Rattle.diff_render.specs.Frames.{IsFrame, screen_after, WasDrawnAt}
use Rattle.diff_render.specs.declared.shown.OnScreen.{OnScreen}
use Rattle.session_core.specs.Draw.{draw}
use Rattle.session_core.specs.State.{State}
use Rattle.prompt_run.specs.Run.{shown_at}
use Rattle.prompt_run.specs.Turn.{ShowsState}

pub shows_state : (s : State) (before size : Extent) (shown told : OnScreen) (drawing : Drawing) (finished : Bool) (frame : List ℕ) → size ≡ s.size → drawing ≡ draw s
    → finished ≡ is_some s.outcome → told ≡ shown_at before size shown → IsFrame size told drawing finished false frame → ShowsState (shown_at before s.size shown) s frame
shows_state s before size shown told drawing finished frame is_size is_drawing is_finished is_told is_frame =
    let one : IsFrame size (shown_at before size shown) drawing finished false frame = subst (λ t. IsFrame size t drawing finished false frame) is_told is_frame in
    let two : IsFrame s.size (shown_at before s.size shown) drawing finished false frame = subst (λ e. IsFrame e (shown_at before e shown) drawing finished false frame) is_size one in
    let three : IsFrame s.size (shown_at before s.size shown) (draw s) finished false frame = subst (λ d. IsFrame s.size (shown_at before s.size shown) d finished false frame) is_drawing two in
    subst (λ b. IsFrame s.size (shown_at before s.size shown) (draw s) b false frame) is_finished three

-- ---- behind a turn

-- what is on the screen was drawn at the session's size
pub drawn_behind : (s : State) (shown : OnScreen) → shown ≡ screen_after (is_some s.outcome) (draw s) s.size → WasDrawnAt s.size shown
drawn_behind s shown kept =
    let P : OnScreen → Type 0 = λ screen. WasDrawnAt s.size screen in
    subst P (sym kept) (elim (is_some s.outcome) as (λ b. P (screen_after b (draw s) s.size)) [ true ↦ tt | false ↦ refl ])

-- a session goes on that was not said to have ended
pub going : (ended : Bool) → (IsTrue ended → ⊥) → ended ≡ false
going true denied = absurd (denied refl)
going false denied = refl
