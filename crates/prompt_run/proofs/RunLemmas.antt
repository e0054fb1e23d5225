-- How a terminal that shows a run shows it behind one more event.
use Rattle.std.proofs.Common.{◌≡◌, ℕ, ◌≤◌, ◌||◌, Bool, true, false, List, length, is_some, Option, Some, None, if◌then◌else◌, refl, ap, sym, ◌∙◌, subst}
use Rattle.std.proofs.lemmas.Bool.{false≢true}
use Rattle.cell_grid.specs.Size.{Extent, IsScreen}
use Rattle.cell_grid.specs.declared.drawing.Drawing.{Drawing}
use Rattle.diff_render.proofs.Chaining.{begins_again, put-agree}
use Rattle.diff_render.specs.Canvas.{reads}
use Rattle.diff_render.specs.Frames.{put, Agree, Begins, screen_after}
use Rattle.diff_render.specs.declared.shown.OnScreen.{OnScreen}
use Rattle.diff_render.specs.declared.shown.OnScreen.TheVariants.{Nothing}
use Rattle.events.specs.declared.events.Event.{Event}
use Rattle.session_core.proofs.SceneLemmas.{draw_high}
use Rattle.session_core.proofs.StateLemmas.{again_size}
use Rattle.session_core.specs.Draw.{draw}
use Rattle.session_core.specs.Next.{again, is_accepted, next}
use Rattle.session_core.specs.State.{State, has_ended}
use Rattle.session_core.specs.declared.outcomes.Outcome.{Outcome}
use Rattle.term_model.proofs.KeepLemmas.{acted-keeps, resized-keeps}
use Rattle.term_model.specs.Obeying.{forgotten, line_of, obeyed_bytes}
use Rattle.term_model.specs.Resizing.{resized}
use Rattle.term_model.specs.Term.{Term, IsTerminal}
use Rattle.prompt_run.proofs.ShowLemmas.{agree_at, base_agree, begins_at}
use Rattle.prompt_run.specs.Run.{Run, base_at, reopened, reopened_if, same_size, shown_after, shown_at, terminal_at}
use Rattle.prompt_run.specs.Showing.{ShowsRun}
use Rattle.prompt_run.specs.Turn.{ShowsState}

-- ---- an event

goes_on : (a b : Bool) → (a || b) ≡ false → b ≡ false
goes_on true b e = absurd (false≢true (sym e))
goes_on false b e = e

-- what is on the screen begins the next frame where the prompt goes on
begins_by : (over : Bool) → over ≡ false → (size : Extent) (drawing : Drawing) (before : OnScreen) (x t : Term) (base : ℕ) (shown : OnScreen)
    → Begins size before x base → IsTerminal t → length drawing.grid ≤ size.rows → shown ≡ screen_after over drawing size → Agree t (put x base drawing over)
    → Begins size shown t base
begins_by true e size drawing before x t base shown begins terminal high kept seen = absurd (false≢true (sym e))
begins_by false e size drawing before x t base shown begins terminal high kept seen =
    let P : OnScreen → Type 0 = λ screen. Begins size screen t base in
    subst P (sym kept) (begins_again size before x t base drawing begins terminal high seen)

-- and where it has ended, nothing is shown, and a next frame begins on the cursor's line
ends_by : (over : Bool) → over ≡ true → (size : Extent) (drawing : Drawing) (before : OnScreen) (x t screen : Term) (base : ℕ) (shown : OnScreen)
    → Begins size before x base → IsTerminal t → shown ≡ screen_after over drawing size → Agree t (put x base drawing over) → Agree t screen
    → (shown ≡ Nothing) × Begins size Nothing t (line_of screen)
ends_by false e size drawing before x t screen base shown begins terminal kept seen agree = absurd (false≢true e)
ends_by true e size drawing before x t screen base shown begins terminal kept seen agree = (
  kept,
  record {
    terminal = terminal;
    tall = ap (λ (y : Term). y.rows) seen ∙ begins.tall;
    wide = ap (λ (y : Term). y.cols) seen ∙ begins.wide;
    base_line = ap line_of (sym agree);
  },
)

-- a terminal that took an event's resize, if it was one, is one still
pub sized_keeps : (before now : Extent) (t : Term) → IsScreen now.rows now.cols → IsTerminal t → IsTerminal (terminal_at before now t)
sized_keeps before now t screen terminal = elim (same_size before now) as (λ b. IsTerminal (if b then t else resized t now)) [
  | true ↦ terminal
  | false ↦ resized-keeps t now screen terminal
]

-- the terminal that took the resize and obeyed the frame of a state shows the run behind the event
pub shows_event : (r : Run) (event : Event) (shown told : OnScreen) (t : Term) (frame : List ℕ) → ShowsRun shown t r → has_ended r.state ≡ false
    → IsTerminal (terminal_at r.state.size (next r.state event).size t) → 1 ≤ (next r.state event).size.rows
    → ShowsState (shown_at r.state.size (next r.state event).size shown) (next r.state event) frame
    → told ≡ screen_after (is_some (next r.state event).outcome) (draw (next r.state event)) (next r.state event).size
    → ShowsRun told (obeyed_bytes (terminal_at r.state.size (next r.state event).size t) frame) (shown_after r (next r.state event))
shows_event r event shown told t frame was on terminal rows shows kept =
    let S : State = next r.state event in
    let over : Bool = is_some S.outcome in
    let before : OnScreen = shown_at r.state.size S.size shown in
    let u : Term = terminal_at r.state.size S.size t in
    let base : ℕ = base_at r.state.size S.size r.screen r.base in
    let begins : Begins S.size before u base =
    subst (λ b. Begins S.size before u b) (base_agree r.state.size S.size t r.screen r.base was.agrees)
    (begins_at r.state.size S.size shown t r.base rows (was.begins on) terminal) in
    let seen : Agree (obeyed_bytes u frame) (put u base (draw S) over) = shows.shows u base begins in
    let agrees : Agree (obeyed_bytes u frame) (shown_after r S).screen =
    seen ∙ ap forgotten (put-agree u (terminal_at r.state.size S.size r.screen) base (draw S) over (agree_at r.state.size S.size t r.screen was.agrees)) in
    let obeyed : IsTerminal (obeyed_bytes u frame) = acted-keeps (reads frame) u terminal in
    record {
      terminal = obeyed;
      agrees = agrees;
      begins = λ still. begins_by over (goes_on S.failed over still) S.size (draw S) before u (obeyed_bytes u frame) base told begins obeyed (draw_high S) kept seen;
      ended = λ done. ends_by over done S.size (draw S) before u (obeyed_bytes u frame) (shown_after r S).screen base told begins obeyed kept seen agrees;
    }

-- ---- a further prompt

pub accepted_some : (outcome : Option Outcome) → is_accepted outcome ≡ true → is_some outcome ≡ true
accepted_some None is = is
accepted_some (Some outcome) is = refl

pub no_outcome : (s : State) → is_some (again s).outcome ≡ false
unfolding again
no_outcome s = refl

-- where a prompt goes on, no text was accepted
pub not_accepted : (failed : Bool) (outcome : Option Outcome) → (failed || is_some outcome) ≡ false → is_accepted outcome ≡ false
not_accepted failed None on = refl
not_accepted true (Some outcome) on = absurd (false≢true (sym on))
not_accepted false (Some outcome) on = absurd (false≢true (sym on))

-- a further prompt begins on the terminal as it is
pub shows_reopened : (shown : OnScreen) (t : Term) (r : Run) → ShowsRun shown t r → ShowsRun shown t (reopened r)
shows_reopened shown t r was = by (is_accepted r.state.outcome) refl
  where
    by : (b : Bool) → is_accepted r.state.outcome ≡ b → ShowsRun shown t (reopened_if b r)
    by false none = was
    by true is =
        let over = was.ended (accepted_some r.state.outcome is) in
        record {
          terminal = was.terminal;
          agrees = was.agrees;
          begins = λ going. subst (λ size. Begins size shown t (line_of r.screen)) (sym (again_size r.state))
              (subst (λ x. Begins r.state.size x t (line_of r.screen)) (sym over.0) over.1);
          ended = λ done. absurd (false≢true (sym (no_outcome r.state) ∙ done));
        }

-- ---- the state that an event finds

again_if : Bool → State → State
again_if true s = again s
again_if false s = s

found_state : (b : Bool) (r : Run) → (reopened_if b r).state ≡ again_if b r.state
unfolding again_if
found_state true r = refl
found_state false r = refl

-- it is told by the state before it
pub same_reopened : (r q : Run) → r.state ≡ q.state → (reopened r).state ≡ (reopened q).state
same_reopened r q same =
    found_state (is_accepted r.state.outcome) r ∙ ap (λ (s : State). again_if (is_accepted s.outcome) s) same ∙ sym (found_state (is_accepted q.state.outcome) q)

-- of a prompt that goes on it is the present state
pub reopened_going : (r : Run) → has_ended r.state ≡ false → (reopened r).state ≡ r.state
reopened_going r on = ap (λ b. (reopened_if b r).state) (not_accepted r.state.failed r.state.outcome on)

-- behind an accepted text it is that of the next prompt
pub reopened_accepted : (r : Run) → is_accepted r.state.outcome ≡ true → (reopened r).state ≡ again r.state
reopened_accepted r is = ap (λ b. (reopened_if b r).state) is
