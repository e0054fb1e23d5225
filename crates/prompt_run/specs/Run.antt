-- What a run does: the state of its present prompt, and the screen that shows it from a base line on, one event at a time.
use Rattle.std.specs.Prelude.{ℕ, max, Bool, true, false, ◌&&◌, nat_eq, is_some, if◌then◌else◌}
use Rattle.cell_grid.specs.Size.{Extent}
use Rattle.diff_render.specs.Frames.{put, forgetting}
use Rattle.diff_render.specs.declared.shown.OnScreen.{OnScreen}
use Rattle.events.specs.declared.events.Event.{Event}
use Rattle.session_core.specs.Draw.{draw}
use Rattle.session_core.specs.Next.{again, is_accepted, next}
use Rattle.session_core.specs.State.{State}
use Rattle.term_model.specs.Obeying.{line_of}
use Rattle.term_model.specs.Resizing.{resized}
use Rattle.term_model.specs.Term.{Term}

-- the state, the screen, and the line from which on the screen shows the drawing
pub record Run : Type 0 where
  pub state : State
  pub screen : Term
  pub base : ℕ

abbrev pub same_size : Extent → Extent → Bool
same_size a b = nat_eq a.rows b.rows && nat_eq a.cols b.cols

-- a terminal is resized where its size changes
abbrev pub terminal_at : Extent → Extent → Term → Term
terminal_at before now t = if same_size before now then t else resized t now

-- and what is on the screen is then drawn anew
abbrev pub shown_at : Extent → Extent → OnScreen → OnScreen
shown_at before now shown = if same_size before now then shown else forgetting shown

-- the base line stays in the window
abbrev pub base_at : Extent → Extent → Term → ℕ → ℕ
base_at before now t base = if same_size before now then base else max base (resized t now).top

-- the screen shows the drawing of the new state
abbrev pub shown_after : Run → State → Run
shown_after r s = record {
  state = s;
  screen = put (terminal_at r.state.size s.size r.screen) (base_at r.state.size s.size r.screen r.base) (draw s) (is_some s.outcome);
  base = base_at r.state.size s.size r.screen r.base;
}

-- behind an accepted text there is a further prompt, whose base is the cursor's line
abbrev pub reopened_if : Bool → Run → Run
reopened_if true r = record r { state = again r.state; base = line_of r.screen }
reopened_if false r = r

abbrev pub reopened : Run → Run
reopened r = reopened_if (is_accepted r.state.outcome) r

-- one event of a run that has not ended
abbrev pub ran_on : Run → Event → Run
ran_on r event = shown_after (reopened r) (next (reopened r).state event)

-- a run before its first event, in this state and on this terminal, with the cursor's line as its base
abbrev pub waiting_run : State → Term → Run
waiting_run s t = record { state = s; screen = t; base = line_of t }
