-- How a terminal, and what is on its screen, stand for a run.
use Rattle.std.specs.Prelude.{◌≡◌, ℕ, true, false, List, is_some}
use Rattle.diff_render.specs.Frames.{Agree, Begins}
use Rattle.diff_render.specs.declared.shown.OnScreen.{OnScreen}
use Rattle.diff_render.specs.declared.shown.OnScreen.TheVariants.{Nothing}
use Rattle.events.specs.declared.events.Event.{Event}
use Rattle.session_core.specs.State.{State, has_ended}
use Rattle.term_model.specs.Obeying.{line_of}
use Rattle.term_model.specs.Term.{Term, IsTerminal}
use Rattle.prompt_run.specs.FramesShown.{FramesShow}
use Rattle.prompt_run.specs.Run.{Run, waiting_run}

-- the terminal agrees with the run's screen, and the next frame begins on the base line where the prompt goes on; where it has ended
-- nothing is shown, and the next frame would begin on the cursor's line
pub record ShowsRun (shown : OnScreen) (t : Term) (r : Run) : Type 0 where
  pub terminal : IsTerminal t
  pub agrees : Agree t r.screen
  pub begins : has_ended r.state ≡ false → Begins r.state.size shown t r.base
  pub ended : is_some r.state.outcome ≡ true → (shown ≡ Nothing) × Begins r.state.size Nothing t (line_of r.screen)

-- a run that begins in this state, on a terminal of its size
pub record BeginsIn (s : State) (t : Term) (r : Run) : Type 0 where
  pub terminal : IsTerminal t
  pub tall : t.rows ≡ s.size.rows
  pub wide : t.cols ≡ s.size.cols
  pub run : r ≡ waiting_run s t

-- where some events of a run begin: on each terminal of the size of this state, with the run that begins there in it, or on this
-- terminal in the middle of this run
pub data Beginning : Type 0 where
  anew : State → Beginning
  amid : Term → Run → Beginning

abbrev pub BeginsAt : Beginning → Term → Run → Type 0
BeginsAt (anew s) t r = BeginsIn s t r
BeginsAt (amid u q) t r = (t ≡ u) × (r ≡ q)

-- wherever the events begin, the frames show the run after each of them
abbrev pub ShowOnEach : Beginning → List Event → List (List ℕ) → Type 0
ShowOnEach from events frames = (t : Term) (r : Run) → BeginsAt from t r → (end : Term) × (last : Run) × FramesShow t r events frames end last

-- and behind the last of them the terminal, and what is on the screen, stand for the run, which is then in this state
abbrev pub LeadOnEach : Beginning → List Event → List (List ℕ) → OnScreen → State → Type 0
LeadOnEach from events frames shown now =
    (t : Term) (r : Run) → BeginsAt from t r
    → (end : Term) × (last : Run) × FramesShow t r events frames end last × ShowsRun shown end last × (last.state ≡ now)
