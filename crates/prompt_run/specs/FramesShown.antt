-- What frames do to a terminal: after each of them it shows the run's screen, and joined they do the same.
use Rattle.std.specs.Prelude.{◌≡◌, ℕ, List, [], ◌∷◌}
use Rattle.diff_render.specs.Canvas.{Spells, reads}
use Rattle.diff_render.specs.Frames.{Agree}
use Rattle.events.specs.declared.events.Event.{Event}
use Rattle.term_model.specs.Obeying.{obeyed_bytes}
use Rattle.term_model.specs.Term.{Term}
use Rattle.prompt_run.specs.Run.{Run, ran_on, reopened, terminal_at}

-- the terminal that took an event's resize, if it was one, and obeyed the event's frame
abbrev pub obeying : Term → Run → Event → List ℕ → Term
obeying t r event frame = obeyed_bytes (terminal_at (reopened r).state.size (ran_on r event).state.size t) frame

-- the terminal that obeyed some frames one by one
abbrev pub obeyed_each : Term → List (List ℕ) → Term
obeyed_each t [] = t
obeyed_each t (frame ∷ frames) = obeyed_each (obeyed_bytes t frame) frames

-- there is one frame for each event, which reads as the same whatever comes behind it, and the terminal that obeys them agrees with the
-- run's screen after each; in the end the terminal and the run are these
abbrev pub FramesShow : Term → Run → List Event → List (List ℕ) → Term → Run → Type 0
FramesShow t r [] [] end last = (end ≡ t) × (last ≡ r)
FramesShow t r [] (frame ∷ frames) end last = ⊥
FramesShow t r (event ∷ events) [] end last = ⊥
FramesShow t r (event ∷ events) (frame ∷ frames) end last =
    Spells frame (reads frame) × Agree (obeying t r event frame) (ran_on r event).screen × FramesShow (obeying t r event frame) (ran_on r event) events frames end last
