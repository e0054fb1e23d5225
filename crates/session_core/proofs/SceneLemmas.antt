-- The drawing of a state and its scroll are those of its scene.
use Rattle.std.proofs.Common.{◌≡◌, ◌≤◌, arith, is_some, length, refl}
use Rattle.prompt_view.specs.Drawing.{drawing_of, ArePens}
use Rattle.prompt_view.proofs.Heights.{drawing_high}
use Rattle.prompt_view.specs.Rooms as rooms
use Rattle.session_core.specs.Draw.{draw, scene_by, scene_of, usual_looks, IsSettled}
use Rattle.session_core.specs.State.{State}

-- each class has only colours that a terminal has
pub usual_pens : ArePens usual_looks
usual_pens = record {
  prompt = (tt, tt);
  continuation = (tt, tt);
  control = (omega arith, tt);
  selected = (tt, tt);
  suggestion = (omega arith, tt);
  right_prompt = (tt, tt);
  menu = (omega arith, omega arith);
  chosen = (omega arith, omega arith);
  verdict = (omega arith, omega arith);
  argument = (tt, tt);
  search = (tt, tt);
  toolbar = (tt, tt);
}

pub draw_is : (s : State) → drawing_of (scene_by s.settings s.edit (is_some s.outcome) s.size s.scroll) ≡ draw s
unfolding draw scene_of
draw_is s = refl

pub settled_is : (s : State) → IsSettled s → rooms.settled_scroll (scene_by s.settings s.edit (is_some s.outcome) s.size s.scroll) ≡ s.scroll
unfolding scene_of
settled_is s settled = settled

-- a drawing is no higher than the terminal
pub draw_high : (s : State) → length (draw s).grid ≤ s.size.rows
unfolding draw scene_of
draw_high s = drawing_high (scene_by s.settings s.edit (is_some s.outcome) s.size s.scroll)
