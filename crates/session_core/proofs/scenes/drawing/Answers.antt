-- The drawing is that of the scene.
use Rattle.std.proofs.Common.{◌∙◌, ap, sym}
use Rattle.prompt_view.specs.Drawing.{drawing_of}
use Rattle.prompt_view.specs.Rooms as rooms
use Rattle.prompt_view.specs.Scene.{SceneFields}
use Rattle.session_core.proofs.scenes.drawing.Goals as goal

pub returns-clause-drawn : goal.returns-clause-drawn
returns-clause-drawn c = c.in_ok-drawing.ensures.drawing ∙ ap drawing_of c.scene-scene.ensures.scene

pub returns-clause-cursor : goal.returns-clause-cursor
returns-clause-cursor c = λ settled.
    let is = c.scene-scene.ensures.scene in
    c.in_ok-drawing.ensures.cursor (ap rooms.settled_scroll is ∙ settled ∙ sym (ap (λ (s : SceneFields). s.scroll) is))
