-- The drawing is that of the state's scene.
use Rattle.std.proofs.Common.{◌≡◌, ◌∙◌, Bool, ap, is_some, rules, subst, sym}
use Rattle.prompt_view.specs.Drawing.{drawing_of}
use Rattle.prompt_view.specs.Rooms as rooms
use Rattle.session_core.specs.Draw.{draw, scene_by, IsSettled}
use Rattle.session_core.specs.Fields.{state_of}
use Rattle.session_core.proofs.SceneLemmas.{draw_is, settled_is}
use Rattle.session_core.proofs.sessions.Session.drawing.Goals as goal

pub returns-clause-drawn : goal.returns-clause-drawn
returns-clause-drawn c =
    let i = c.self.inside in
    let finished : c.is_some-finished.result ≡ is_some i.outcome = search rules in
    c.in_ok-drawing.ensures.drawn ∙ ap (λ (b : Bool). drawing_of (scene_by i.config i.edit b i.size i.scroll)) finished
    ∙ draw_is (state_of i) ∙ ap draw c.self.view_is

pub returns-clause-cursor : goal.returns-clause-cursor
returns-clause-cursor c = λ settled.
    let i = c.self.inside in
    let finished : c.is_some-finished.result ≡ is_some i.outcome = search rules in
    c.in_ok-drawing.ensures.cursor
    (ap (λ (b : Bool). rooms.settled_scroll (scene_by i.config i.edit b i.size i.scroll)) finished
    ∙ settled_is (state_of i) (subst IsSettled (sym c.self.view_is) settled))
