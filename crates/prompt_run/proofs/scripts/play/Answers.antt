-- Settings, events and reports, and what closes them, are those of the whole script.
use Rattle.std.proofs.Common.{◌≡◌, ◌∙◌, Bool, subst}
use Rattle.prompt_run.specs.Play.{begun}
use Rattle.prompt_run.specs.Replay.{Closes, IsOutput}
use Rattle.prompt_run.specs.Script.{output}
use Rattle.prompt_run.proofs.ScriptLemmas.{closes_script}
use Rattle.prompt_run.proofs.scripts.play.Goals as goal
use Rattle.prompt_run.proofs.scripts.play.Goals.{In_ok-printed}

whole : (c : In_ok-printed) → IsOutput c.args.frames c.args.script.now c.in_ok-printed.printed.items × (c.in_ok-printed.status ≡ (output c.args.script.now).1)
whole c =
    let plays = c.in_ok-refused.ensures.plays (begun c.in_ok-opening.opening) c.in_ok-player.ensures.begun in
    let P : Bool → Type 0 = λ frames. Closes frames plays.0 c.in_ok-refused.refused c.in_ok-printed.printed.items c.in_ok-printed.status in
    closes_script c.args.frames c.args.script.now c.in_ok-printed.printed.items plays.0 c.in_ok-refused.refused c.in_ok-printed.status
    (c.in_ok-opening.ensures.configured ∙ plays.2)
    (subst P (c.in_ok-refused.ensures.frames ∙ c.in_ok-player.ensures.frames) (c.in_ok-printed.ensures.closes plays.0 plays.1))

pub returns-clause-output : goal.returns-clause-output
returns-clause-output c = (whole c).0

pub returns-clause-status : goal.returns-clause-status
returns-clause-status c = (whole c).1
