-- Each line leads to the play that it says.
use Rattle.std.proofs.Common.{◌≡◌, None, Some, if◌then◌else◌, refl, rules}
use Rattle.events.specs.declared.events.Event.TheVariants as event
use Rattle.script_lines.specs.ScriptLine.{script_line}
use Rattle.script_lines.specs.declared.script_line.ScriptLine.TheVariants as line
use Rattle.prompt_run.specs.Play.{done, reporting}
use Rattle.prompt_run.proofs.ScriptLemmas.{plays_said}
use Rattle.prompt_run.proofs.scripts.play_line.Goals as goal

pub returns-in_ok-take-in-Piece-clause-plays : goal.returns-in_ok-take-in-Piece-clause-plays
returns-in_ok-take-in-Piece-clause-plays c = λ p holds.
    let said : (if c.args.past then None else script_line c.args.line.now) ≡ Some (line.Piece c.in-Piece.bytes) = search rules in
    plays_said p (done p (event.Piece c.in-Piece.bytes)) _ (line.Piece c.in-Piece.bytes) c.take.new.self said (c.in_ok-take-in-Piece.ensures.done p holds)
    (λ number rest. refl)

pub returns-in_ok-take-in-Tick-clause-plays : goal.returns-in_ok-take-in-Tick-clause-plays
returns-in_ok-take-in-Tick-clause-plays c = λ p holds.
    let said : (if c.args.past then None else script_line c.args.line.now) ≡ Some (line.Tick c.in-Tick.moment) = search rules in
    plays_said p (done p (event.Tick c.in-Tick.moment)) _ (line.Tick c.in-Tick.moment) c.take-in-Tick.new.self said (c.in_ok-take-in-Tick.ensures.done p holds)
    (λ number rest. refl)

pub returns-in_ok-take-in-Resize-clause-plays : goal.returns-in_ok-take-in-Resize-clause-plays
returns-in_ok-take-in-Resize-clause-plays c = λ p holds.
    let said : (if c.args.past then None else script_line c.args.line.now) ≡ Some (line.Resize c.in-Resize.size) = search rules in
    plays_said p (done p (event.Resize c.in-Resize.size)) _ (line.Resize c.in-Resize.size) c.take-in-Resize.new.self said (c.in_ok-take-in-Resize.ensures.done p holds)
    (λ number rest. refl)

pub returns-in_ok-take-in-End-clause-plays : goal.returns-in_ok-take-in-End-clause-plays
returns-in_ok-take-in-End-clause-plays c = λ p holds.
    let said : (if c.args.past then None else script_line c.args.line.now) ≡ Some line.End = search rules in
    plays_said p (done p event.End) _ line.End c.take-in-End.new.self said (c.in_ok-take-in-End.ensures.done p holds) (λ number rest. refl)

pub returns-in_ok-report-in-Show-clause-plays : goal.returns-in_ok-report-in-Show-clause-plays
returns-in_ok-report-in-Show-clause-plays c = λ p holds.
    let said : (if c.args.past then None else script_line c.args.line.now) ≡ Some line.Show = search rules in
    plays_said p (reporting p) _ line.Show c.report.new.self said (c.in_ok-report-in-Show.ensures.reporting p holds) (λ number rest. refl)
