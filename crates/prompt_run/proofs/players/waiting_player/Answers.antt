-- A run that has not begun, on a blank terminal.
use Rattle.std.proofs.Common.{◌≡◌, [], refl, ap, sym, ◌∙◌, subst, rules}
use Rattle.session_core.specs.State.{opened}
use Rattle.term_model.specs.Term.{IsTerminal, start_of}
use Rattle.prompt_run.specs.Play.{terminal_size}
use Rattle.prompt_run.specs.declared.players.Player.{Player}
use Rattle.prompt_run.proofs.PlayerLemmas.{held_first}
use Rattle.prompt_run.proofs.players.waiting_player.Goals as goal

pub returns-clause-waiting : goal.returns-clause-waiting
returns-clause-waiting c =
    let player : Player = record { runner = c.in_ok-runner.runner; screen = c.new-2.result; reports = c.new-3.result } in
    let same : c.opening.inside.config ≡ c.args.opening.settings = search rules in
    let size : c.size_of-size.result ≡ terminal_size c.args.opening.settings = c.size_of-size.ensures ∙ ap terminal_size same in
    let none : c.new-3.result.items ≡ [] = search rules in
    held_first c.args.frames player c.args.opening
    (c.in_ok-runner.ensures.opened ∙ ap (λ size. opened c.args.opening.settings c.args.opening.entries size 0) size)
    c.in_ok-runner.ensures.begun c.in_ok-runner.ensures.drawn (c.new-2.ensures.terminal ∙ c.in_ok-terminal.ensures.start ∙ ap start_of size)
    (subst IsTerminal (sym c.new-2.ensures.terminal) c.in_ok-terminal.ensures.kept) none (c.new-2.ensures.frames ∙ c.first_frames-kept.ensures)
