-- The terminal takes a resize, and then the run its event.
use Rattle.std.proofs.Common.{◌≡◌, false, refl, ap, sym, ◌∙◌}
use Rattle.session_core.specs.Next.{size_after}
use Rattle.session_core.specs.State.{has_ended}
use Rattle.prompt_run.specs.Run.{terminal_at}
use Rattle.prompt_run.proofs.PlayerLemmas.{Advances, held_event}
use Rattle.prompt_run.proofs.players.Player.take.Goals as goal

pub returns-clause-done : goal.returns-clause-done
returns-clause-done c = λ p holds. (held_event c.args.self.now _ p c.args.event holds (record {
  sized = record c.args.self.now.screen { terminal = c.resize_with.new.terminal };
  resize = c.in_ok-resize_with.ensures.resized ∙ ap (λ e. terminal_at e (size_after c.args.event e) c.args.self.now.screen.terminal) c.size.ensures.size;
  kept = refl;
  going = sym c.ended.ensures.ended ∙ c.if-ended.false;
  goes = c.in_ok-run_event.ensures.done;
  may = c.in_ok-run_event.ensures.may;
  reports = refl;
})).0

pub returns-clause-frames : goal.returns-clause-frames
returns-clause-frames c = (held_event c.args.self.now
    (record c.args.self.now { runner = c.run_event.new.runner; screen = c.run_event.new.screen }) c.requires.playing.0 c.args.event c.requires.playing.1 (record {
      sized = record c.args.self.now.screen { terminal = c.resize_with.new.terminal };
      resize = c.in_ok-resize_with.ensures.resized ∙ ap (λ e. terminal_at e (size_after c.args.event e) c.args.self.now.screen.terminal) c.size.ensures.size;
      kept = refl;
      going = sym c.ended.ensures.ended ∙ c.if-ended.false;
      goes = c.in_ok-run_event.ensures.done;
      may = c.in_ok-run_event.ensures.may;
      reports = refl;
    })).1
