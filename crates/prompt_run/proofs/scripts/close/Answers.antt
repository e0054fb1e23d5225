use Rattle.std.proofs.Common.{◌≡◌, None, Some, is_some, rules}
use Rattle.prompt_run.proofs.CloseLemmas.{closes_reports}
use Rattle.prompt_run.proofs.PlayLemmas.{closes_frames}
use Rattle.prompt_run.proofs.scripts.close.Goals as goal

pub returns-in-Some : goal.returns-in-Some
returns-in-Some c = record {
  closes = λ p holds.
      let kept : c.finish.new.player.screen.frames ≡ Some c.into_vec.result.items = search rules in
      closes_frames (is_some c.args.player.screen.frames) p c.args.refused c.finish.new.player c.into_vec.result.items c.in_ok-status.status
      (c.in_ok-status.ensures.finishes p holds) kept c.in_ok-status.ensures.frames;
}

pub returns : goal.returns
returns c = record {
  closes = λ p holds.
      let none : c.finish.new.player.screen.frames ≡ None = search rules in
      closes_reports (is_some c.args.player.screen.frames) p c.args.refused c.finish.new.player c.replace-reports.result.items c.in_ok-status.status
      (c.in_ok-status.ensures.finishes p holds) none c.in_ok-status.ensures.frames (search rules);
}
