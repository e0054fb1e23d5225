-- The origin of a search stays one.
use Rattle.std.proofs.Common.{◌≡◌, true, arith}
use Rattle.std.proofs.lemmas.Grind.{common_steps}
use Rattle.edit_cmds.specs.Running.{fits}
use Rattle.edit_cmds.proofs.Fitting.{origin_fitting}
use Rattle.edit_cmds.proofs.running.do_fitting.Goals as goal

pub returns-clause-origin : goal.returns-clause-origin
returns-clause-origin c =
    let fit : fits c.args.command c.args.state.now ≡ true = grind (arith, common_steps, c.fits.ensures, c.if-not-fits.false) in
    origin_fitting c.args.command c.args.key.now c.args.state.now c.do_row.new.state fit c.in_ok-done.ensures.state c.in_ok-done.ensures.origin
