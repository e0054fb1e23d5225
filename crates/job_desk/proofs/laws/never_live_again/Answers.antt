use Rattle.std.proofs.Common.{arith}
use Rattle.job_desk.specs.Desks.{new_desk}
use Rattle.job_desk.specs.Laws.{after_calls}
use Rattle.job_desk.proofs.DeskLemmas.{calls_keep, IsDesk-new_desk, calls_raise, live_within, calls_over}
use Rattle.job_desk.proofs.laws.never_live_again.Goals as goal

pub returns : goal.returns
returns c before between behind id was is_not =
    let live = after_calls before new_desk in
    let within = live_within live id (calls_keep before new_desk IsDesk-new_desk) was in
    (calls_over id behind (after_calls between live) (record { within = omega (arith, within, calls_raise between live); dead = is_not })).dead
