use Rattle.job_desk.specs.Desks.{new_desk}
use Rattle.job_desk.proofs.DeskLemmas.{calls_keep, IsDesk-new_desk}
use Rattle.job_desk.proofs.laws.stays_desk.Goals as goal

pub returns : goal.returns
returns c calls = calls_keep calls new_desk IsDesk-new_desk
