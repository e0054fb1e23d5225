use Rattle.vt_input.proofs.NearLemmas.{unlike-at}
use Rattle.vt_input.proofs.near.is_unlike.Goals as goal

pub returns-in-Some : goal.returns-in-Some
returns-in-Some c =
    unlike-at c.args.row.now c.args.text.now c.args.at c.in-Some.c c.index-text-at.result c.in-Some.ensures c.index-text-at.is c.requires
