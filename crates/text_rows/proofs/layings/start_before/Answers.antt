use Rattle.text_rows.proofs.LayingLemmas.{starts_before}
use Rattle.text_rows.proofs.layings.start_before.Goals as goal

pub returns-then-count-gt0-clause-starts : goal.returns-then-count-gt0-clause-starts
returns-then-count-gt0-clause-starts c =
    starts_before c.args.ground c.args.old.now c.args.marks.now c.args.front c.count_before-count.result c.count_before-first.result (record { place = 0; room = 0 })
    c.requires.front c.requires.marks c.if-count-gt0.true c.count_before-count.ensures.count c.count_before-first.ensures.count
