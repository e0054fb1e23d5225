use Rattle.std.proofs.Common.{refl, arith}
use Rattle.key_proc.specs.Facts.{has}
use Rattle.key_proc.proofs.Answering.{answered}
use Rattle.key_proc.proofs.held.Held.decide_all.Goals as goal

pub returns-in-Fire-clause-answer : goal.returns-in-Fire-clause-answer
returns-in-Fire-clause-answer g c =
    answered c.args.table.now (has c.args.facts.now) c.args.self.now c.args.flush _ _ c.in-Fire.ensures.decided (omega arith) c.fire.ensures.answer

pub returns-in-Wait-clause-answer : goal.returns-in-Wait-clause-answer
returns-in-Wait-clause-answer g c =
    answered c.args.table.now (has c.args.facts.now) c.args.self.now c.args.flush _ _ c.in-Wait.ensures.decided (omega arith) (λ first more held. refl)

pub returns-in-Drop-clause-answer : goal.returns-in-Drop-clause-answer
returns-in-Drop-clause-answer g c =
    answered c.args.table.now (has c.args.facts.now) c.args.self.now c.args.flush _ _ c.in-Drop.ensures.decided (omega arith) c.drop_first.ensures.answer
