use Rattle.std.proofs.Common.{length, drop, sym, ap, ◌∙◌, arith}
use Rattle.key_proc.specs.declared.held.Fired.{Fired}
use Rattle.key_proc.specs.Facts.{has}
use Rattle.key_proc.specs.Firing.{taken}
use Rattle.key_proc.proofs.Lowering.{lowers, few-wait}
use Rattle.key_proc.proofs.held.Held.decide.Goals as goal

pub returns-clause-fewer : goal.returns-clause-fewer
returns-clause-fewer g c = λ not_wait not_nothing.
    let answer = c.decide_all-fired.ensures.answer in
    let less = lowers c.args.table.now (has c.args.facts.now) c.args.self.now c.args.flush (λ e. not_wait (answer ∙ e)) (λ e. not_nothing (answer ∙ e)) in
    let same = c.decide_all-fired.ensures.rest ∙ ap (λ (f : Fired). drop (taken f) c.args.self.now) answer in
    omega (arith, less, ap length same)

pub returns-clause-few : goal.returns-clause-few
returns-clause-few g c = λ waits.
    let few = few-wait c.args.table.now (has c.args.facts.now) c.args.self.now c.args.flush (c.decide_all-fired.ensures.sized waits) (sym c.decide_all-fired.ensures.answer ∙ waits) in
    let same = c.decide_all-fired.ensures.rest ∙ ap (λ (f : Fired). drop (taken f) c.args.self.now) waits in
    omega (arith, few, ap length same)
