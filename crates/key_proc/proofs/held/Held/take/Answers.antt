use Rattle.std.proofs.Common.{◌≡◌, ◌+◌, ◌-◌, drop, sym, ap, ◌∙◌, arith}
use Rattle.std.specs.List.{slice_get}
use Rattle.key_proc.proofs.Presses.{drop-one, get-dropped}
use Rattle.key_proc.proofs.held.Held.take.Goals as goal

pub loop-taken-preserved : goal.loop-taken-preserved
loop-taken-preserved c =
    let k = c.loop-taken._taken in
    let call = c.take_first-last-in-loop-taken.ensures in
    let at : k + 1 - 1 ≡ k = omega arith in
    record {
      rest = call.rest ∙ ap (drop 1) c.loop-taken.invariant.rest ∙ drop-one k c.args.self.now;
      last = call.first ∙ ap (λ held. slice_get held 0) c.loop-taken.invariant.rest ∙ get-dropped k c.args.self.now ∙ ap (slice_get c.args.self.now) (sym at);
    }
