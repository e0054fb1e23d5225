use Rattle.std.proofs.Common.{◌-◌, ◌∙◌, ◌++◌, ◌∷◌, [], ap, arith}
use Rattle.requests.specs.declared.items.Items.TheVariants.{Completions}
use Rattle.requests.proofs.CuttingLemmas.{cut_more}
use Rattle.requests.proofs.items.cut.Goals as goal

pub loop-number-preserved : goal.loop-number-preserved
loop-number-preserved c =
    let next = cut_more c.args.items.items c.loop-number.number (c.loop-number.number - 1) c.loop-number.items.items c.split_off.new.self.items c.in_ok-part.part.items c.loop-number.parts.items c.push.new.self.items (omega arith) (omega arith)
    c.loop-number.invariant.left c.in_ok-part.ensures.items c.in_ok-part.ensures.tail c.loop-number.invariant.parts
    (c.in_ok-push.ensures.items ∙ ap (λ l. c.loop-number.parts.items ++ l ∷ []) (ap Completions c.from_vec.ensures)) in
    record { left = next.0; parts = next.1 }
