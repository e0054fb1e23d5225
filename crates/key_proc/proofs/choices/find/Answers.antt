use Rattle.std.proofs.Common.{sym, ◌∙◌}
use Rattle.std.proofs.lemmas.Bool.{and_parts}
use Rattle.key_proc.specs.Facts.{has}
use Rattle.key_proc.specs.Filters.{holds}
use Rattle.key_proc.specs.Matching.{agrees}
use Rattle.key_proc.proofs.Walk.{active-more}
use Rattle.key_proc.proofs.Agreeing.{found-same}
use Rattle.key_proc.proofs.choices.find.Goals as goal
use Rattle.key_proc.proofs.choices.find.Goals.{then-may_fire, else-may_fire}

pub loop-binding-preserved : goal.loop-binding-preserved
loop-binding-preserved g c =
    let facts = has c.args.facts.now in
    let table = c.as_slice-binding-items.result.now in
    let keys = c.args.keys.now in
    let i = c.loop-binding.binding-index in
    let binding = c.binding-item.result in
    elim c.if-may_fire.branch [
      | then-may_fire w ↦ rw (w.found-is, active-more facts table i binding c.loop-binding-test.true c.binding-item.is (and_parts (agrees binding.keys keys) (holds facts binding.filter) (sym c.may_fire.ensures ∙ w.if-may_fire.true)).1) (w.see.ensures _ c.loop-binding.invariant)
      | else-may_fire w ↦ rw w.found-is (found-same facts table i binding keys _ c.loop-binding-test.true c.binding-item.is (sym c.may_fire.ensures ∙ w.if-may_fire.false) c.loop-binding.invariant)
    ]
