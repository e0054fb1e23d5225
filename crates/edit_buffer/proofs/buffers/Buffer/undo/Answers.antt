-- The pair that was found becomes the document.
use Rattle.std.proofs.Common.{rules}
use Rattle.edit_buffer.proofs.Pairs.{IsUndone, restored_by_undo, IsKept-restored, state_of-undone}
use Rattle.edit_buffer.proofs.buffers.Buffer.undo.Goals as goal

pub invariant_of-self-in-Some : goal.invariant_of-self-in-Some
invariant_of-self-in-Some c =
    let h : IsUndone c.self.inside c.in-Some.pair.now c.in_ok-restored-in-Some.restored c.pop_differing.new.pairs c.push_front.new.self = search rules in
    IsKept-restored _ _ _ _ _ _ _ (restored_by_undo _ _ _ _ _ h)

pub returns-in_ok-present-in-Some-clause-ok : goal.returns-in_ok-present-in-Some-clause-ok
returns-in_ok-present-in-Some-clause-ok c =
    let h : IsUndone c.self.inside c.in-Some.pair.now c.in_ok-restored-in-Some.restored c.pop_differing.new.pairs c.push_front.new.self = search rules in
    rw (← c.self.view_is) (state_of-undone _ _ _ _ _ h)
