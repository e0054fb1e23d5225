-- The pair that was undone last becomes the document.
use Rattle.std.proofs.Common.{◌∙◌, ap, rules}
use Rattle.edit_buffer.specs.Undo.{redone}
use Rattle.edit_buffer.proofs.Pairs.{IsRedone, restored_by_redo, IsKept-restored, state_of-redone}
use Rattle.edit_buffer.proofs.buffers.Buffer.redo.Goals as goal

pub invariant_of-self-in-Some : goal.invariant_of-self-in-Some
invariant_of-self-in-Some c =
    let h : IsRedone c.self.inside c.in-Some.pair.now c.in_ok-restored-in-Some.restored c.keep.new.pairs c.pop_front.new.self = search rules in
    IsKept-restored _ _ _ _ _ _ _ (restored_by_redo _ _ _ _ _ h)

pub returns-in_ok-keep-in-Some-clause-ok : goal.returns-in_ok-keep-in-Some-clause-ok
returns-in_ok-keep-in-Some-clause-ok c =
    let h : IsRedone c.self.inside c.in-Some.pair.now c.in_ok-restored-in-Some.restored c.keep.new.pairs c.pop_front.new.self = search rules in
    state_of-redone _ _ _ _ _ h ∙ ap redone c.self.view_is
