-- The first pair behind those of the same text.
use Rattle.std.proofs.Common.{drop, sym, ◌∙◌, ap, arith}
use Rattle.std.specs.Prelude.{slice_get}
use Rattle.circular_buffer.proofs.Places.{slice_get-drop}
use Rattle.edit_buffer.proofs.undo.first_differing.Goals as goal

pub returns : goal.returns
returns c =
    c.nth_front.ensures
    ∙ sym (slice_get-drop c.count_equal-equal.result c.args.pairs.now.items 0 c.count_equal-equal.result (omega arith))
    ∙ ap (λ k. slice_get (drop k c.args.pairs.now.items) 0) c.count_equal-equal.ensures
