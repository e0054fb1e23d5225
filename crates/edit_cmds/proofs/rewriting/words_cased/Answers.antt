-- One more word is put, or no further word ends.
use Rattle.std.proofs.Common.{◌≡◌, ◌++◌, List, ℕ, length, slice_range, ap, ◌∙◌, arith}
use Rattle.edit_cmds.specs.Rewriting.{cased}
use Rattle.edit_cmds.proofs.Casing.{step_text, step_place, length_slice, stop_text, stop_place}
use Rattle.edit_cmds.proofs.rewriting.words_cased.Goals as goal

pub loop-left-preserved : goal.loop-left-preserved
loop-left-preserved c =
    let text = c.args.doc.now.text in
    let at = c.loop-left.at in
    let end = c.word_end_from-end.result in
    let size = length_slice text at end c.word_end_from-end.ensures.behind c.word_end_from-end.ensures.within in
    let word : c.as_slice.result.now ≡ slice_range text at end = c.as_slice.ensures ∙ c.in_ok-word.ensures.part in
    let long : length c.as_slice.result.now ≡ length (slice_range text at end) = ap (λ (xs : List ℕ). length xs) word in
    let put = c.in_ok-push_cased.ensures.length in
    record {
      so_far = step_text c.args.case text c.loop-left.text c.push_cased.new.text _ at end c.loop-left.left (omega arith) c.word_end_from-end.ensures.place
          (c.in_ok-push_cased.ensures.text ∙ ap (λ (xs : List ℕ). c.loop-left.text ++ cased c.args.case xs) word) c.loop-left.invariant.so_far;
      steps = step_place text at end c.loop-left.left _ (omega arith) c.word_end_from-end.ensures.place c.loop-left.invariant.steps;
      passed = omega (arith, size, long, put);
      within = c.word_end_from-end.ensures.within;
    }

pub returns-then-end-at-clause-text : goal.returns-then-end-at-clause-text
returns-then-end-at-clause-text c =
    stop_text c.args.case c.args.doc.now.text c.loop-left.text _ c.loop-left.at c.word_end_from-end.result c.loop-left.left c.word_end_from-end.ensures.place c.if-end-at.true c.loop-left.invariant.so_far

pub returns-then-end-at-clause-end : goal.returns-then-end-at-clause-end
returns-then-end-at-clause-end c =
    c.loop-left.invariant.passed ∙ stop_place c.args.doc.now.text c.loop-left.at c.word_end_from-end.result c.loop-left.left _ c.word_end_from-end.ensures.place c.if-end-at.true c.loop-left.invariant.steps
