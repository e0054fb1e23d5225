use Rattle.std.proofs.Common.{List, ℕ, drop, length-drop, sym, ap, ◌∙◌, arith}
use Rattle.std.proofs.lemmas.List.{drop_all}
use Rattle.vt_input.specs.Sequences.{is_proper_prefix}
use Rattle.vt_input.proofs.SequenceLemmas.{proper_prefix-long, proper_prefix-nil}
use Rattle.vt_input.proofs.front.is_proper_prefix.Goals as goal

pub returns-then-row-text : goal.returns-then-row-text
returns-then-row-text c = sym (proper_prefix-long c.args.row.now c.args.text.now c.if-row-text.true)

pub returns : goal.returns
returns c =
    let text = c.args.text.now in
    let row = c.args.row.now in
    sym (ap (λ (t : List ℕ). is_proper_prefix t (drop c.loop-i.i row)) (drop_all c.loop-i.i text (omega arith))
    ∙ proper_prefix-nil (drop c.loop-i.i row) (omega (arith, length-drop c.loop-i.i row))) ∙ c.loop-i.invariant
