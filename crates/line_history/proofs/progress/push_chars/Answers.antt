use Rattle.std.proofs.Common.{◌++◌, sym, ap, ◌∙◌, arith}
use Rattle.std.proofs.lemmas.List.{append-nil}
use Rattle.line_history.specs.Reading.{front}
use Rattle.line_history.proofs.Fronts.{front_all, front_full}
use Rattle.line_history.proofs.progress.push_chars.Goals as goal

pub returns-then-len-gt-MAX_LENGTH-clause-text : goal.returns-then-len-gt-MAX_LENGTH-clause-text
returns-then-len-gt-MAX_LENGTH-clause-text c =
    sym (front_full c.loop-c.text c.loop-c.c-iterator (omega arith) c.loop-c.invariant.short) ∙ c.loop-c.invariant.so_far

pub returns-clause-text : goal.returns-clause-text
returns-clause-text c =
    let text = c.loop-c.text in
    sym (ap (λ rest. front (text ++ rest)) c.in-None.ensures.steps.0 ∙ ap front (append-nil text) ∙ front_all text c.loop-c.invariant.short)
    ∙ c.loop-c.invariant.so_far
