use Rattle.std.proofs.Common.{◌≡◌, ◌++◌, drop, flat_map}
use Rattle.prompt_run.specs.Script.{answer_row}
use Rattle.prompt_run.proofs.scripts.write_answers.Given as goal

-- what was written and the lines of the answers that are left are all lines
abbrev pub invariant-loop-answer : goal.invariant-loop-answer
invariant-loop-answer l = l.out.items ++ flat_map answer_row (drop l.answer-index l.answer-items) ≡ l.fn.out.items ++ flat_map answer_row l.answers
