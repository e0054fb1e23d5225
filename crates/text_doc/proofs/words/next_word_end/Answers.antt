use Rattle.std.proofs.Common.{arith}
use Rattle.text_doc.specs.Words.{is_word_end, next_word_end}
use Rattle.text_doc.proofs.Walks.{first_found, first_none}
use Rattle.text_doc.proofs.words.next_word_end.Goals as goal

pub returns-then-is_word_end-clause-place : goal.returns-then-is_word_end-clause-place
unfolding next_word_end
returns-then-is_word_end-clause-place c =
    first_found (is_word_end c.args.big c.args.text.now) _ _ _ (omega arith) (omega arith) (cc)
    (λ k lo hi. c.loop-at.invariant k (omega arith) hi)

pub returns-clause-place : goal.returns-clause-place
unfolding next_word_end
returns-clause-place c = first_none (is_word_end c.args.big c.args.text.now) _ _ (λ k lo hi. c.loop-at.invariant k (omega arith) (omega arith))
