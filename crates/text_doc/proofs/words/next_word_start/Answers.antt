use Rattle.std.proofs.Common.{arith}
use Rattle.text_doc.specs.Words.{is_word_start, next_word_start}
use Rattle.text_doc.proofs.Walks.{first_found, first_none}
use Rattle.text_doc.proofs.words.next_word_start.Goals as goal

pub returns-then-is_word_start-clause-place : goal.returns-then-is_word_start-clause-place
unfolding next_word_start
returns-then-is_word_start-clause-place c =
    first_found (is_word_start c.args.big c.args.text.now) _ _ _ (omega arith) (omega arith) (cc)
    (λ k lo hi. c.loop-at.invariant k (omega arith) hi)

pub returns-clause-place : goal.returns-clause-place
unfolding next_word_start
returns-clause-place c = first_none (is_word_start c.args.big c.args.text.now) _ _ (λ k lo hi. c.loop-at.invariant k (omega arith) (omega arith))
