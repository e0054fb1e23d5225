use Rattle.std.proofs.Common.{arith}
use Rattle.text_doc.specs.Words.{is_word_start, prev_word}
use Rattle.text_doc.proofs.Walks.{last_found, last_none}
use Rattle.text_doc.proofs.words.prev_word.Goals as goal

pub returns-then-is_word_start-clause-place : goal.returns-then-is_word_start-clause-place
unfolding prev_word
returns-then-is_word_start-clause-place c =
    last_found (is_word_start c.args.big c.args.text.now) _ _ _ (omega arith) (omega arith) (cc)
    (λ k lo hi. c.loop-at.invariant k (omega arith) hi)

pub returns-clause-place : goal.returns-clause-place
unfolding prev_word
returns-clause-place c = last_none (is_word_start c.args.big c.args.text.now) _ _ (λ k lo hi. c.loop-at.invariant k (omega arith) hi)
