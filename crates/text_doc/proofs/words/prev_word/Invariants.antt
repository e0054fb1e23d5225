use Rattle.std.proofs.Common.{◌≡◌, ℕ, ◌<◌, ◌≤◌, false}
use Rattle.text_doc.specs.Words.{is_word_start}
use Rattle.text_doc.proofs.words.prev_word.Given as goal

abbrev pub invariant-loop-at : goal.invariant-loop-at
invariant-loop-at l = (k : ℕ) → l.at ≤ k → k < l.from → is_word_start l.big l.text k ≡ false
