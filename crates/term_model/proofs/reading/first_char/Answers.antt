use Rattle.term_model.proofs.CharLemmas.{first-reads, first-forward, first-within}
use Rattle.term_model.proofs.reading.first_char.Goals as goal

pub returns-clause-reads : goal.returns-clause-reads
returns-clause-reads c =
    let first = c.first_char.ensures in first-reads c.args.bytes.now c.first_char.result first.waits first.whole first.char first.size

pub returns-clause-forward : goal.returns-clause-forward
returns-clause-forward c = let first = c.first_char.ensures in first-forward c.args.bytes.now c.first_char.result first.whole first.size

pub returns-clause-within : goal.returns-clause-within
returns-clause-within c = let first = c.first_char.ensures in first-within c.args.bytes.now c.first_char.result first.whole first.size
