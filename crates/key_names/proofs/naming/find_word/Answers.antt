use Rattle.std.proofs.Common.{ap, ◌∙◌, arith}
use borrow.Author.Count.{below_more}
use Rattle.std.proofs.lemmas.Bool.{false≢true}
use Rattle.std.proofs.lemmas.List.{get_or_default}
use Rattle.key_names.specs.declared.key.Key.TheVariants.{Any}
use Rattle.key_names.specs.KeyName.{word_of}
use Rattle.key_names.proofs.Words.{place_of, word_keys}
use Rattle.key_names.proofs.naming.find_word.Goals as goal

pub loop-key-preserved : goal.loop-key-preserved
loop-key-preserved c = below_more _ _ c.loop-key.invariant (λ named.
    false≢true (c.if-is_word.ensures.1 (ap (λ k. word_of k) (get_or_default word_keys c.loop-key.key-index _ Any c.loop-key-test.true) ∙ named)))

pub returns-clause-none : goal.returns-clause-none
returns-clause-none c = λ key named.
    let place = place_of key c.args.name.now named in
    c.loop-key.invariant place.0 (omega arith) (ap (λ k. word_of k) place.2 ∙ named)
