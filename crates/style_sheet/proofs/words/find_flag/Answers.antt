use Rattle.std.proofs.Common.{ap, ◌∙◌, arith}
use borrow.Author.Count.{below_more}
use Rattle.std.proofs.lemmas.Bool.{false≢true}
use Rattle.std.proofs.lemmas.List.{get_or_default}
use Rattle.std.proofs.lemmas.Slice.Eq.{bytes_eq-Decides}
use Rattle.style_sheet.specs.declared.changes.Flag.TheVariants.{Bold}
use Rattle.style_sheet.specs.Spelling.{flag_name}
use Rattle.style_sheet.proofs.Tables.{flags, flag_place}
use Rattle.style_sheet.proofs.words.find_flag.Goals as goal

pub loop-flag-preserved : goal.loop-flag-preserved
loop-flag-preserved c = below_more _ _ c.loop-flag.invariant (λ named.
    false≢true (c.if-eq.ensures ∙ (bytes_eq-Decides _ _).1 (c.flag_name.ensures ∙ ap (λ k. flag_name k) (get_or_default flags c.loop-flag.flag-index _ Bold c.loop-flag-test.true) ∙ named)))

pub returns-clause-none : goal.returns-clause-none
returns-clause-none c = λ flag named.
    let place = flag_place flag in
    c.loop-flag.invariant place.0 (omega arith) (ap (λ k. flag_name k) place.2 ∙ named)
