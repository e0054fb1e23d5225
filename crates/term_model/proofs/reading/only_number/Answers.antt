use Rattle.std.proofs.Common.{◌≡◌, sym, ap, ◌∙◌}
use Rattle.term_model.specs.Parameters.{numbers_from, numbers}
use Rattle.term_model.specs.Controls.{only}
use Rattle.term_model.proofs.ReadingLemmas.{only-more}
use Rattle.std.proofs.lemmas.Bool.{cond-true}
use Rattle.term_model.proofs.reading.only_number.Goals as goal

pub returns-in_default-Some : goal.returns-in_default-Some
returns-in_default-Some c =
    let params = c.args.params.now in
    let valid : numbers params ≡ numbers_from 0 params = cond-true _ _ _ (sym c.is_numeric.ensures ∙ c.if-not-is_numeric.false) in
    sym (ap only (valid ∙ (rw c.in_default-Some.is-1 at c.first_number.ensures.value)) ∙ only-more c.in_default-Some.field-0-1.now _ 0)
