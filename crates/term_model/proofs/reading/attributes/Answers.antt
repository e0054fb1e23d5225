use Rattle.std.proofs.Common.{◌≡◌, sym, ap, ◌∙◌}
use Rattle.std.proofs.lemmas.Bool.{cond-true}
use Rattle.term_model.specs.Parameters.{numbers_from, numbers}
use Rattle.term_model.specs.Controls.{rendition}
use Rattle.term_model.proofs.ReadingLemmas.{rendition-numbers}
use Rattle.term_model.proofs.reading.attributes.Goals as goal

pub returns : goal.returns
returns c =
    let params = c.args.params.now in
    let valid : numbers params ≡ numbers_from 0 params = cond-true _ _ _ (sym c.is_numeric.ensures ∙ c.if-not-is_numeric.false) in
    sym (ap rendition valid ∙ rendition-numbers params 0)
