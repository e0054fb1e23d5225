use Rattle.std.proofs.Common.{ap, sym, refl, ◌∙◌}
use Rattle.std.proofs.lemmas.Str.{chars-encodes}
use Rattle.completers.specs.Verdicts.{verdict_of, verdict_at, fault_in, message_of}
use Rattle.completers.specs.declared.validators.Validator.TheVariants.{NonEmpty, Number, OneOf, Balanced}
use lib.Utf8.{encode}
use Rattle.completers.proofs.validators.Validator.check.Goals as goal

pub returns-in_ok-verdict-in-NonEmpty : goal.returns-in_ok-verdict-in-NonEmpty
unfolding encode
returns-in_ok-verdict-in-NonEmpty c =
    c.in_ok-verdict-in-NonEmpty.ensures ∙ ap (verdict_at c.blank_fault.result) (chars-encodes (message_of NonEmpty) refl)
    ∙ ap (λ f. verdict_at f (message_of NonEmpty)) c.blank_fault.ensures
    ∙ ap (λ v. verdict_of v c.args.doc.now.text) (sym c.in-NonEmpty.is)

pub returns-in_ok-verdict-in-Number : goal.returns-in_ok-verdict-in-Number
unfolding encode
returns-in_ok-verdict-in-Number c =
    c.in_ok-verdict-in-Number.ensures ∙ ap (verdict_at c.number_fault.result) (chars-encodes (message_of Number) refl)
    ∙ ap (λ f. verdict_at f (message_of Number)) c.number_fault.ensures
    ∙ ap (λ v. verdict_of v c.args.doc.now.text) (sym c.in-Number.is)

pub returns-in_ok-verdict-in-OneOf : goal.returns-in_ok-verdict-in-OneOf
unfolding encode
returns-in_ok-verdict-in-OneOf c =
    let words = c.in-OneOf.words in
    c.in_ok-verdict-in-OneOf.ensures ∙ ap (verdict_at c.list_fault-fault.result) (chars-encodes (message_of (OneOf words)) refl)
    ∙ ap (λ f. verdict_at f (message_of (OneOf words))) (c.list_fault-fault.ensures ∙ ap (λ ws. fault_in (OneOf ws) c.args.doc.now.text) c.as_slice.ensures)
    ∙ ap (λ v. verdict_of v c.args.doc.now.text) (sym c.in-OneOf.is)

pub returns-in_ok-verdict-in-Balanced : goal.returns-in_ok-verdict-in-Balanced
unfolding encode
returns-in_ok-verdict-in-Balanced c =
    c.in_ok-verdict-in-Balanced.ensures ∙ ap (verdict_at c.in_ok-fault-in-Balanced.fault) (chars-encodes (message_of Balanced) refl)
    ∙ ap (λ f. verdict_at f (message_of Balanced)) c.in_ok-fault-in-Balanced.ensures
    ∙ ap (λ v. verdict_of v c.args.doc.now.text) (sym c.in-Balanced.is)
