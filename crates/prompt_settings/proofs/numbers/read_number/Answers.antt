use Rattle.std.proofs.Common.{ℕ, ◌+◌, refl, ◌≡◌, Some, get_or, ap, sym, ◌∙◌, subst, arith, take_all}
use borrow.Author.Count.{below_more}
use Rattle.std.specs.Int.{IsInRange}
use Rattle.std.specs.Str.Parse.{digits_value}
use Rattle.std.proofs.lemmas.Bool.{false≢true}
use Rattle.std.proofs.lemmas.List.{get_or_default}
use Rattle.std.proofs.lemmas.Str.Parse.{digit_from_value}
use Rattle.prompt_settings.proofs.NumberLemmas.{no_number, may_not_begin, digits_of_number, not_beyond, one_more, read_number}
use Rattle.prompt_settings.proofs.numbers.read_number.Goals as goal

pub returns-then-not-may_begin_number : goal.returns-then-not-may_begin_number
returns-then-not-may_begin_number c =
    no_number c.args.most c.args.text.now (may_not_begin c.args.most c.args.text.now (omega arith) (λ may. false≢true (c.if-not-may_begin_number.ensures.1 may)))

pub returns-in_err-to_digit : goal.returns-in_err-to_digit
returns-in_err-to_digit c =
    c.from_residual.ensures
    ∙ no_number c.args.most c.args.text.now (λ n number.
    let digit : IsInRange 48 57 c.c-item.result =
    subst (IsInRange 48 57) (sym (c.c-item.is ∙ get_or_default c.args.text.now c.loop-c.c-index _ 0 c.loop-c-test.true))
    (digits_of_number c.args.most c.args.text.now n (omega arith) number c.loop-c.c-index c.loop-c-test.true) in
    omega (arith, digit.1, c.in_err-to_digit.ensures.cases digit.0 digit.1))

pub returns-then-number-most : goal.returns-then-number-most
returns-then-number-most c =
    no_number c.args.most c.args.text.now (λ n number.
    let value = one_more c.args.text.now c.loop-c.c-index c.loop-c.number c.from.result c.c-item.result c.loop-c-test.true c.c-item.is
    c.loop-c.invariant.value (c.from.ensures ∙ c.in_ok-to_digit.ensures.value.1) in
    not_beyond c.args.most c.args.text.now n (c.loop-c.c-index + 1) (omega (arith, value)) number)

pub loop-c-preserved : goal.loop-c-preserved
loop-c-preserved c = record {
  value = one_more c.args.text.now c.loop-c.c-index c.loop-c.number c.from.result c.c-item.result c.loop-c-test.true c.c-item.is
      c.loop-c.invariant.value (c.from.ensures ∙ c.in_ok-to_digit.ensures.value.1);
  within = c.if-number-most.false;
  digits = below_more (λ k. IsInRange 48 57 (get_or c.args.text.now k 0)) _ c.loop-c.invariant.digits
      (subst (IsInRange 48 57) (c.c-item.is ∙ get_or_default c.args.text.now c.loop-c.c-index _ 0 c.loop-c-test.true)
      (digit_from_value c.c-item.result c.in_ok-to_digit.ensures.value.0));
}

pub returns : goal.returns
returns c =
    let may = c.if-not-may_begin_number.ensures.0 refl in
    let whole : c.loop-c.number ≡ digits_value 10 c.args.text.now =
    c.loop-c.invariant.value ∙ ap (digits_value 10) (take_all c.loop-c.c-index c.args.text.now c.loop-c-test.false) in
    ap (λ (n : ℕ). Some n) whole
    ∙ read_number c.args.most c.args.text.now (omega arith) may.0 may.1
    (λ k below. c.loop-c.invariant.digits k (omega arith)) (omega (arith, whole, c.loop-c.invariant.within))
