use Rattle.std.proofs.Common.{◌-◌, sym, ◌∙◌, inl, inr, arith, true, false, drop}
use Rattle.completers.proofs.NumberLemmas.{stops_at, digit_at, digits_more, Stops}
use Rattle.completers.proofs.numbers.number_fault.Goals as goal
use Rattle.completers.proofs.numbers.number_fault.Goals.{then-at-start-ge-MAX_DIGITS-via-then-at-start-ge-MAX_DIGITS, then-at-start-ge-MAX_DIGITS-via-else-at-start-ge-MAX_DIGITS+then-not-is_ascii_digit}

pub returns-then-at-start-ge-MAX_DIGITS : goal.returns-then-at-start-ge-MAX_DIGITS
returns-then-at-start-ge-MAX_DIGITS c =
    let text = c.args.doc.now.text in
    let start = c.sign_len-start.result in
    let at = c.loop-at.at in
    let stops : Stops (drop start text) (at - start) =
    elim c.then-at-start-ge-MAX_DIGITS.branch [
      | then-at-start-ge-MAX_DIGITS-via-then-at-start-ge-MAX_DIGITS w ↦ inl (omega arith)
      | then-at-start-ge-MAX_DIGITS-via-else-at-start-ge-MAX_DIGITS+then-not-is_ascii_digit w ↦ inr (digit_at text start at w.char_at.result false c.loop-at.auto.at w.char_at.ensures (sym w.is_ascii_digit.ensures.value ∙ w.if-not-is_ascii_digit.true))
    ] in
    stops_at text start at c.sign_len-start.ensures.digits c.sign_len-start.ensures.within c.loop-at.auto.at (omega arith) c.loop-at.invariant.few c.loop-at.invariant.digits stops

pub loop-at-preserved : goal.loop-at-preserved
loop-at-preserved c =
    let text = c.args.doc.now.text in
    let start = c.sign_len-start.result in
    let digit = digit_at text start c.loop-at.at c.char_at.result true c.loop-at.auto.at c.char_at.ensures (sym c.is_ascii_digit.ensures.value ∙ c.if-not-is_ascii_digit.false) in
    record {
      few = omega arith;
      digits = digits_more text start c.loop-at.at c.loop-at.auto.at (omega arith) c.loop-at.invariant.digits digit;
    }
