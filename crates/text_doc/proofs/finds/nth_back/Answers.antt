use Rattle.std.proofs.Common.{◌≡◌, ◌+◌, ◌-◌, true, eqb, get_or, length, reverse, sym, ◌∙◌, arith, eq-eqb}
use Rattle.std.proofs.lemmas.List.{length-reverse}
use Rattle.std.proofs.lemmas.Option.{slice_get_past}
use Rattle.text_doc.specs.Places.{passing}
use Rattle.text_doc.specs.Finds.{stands_at}
use Rattle.text_doc.proofs.Walks.{nth_found_back}
use Rattle.text_doc.proofs.finds.nth_back.Goals as goal

pub returns-then-seen-nth-clause-place : goal.returns-then-seen-nth-clause-place
returns-then-seen-nth-clause-place c =
    let read : c.char_at.result ≡ get_or c.args.text.now (c.loop-at.at - 1) 0 = c.char_at.ensures in
    let here : eqb (get_or c.args.text.now (c.loop-at.at - 1) 0) c.args.c ≡ true = eq-eqb _ _ (sym read ∙ c.if-char_at-c.true) in
    let next : c.loop-at.at - 1 + 1 ≡ c.loop-at.at = omega arith in
    let count : length (passing (stands_at c.args.c c.args.text.now) (c.loop-at.at - 1 + 1) c.args.to) ≡ c.args.nth - 1 = rw next (omega arith) in
    nth_found_back (stands_at c.args.c c.args.text.now) c.args.from c.args.to (c.loop-at.at - 1) (c.args.nth - 1) (omega arith) (omega arith) here count

pub returns-clause-place : goal.returns-clause-place
returns-clause-place c =
    let start : c.loop-at.at ≡ c.args.from = omega arith in
    let few : length (passing (stands_at c.args.c c.args.text.now) c.args.from c.args.to) ≡ c.loop-at.seen = rw (← start) c.loop-at.invariant.counted in
    sym (slice_get_past (reverse (passing (stands_at c.args.c c.args.text.now) c.args.from c.args.to)) (c.args.nth - 1) (omega (arith, length-reverse (passing (stands_at c.args.c c.args.text.now) c.args.from c.args.to))))
