use Rattle.std.proofs.Common.{◌≡◌, ◌+◌, ◌-◌, true, eqb, get_or, length, sym, ◌∙◌, arith, eq-eqb, cond}
use Rattle.std.proofs.lemmas.Bool.Decides.{nat_tests}
use Rattle.std.proofs.lemmas.Option.{slice_get_past}
use Rattle.text_doc.specs.Places.{passing}
use Rattle.text_doc.specs.Finds.{stands_at}
use Rattle.text_doc.proofs.Walks.{nth_found, length-passing_back, length-passing_le}
use Rattle.text_doc.proofs.finds.nth_ahead.Goals as goal
use Rattle.text_doc.proofs.finds.nth_ahead.Goals.{then-char_at-c+else-seen-nth, else-char_at-c}

pub returns-then-seen-nth-clause-place : goal.returns-then-seen-nth-clause-place
returns-then-seen-nth-clause-place c =
    let read : c.char_at.result ≡ get_or c.args.text.now c.loop-at.at 0 = c.char_at.ensures in
    let here : eqb (get_or c.args.text.now c.loop-at.at 0) c.args.c ≡ true = eq-eqb _ _ (sym read ∙ c.if-char_at-c.true) in
    nth_found (stands_at c.args.c c.args.text.now) c.args.from c.args.to c.loop-at.at (c.args.nth - 1) c.loop-at.invariant.behind c.loop-at-test.true here (omega arith)

pub loop-at-preserved : goal.loop-at-preserved
loop-at-preserved c =
    let read : c.char_at.result ≡ get_or c.args.text.now c.loop-at.at 0 = c.char_at.ensures in
    let more : length (passing (stands_at c.args.c c.args.text.now) c.args.from (c.loop-at.at + 1)) ≡ length (passing (stands_at c.args.c c.args.text.now) c.args.from c.loop-at.at) + cond (eqb (get_or c.args.text.now c.loop-at.at 0) c.args.c) 1 0 = length-passing_back (stands_at c.args.c c.args.text.now) c.args.from c.loop-at.at c.loop-at.invariant.behind in
    elim c.if-char_at-c.branch [
      | then-char_at-c+else-seen-nth w ↦ record {
        behind = omega arith;
        counted = grind (arith, nat_tests);
        too_few = omega arith;
      }
      | else-char_at-c w ↦ record {
        behind = omega arith;
        counted = grind (arith, nat_tests);
        too_few = omega arith;
      }
    ]

pub returns-clause-place : goal.returns-clause-place
returns-clause-place c =
    let few = length-passing_le (stands_at c.args.c c.args.text.now) c.args.from c.args.to c.loop-at.at c.loop-at-test.false in
    sym (slice_get_past (passing (stands_at c.args.c c.args.text.now) c.args.from c.args.to) (c.args.nth - 1) (omega arith))
