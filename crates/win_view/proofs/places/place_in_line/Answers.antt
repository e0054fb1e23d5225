use Rattle.std.proofs.Common.{◌≡◌, ℕ, ◌-◌, ◌∙◌, length, refl, sym, ap, subst, arith}
use Rattle.win_view.specs.Contents.{last_row, rows_to}
use Rattle.win_view.specs.FirstRow.{IsFirstRow}
use Rattle.win_view.proofs.FirstRows.{next_of}
use Rattle.win_view.proofs.LinePlaces.{place_behind, rows_here, col_here, col_one}
use Rattle.win_view.proofs.places.place_in_line.Goals as goal

pub loop-count-preserved : goal.loop-count-preserved
loop-count-preserved c =
    let loop = c.loop-count.invariant in
    let at = c.loop-count.at - c.loop-count.count in
    let behind = c.split_at.result.1.now in
    let next = next_of c.args.width c.loop-count.count c.loop-count.rest.now behind c.requires.width loop.first (omega arith) c.split_at.ensures.back in
    let same = place_behind c.args.width c.loop-count.count c.loop-count.at at c.loop-count.rest.now behind c.requires.width loop.first c.loop-count-test.true loop.within c.split_at.ensures.back refl in
    record {
      within = omega (arith, c.split_at.ensures.back_len);
      few = omega (arith, next.shorter);
      first = c.first_row-count-in-loop-count.ensures;
      rows = omega (arith, same.rows);
      last = loop.last ∙ same.last;
    }

pub returns-then-width-eq1-clause-row : goal.returns-then-width-eq1-clause-row
returns-then-width-eq1-clause-row c =
    let loop = c.loop-count.invariant in
    omega (arith, loop.rows, rows_here c.args.width c.loop-count.count c.loop-count.at c.loop-count.rest.now c.requires.width loop.first c.loop-count-test.false)

pub returns-then-width-eq1-clause-col : goal.returns-then-width-eq1-clause-col
returns-then-width-eq1-clause-col c =
    let loop = c.loop-count.invariant in
    let one = subst (λ (n : ℕ). IsFirstRow n c.loop-count.rest.now c.loop-count.count → 1 ≡ length (last_row (rows_to n c.loop-count.rest.now c.loop-count.at))) (sym c.if-width-eq1.true)
    (λ first. col_one c.loop-count.count c.loop-count.at c.loop-count.rest.now first c.loop-count-test.false) loop.first in
    one ∙ sym (ap length loop.last)

pub returns-else-width-eq1-clause-row : goal.returns-else-width-eq1-clause-row
returns-else-width-eq1-clause-row c =
    let loop = c.loop-count.invariant in
    omega (arith, loop.rows, rows_here c.args.width c.loop-count.count c.loop-count.at c.loop-count.rest.now c.requires.width loop.first c.loop-count-test.false)

pub returns-else-width-eq1-clause-col : goal.returns-else-width-eq1-clause-col
returns-else-width-eq1-clause-col c =
    let loop = c.loop-count.invariant in
    let more = c.if-width-eq1.false in
    col_here c.args.width c.loop-count.count c.loop-count.at c.loop-count.rest.now (omega arith) loop.first c.loop-count-test.false ∙ sym (ap length loop.last)
