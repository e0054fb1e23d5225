use Rattle.std.proofs.Common.{◌∙◌, sym, refl, arith}
use Rattle.std.proofs.lemmas.Bool.{false≢true}
use Rattle.win_view.proofs.FirstRows.{first_at, first_before}
use Rattle.win_view.proofs.first_rows.first_row.Goals as goal

pub returns-then-not-is_tail : goal.returns-then-not-is_tail
returns-then-not-is_tail c =
    first_at c.args.width c.args.cells.now c.index-cells-width.result c.requires.width c.requires.whole c.if-cells-width.false
    (λ tail. false≢true (c.if-not-is_tail.ensures.1 (c.index-cells-width.is ∙ tail)))

pub returns-else-width-eq1 : goal.returns-else-width-eq1
returns-else-width-eq1 c =
    let more = c.if-width-eq1.false in
    first_before c.args.width c.args.cells.now c.index-cells-width.result (omega arith) c.requires.whole c.if-cells-width.false
    (sym c.index-cells-width.is ∙ c.if-not-is_tail.ensures.0 refl)
