use Rattle.std.proofs.Common.{◌∷◌, [], ◌+◌, ap, arith, subst, sym, ℕ}
use Rattle.cell_grid.specs.Row.{IsWhole}
use Rattle.text_rows.specs.Flows.{begun}
use Rattle.text_rows.proofs.FlowLemmas.{begun-append, begun-one}
use Rattle.text_rows.proofs.KeptCounts.{counts_rows, few_kept}
use Rattle.text_rows.proofs.RowTotals.{columns_for}
use Rattle.text_rows.proofs.kept_rows.TextRows.count.Goals as goal

pub overflow_add-result : goal.overflow_add-result
overflow_add-result c =
    let k = c.self.inside in
    omega (arith, (few_kept k.message k.continuation k.text k.width k.opening k.under k.marks.marks.items k.marks.room c.self.invariant).0)

pub overflow_add-result-2 : goal.overflow_add-result-2
overflow_add-result-2 c =
    let k = c.self.inside in
    let few = few_kept k.message k.continuation k.text k.width k.opening k.under k.marks.marks.items k.marks.room c.self.invariant in
    omega (arith, few.0, few.1, c.len.ensures)

pub overflow_add-result-3 : goal.overflow_add-result-3
overflow_add-result-3 c =
    let k = c.self.inside in
    let few = few_kept k.message k.continuation k.text k.width k.opening k.under k.marks.marks.items k.marks.room c.self.invariant in
    omega (arith, few.0, few.1, c.len.ensures, c.put.ensures.rows, c.put_spelled.ensures.few, c.requires, begun-one k.width c.put_spelled.new.self.room 1)

pub returns : goal.returns
returns c = λ t drawn.
    let k = c.self.inside in
    counts_rows c.args.self.now k.message k.continuation k.text k.width k.opening k.under k.marks.marks.items k.marks.room c.args.suggestion.now t c.put.new.self.rows (1 + k.opening.rows + c.len.result + c.put.new.self.rows)
    (sym c.self.view_is) c.self.invariant (subst IsWhole c.as_slice-message.ensures.value c.as_slice-message.ensures.whole) (subst IsWhole c.as_slice-continuation.ensures.value c.as_slice-continuation.ensures.whole)
    drawn
    (omega (
      arith,
      c.put.ensures.rows,
      c.put_spelled.ensures.rows,
      ap (λ (n : ℕ). begun k.width n (1 ∷ [])) c.put_spelled.ensures.room,
      begun-append k.width k.marks.room (columns_for c.args.suggestion.now) (1 ∷ []),
    ))
    (omega (arith, c.len.ensures))
