use Rattle.std.proofs.Common.{◌≡◌, ◌+◌, ◌≤◌, List, [], ◌∷◌, ◌++◌, length, take, sym, subst, ap, ◌∙◌, arith}
use Rattle.std.proofs.lemmas.List.{length-replicate, take_more}
use Rattle.cell_grid.specs.Grid.{blank_rows, columns}
use Rattle.cell_grid.specs.Row.{blank_row}
use Rattle.cell_grid.specs.Size.{Extent}
use Rattle.box_layout.specs.Areas.{IsInside}
use Rattle.box_layout.specs.Painting.{area_rows}
use Rattle.box_layout.specs.Placed.{PlacedFields, area_of}
use Rattle.box_layout.proofs.PaintedRows.{columns-none, first_in, first_of, first-more, first-other, painted-none}
use Rattle.box_layout.proofs.shown_rows.shown_row.Goals as goal
use Rattle.box_layout.proofs.shown_rows.shown_row.Goals.{then-one-area+else-prove+in_ok-paint_over, else-one-area}

pub loop-one-init : goal.loop-one-init
loop-one-init c =
    let cols = c.args.area.now.size.cols in
    let is : c.in_ok-grid.grid ≡ blank_rows 1 cols = rw c.cols.ensures.value at c.in_ok-grid.ensures in
    record {
      rows = ap length is ∙ length-replicate 1 (blank_row cols);
      cols = ap columns is ∙ columns-none 1 cols (omega arith);
      so_far = is ∙ painted-none (first_in c.args.area.now);
    }

pub loop-one-preserved : goal.loop-one-preserved
loop-one-preserved c =
    let area = c.args.area.now in
    let placed = c.args.placed.now in
    let index = c.loop-one.one-index in
    let before = take index placed in
    let so_far = c.loop-one.invariant.so_far in
    let p = c.one-item.result in
    let inside : IsInside area (area_of p) = subst (λ (q : PlacedFields). IsInside area (area_of q)) (sym c.one-item.is) (c.requires index p c.loop-one-test.true) in
    let next : before ++ p ∷ [] ≡ take (index + 1) placed =
    sym (take_more placed index p c.loop-one-test.true ∙ ap (λ (q : PlacedFields). before ++ q ∷ []) (sym c.one-item.is))
    in
    let row : c.one.inside.row ≡ p.row = ap (λ (q : PlacedFields). q.row) c.one.view_is in
    elim c.if-one-area.branch [
      | then-one-area+else-prove+in_ok-paint_over w ↦ let here : p.row ≡ area.row = sym row ∙ w.if-one-area.true in
          let some : 1 ≤ p.size.rows = omega (arith, w.if-prove.false, w.rows.ensures.value, ap (λ (q : PlacedFields). q.size.rows) c.one.view_is) in
          let area_is : record area { size = c.one_row.result } ≡ first_in area = ap (λ (size : Extent). record area { size = size }) c.one_row.ensures in
          let cut : Extent → PlacedFields =
          λ size. record { pane = c.one.inside.pane.now; scroll = c.one.inside.scroll; row = c.one.inside.row; col = c.one.inside.col; size = size }
          in
          record {
            rows = ap length w.grid-is ∙ w.in_ok-paint_over.ensures.rows ∙ c.loop-one.invariant.rows;
            cols = ap columns w.grid-is ∙ w.in_ok-paint_over.ensures.cols ∙ c.loop-one.invariant.cols;
            so_far =
                w.grid-is ∙ w.in_ok-paint_over.ensures.paints before (so_far ∙ ap (area_rows before) (sym area_is))
                ∙ ap (area_rows (before ++ cut w.one_row-then-one-area.result ∷ [])) area_is
                ∙ ap (λ (size : Extent). area_rows (before ++ cut size ∷ []) (first_in area)) w.one_row-then-one-area.ensures
                ∙ ap (λ (q : PlacedFields). area_rows (before ++ first_of q ∷ []) (first_in area)) c.one.view_is
                ∙ first-more before p area here some
                ∙ ap (λ (all : List PlacedFields). area_rows all (first_in area)) next;
          }
      | else-one-area w ↦ record {
        rows = ap length w.grid-is ∙ c.loop-one.invariant.rows;
        cols = ap columns w.grid-is ∙ c.loop-one.invariant.cols;
        so_far =
            w.grid-is ∙ so_far ∙ first-other before p area inside (λ same. w.if-one-area.false (row ∙ same))
            ∙ ap (λ (all : List PlacedFields). area_rows all (first_in area)) next;
      }
    ]
