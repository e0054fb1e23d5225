-- One cell that is redrawn.
use Rattle.std.proofs.Common.{◌≡◌, ℕ, Bool, true, false, not, List, ◌∷◌, ◌++◌, refl, sym, ap, ◌∙◌, subst, arith}
use Rattle.std.proofs.lemmas.Bool.{false≢true}
use Rattle.cell_grid.specs.declared.cell.Cell.{Cell}
use Rattle.cell_grid.specs.declared.cell.Cell.TheVariants.{Lead}
use Rattle.cell_grid.specs.declared.attrs.Attrs.{Attrs}
use Rattle.cell_grid.specs.Cell.{same_cell}
use Rattle.cell_grid.specs.Row.{put_at}
use Rattle.diff_render.specs.declared.writer.Writer.{Writer}
use Rattle.diff_render.specs.Changes.{one_if_not}
use Rattle.diff_render.specs.Writer.{Moves, Writes, Stood}
use Rattle.diff_render.specs.Redrawing.{redone_by, Redraws}
use Rattle.diff_render.proofs.Moves.{same_then}

pub not_false : (b : Bool) → true ≡ not b → b ≡ false
not_false true h = absurd (false≢true (sym h))
not_false false h = refl

redraws_lead : (w a b v : Writer) (at : ℕ) (o : Cell) (text : List ℕ) (width : ℕ) (attrs : Attrs) → Moves w a w.row at w.pen 7 → Moves a b a.row a.col attrs 52
    → Writes b v (Lead text width b.pen) 32 → same_cell o (Lead text width attrs) ≡ false → Redraws w v at o (Lead text width attrs)
redraws_lead w a b v at o text width attrs goes takes writes differs =
    let row : b.row ≡ w.row = takes.to_row ∙ goes.to_row in
    let col : b.col ≡ at = takes.to_col ∙ goes.to_col in
    let cell : Lead text width b.pen ≡ Lead text width attrs = ap (λ p. Lead text width p) takes.to_pen in
    let same = same_then w a b goes.same takes.same in
    record {
      stands = λ ok from above below line place long passes stood.
          let passed : ok b.row b.col ≡ true = ap (λ r. ok r b.col) row ∙ ap (λ k. ok w.row k) col ∙ passes differs in
          let drawn : Stood ok v from (above ++ put_at line b.col (Lead text width b.pen) ∷ below) =
          writes.stands ok from above below line (place ∙ sym row) (long ∙ sym same.cols) passed
          (takes.stands ok from (above ++ line ∷ below) (goes.stands ok from (above ++ line ∷ below) stood)) in
          let put : put_at line b.col (Lead text width b.pen) ≡ redone_by (same_cell o (Lead text width attrs)) line at (Lead text width attrs) =
          ap (λ k. put_at line k (Lead text width b.pen)) col ∙ ap (λ x. put_at line at x) cell
          ∙ ap (λ d. redone_by d line at (Lead text width attrs)) (sym differs) in
          subst (λ l. Stood ok v from (above ++ l ∷ below)) put drawn;
      to_row = writes.to_row ∙ row;
      same = same_then w b v same writes.same;
      placed = writes.placed;
      short = let one : one_if_not (same_cell o (Lead text width attrs)) ≡ 1 = ap one_if_not differs in omega (arith, goes.short, takes.short, writes.short, one);
    }

pub redraws_cell : (w a b v : Writer) (at : ℕ) (o n : Cell) (text : List ℕ) (width : ℕ) (attrs : Attrs) → n ≡ Lead text width attrs → Moves w a w.row at w.pen 7
    → Moves a b a.row a.col attrs 52 → Writes b v (Lead text width b.pen) 32 → true ≡ not (same_cell o n) → Redraws w v at o n
redraws_cell w a b v at o n text width attrs is goes takes writes differs =
    subst (λ x. Redraws w v at o x) (sym is)
    (redraws_lead w a b v at o text width attrs goes takes writes (ap (λ x. same_cell o x) (sym is) ∙ not_false (same_cell o n) differs))

pub not_true : (b : Bool) → false ≡ not b → b ≡ true
not_true true h = refl
not_true false h = absurd (false≢true h)
