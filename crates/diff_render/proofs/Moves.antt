-- Steps of the writer, one after another.
use Rattle.std.proofs.Common.{◌≡◌, ℕ, ◌+◌, ◌≤◌, Bool, true, false, not, refl, sym, ◌∙◌, arith}
use Rattle.std.proofs.lemmas.Bool.{false≢true}
use Rattle.cell_grid.specs.declared.attrs.Attrs.{Attrs}
use Rattle.cell_grid.specs.Attrs.{same_attrs}
use Rattle.cell_grid.specs.Same.{same_attrs-Decides}
use Rattle.diff_render.specs.declared.writer.Writer.{Writer}
use Rattle.diff_render.specs.Writer.{IsPlaced, Moves, IsSameScreen}

pub moves_none : (w : Writer) → IsPlaced w → Moves w w w.row w.col w.pen 0
moves_none w placed = record {
  stands = λ ok from lines stood. stood;
  to_row = refl;
  to_col = refl;
  to_pen = refl;
  same = record { rows = refl; cols = refl; height = refl };
  placed = placed;
  short = omega arith;
}

pub same_then : (a b c : Writer) → IsSameScreen a b → IsSameScreen b c → IsSameScreen a c
same_then a b c p q = record { rows = q.rows ∙ p.rows; cols = q.cols ∙ p.cols; height = q.height ∙ p.height }

pub moves_then : (a b c : Writer) (r s k l p q : ℕ) (x y : Attrs) → Moves a b r k x p → Moves b c s l y q → Moves a c s l y (p + q)
moves_then a b c r s k l p q x y m n = record {
  stands = λ ok from lines stood. n.stands ok from lines (m.stands ok from lines stood);
  to_row = n.to_row;
  to_col = n.to_col;
  to_pen = n.to_pen;
  same = same_then a b c m.same n.same;
  placed = n.placed;
  short = omega (arith, m.short, n.short);
}

-- the same by equal parts and a higher bound
pub moves_as : (a b : Writer) (r s k l p q : ℕ) (x y : Attrs) → r ≡ s → k ≡ l → x ≡ y → p ≤ q → Moves a b r k x p → Moves a b s l y q
moves_as a b r s k l p q x y e f g h m = record {
  stands = m.stands;
  to_row = m.to_row ∙ e;
  to_col = m.to_col ∙ f;
  to_pen = m.to_pen ∙ g;
  same = m.same;
  placed = m.placed;
  short = omega (arith, m.short);
}

-- the pen stays where it is the same
pub moves_still : (w : Writer) (pen : Attrs) → IsPlaced w → false ≡ not (same_attrs pen w.pen) → Moves w w w.row w.col pen 52
moves_still w pen placed h =
    let same : same_attrs pen w.pen ≡ true = true_by (same_attrs pen w.pen) h in
    moves_as w w w.row w.row w.col w.col 0 52 w.pen pen refl refl (sym ((same_attrs-Decides pen w.pen).0 same)) (omega arith) (moves_none w placed)
  where
    true_by : (b : Bool) → false ≡ not b → b ≡ true
    true_by true h = refl
    true_by false h = absurd (false≢true h)
