-- Rows of spaces: they are whole.
use Prim.Native.Nat.{zero, suc}
use Rattle.std.proofs.Common.{ℕ, inl, replicate, refl}
use Rattle.std.proofs.lemmas.List.{length-replicate}
use Rattle.cell_grid.specs.declared.attrs.Attrs.{Attrs}
use Rattle.cell_grid.specs.Cell.{narrow}
use Rattle.cell_grid.specs.Grid.{AllRows, IsRow}
use Rattle.cell_grid.specs.Row.{IsWhole}
use Rattle.win_view.specs.Views.{spaces}

pub whole-spaces : (behind : Attrs) (count : ℕ) → IsWhole (spaces behind count)
whole-spaces behind zero = tt
whole-spaces behind (suc count) = inl (refl, whole-spaces behind count)

pub row-spaces : (behind : Attrs) (count : ℕ) → IsRow count (spaces behind count)
row-spaces behind count = record { long = length-replicate count (narrow 32 behind); whole = whole-spaces behind count }

pub AllRows-spaces : (behind : Attrs) (rows cols : ℕ) → AllRows cols (replicate rows (spaces behind cols))
AllRows-spaces behind zero cols = tt
AllRows-spaces behind (suc rows) cols = (row-spaces behind cols, AllRows-spaces behind rows cols)
