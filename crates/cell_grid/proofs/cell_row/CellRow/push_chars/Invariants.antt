use Rattle.std.proofs.Common.{◌≡◌, drop}
use Rattle.std.specs.List.{fold}
use Rattle.cell_grid.specs.TextCells.{with_next}
use Rattle.cell_grid.proofs.cell_row.CellRow.push_chars.Given as goal

abbrev pub invariant-loop-c : goal.invariant-loop-c
invariant-loop-c l =
    fold (with_next l.attrs l.control) l.self (drop l.c-index l.chars)
    ≡ fold (with_next l.attrs l.control) l.initial.self l.chars
