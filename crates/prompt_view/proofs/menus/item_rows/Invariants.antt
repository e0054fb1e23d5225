use Rattle.std.proofs.Common.{◌≡◌, All, length, map}
use Rattle.std.specs.List.{range_with_len}
use Rattle.prompt_view.specs.Floats.{item_row}
use Rattle.prompt_view.proofs.menus.item_rows.Given as goal

abbrev pub invariant-loop-at : goal.invariant-loop-at
invariant-loop-at l = record {
  rows : l.lines ≡ map (item_row l.scene) (range_with_len l.first l.at);
  long : All (λ row. length row ≡ l.cols) l.lines;
}
