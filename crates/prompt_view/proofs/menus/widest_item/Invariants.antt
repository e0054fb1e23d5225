use Rattle.std.proofs.Common.{◌≡◌, map, take}
use Rattle.layout_dims.specs.Numbers.{greatest}
use Rattle.prompt_view.specs.Floats.{columns_of}
use Rattle.prompt_view.proofs.menus.widest_item.Given as goal

abbrev pub invariant-loop-item : goal.invariant-loop-item
invariant-loop-item l = l.widest ≡ greatest (map (λ item. columns_of item.text) (take l.item-index l.items))
