-- A menu of one item has an item number 0.
use Rattle.std.proofs.Common.{◌≡◌, ◌≤◌, length, Option, None, Some, arith}
use Rattle.std.specs.Prelude.{IsSomeAnd}
use Rattle.edit_buffer.specs.declared.menus.Menu.{Menu}
use Rattle.edit_buffer.specs.Menus.{CanChoose}
use Rattle.edit_buffer.proofs.tests.menu.Goals as goal

can_choose_first : (menu : Option Menu) → IsSomeAnd menu (λ m. (1 ≤ m.original.cursor) × (length m.items ≡ 1)) → CanChoose menu (Some 0)
can_choose_first None h = absurd h
can_choose_first (Some m) h = λ i e. let first : i ≡ 0 = cc in omega (arith, h.1)

pub choose-requires : goal.choose-requires
choose-requires g c = can_choose_first _ c.assert_menu.ensures
