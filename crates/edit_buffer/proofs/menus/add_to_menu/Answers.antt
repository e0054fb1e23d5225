-- Further items keep what holds of a menu.
use Rattle.std.proofs.Common.{◌<◌, ◌≤◌, length, ◌++◌, arith, length-append, length-take}
use Rattle.std.proofs.lemmas.List.Elements.{All-append, All-take}
use Rattle.text_doc.specs.declared.completions.Completion.{Completion}
use Rattle.std.specs.Prelude.{List}
use Rattle.edit_buffer.specs.declared.menus.Menu.{Menu}
use Rattle.edit_buffer.specs.BufferState.{IsMenu, ReachWithin}
use Rattle.edit_buffer.specs.Menus.{with_items}
use Rattle.edit_buffer.proofs.menus.add_to_menu.Goals as goal

IsMenu-with_items : (m : Menu) (more : List Completion) → IsMenu m → ReachWithin m.original.cursor more → IsMenu (with_items m more)
IsMenu-with_items m more menu reach = record {
  original = menu.original;
  few = omega (arith, length-take 10000 (m.items ++ more));
  reach = All-take (λ item. item.back ≤ m.original.cursor) 10000 (m.items ++ more)
      (All-append (λ item. item.back ≤ m.original.cursor) m.items more menu.reach reach);
  chosen = λ i e.
      let within : i < length m.items = menu.chosen i e in
      let few : length m.items ≤ 10000 = menu.few in
      omega (arith, length-take 10000 (m.items ++ more), length-append m.items more);
}

pub returns-clause-menu : goal.returns-clause-menu
returns-clause-menu c =
    rw c.in_ok-append_items.ensures.ok (IsMenu-with_items c.args.menu.now c.args.more c.requires.menu c.requires.reach)
