-- The menu of completions, and the document of a choice in it.
use Rattle.std.specs.Prelude.{ℕ, ◌+◌, ◌-◌, ◌<◌, List, [], ◌∷◌, ◌++◌, length, take, drop, slice_get, Option, None, Some, option_and_then}
use Rattle.std.specs.Option.{ForSome}
use Rattle.text_doc.specs.Document.{Document}
use Rattle.text_doc.specs.declared.completions.Completion.{Completion}
use Rattle.edit_buffer.specs.declared.menus.Menu.{Menu}
use Rattle.edit_buffer.specs.BufferState.{BufferState, with_document, ReachWithin}

-- the menu of these items for a document: none without items, and nothing is chosen yet
abbrev pub menu_of : Document → List Completion → Option Menu
menu_of d [] = None
menu_of d (item ∷ items) = Some (record { original = d; items = take 10000 (item ∷ items); chosen = None })

-- the document with the text of an item in place of what it completes, without a mark; without an item only the mark goes
abbrev pub completed : Document → Option Completion → Document
completed d None = record d { mark = None }
completed d (Some item) = record {
  text = take (d.cursor - item.back) d.text ++ item.text ++ drop d.cursor d.text;
  cursor = d.cursor - item.back + length item.text;
  mark = None;
}

-- the document of a choice, by the original and the item alone
abbrev pub choice : Menu → Option ℕ → Document
choice m which = completed m.original (option_and_then (slice_get m.items) which)

-- there is a menu that has this item
abbrev pub CanChoose : Option Menu → Option ℕ → Type 0
CanChoose None which = ⊥
CanChoose (Some m) which = ForSome which (λ i. i < length m.items)

-- the document of this choice would be too long
abbrev pub IsTooLongChoice : Option Menu → Option ℕ → Type 0
IsTooLongChoice None which = ⊥
IsTooLongChoice (Some m) which = 32768 < length (choice m which).text

-- the buffer after a choice in this menu
abbrev pub chosen_in : Option Menu → BufferState → Option ℕ → BufferState
chosen_in None b which = b
chosen_in (Some m) b which = record (with_document b (choice m which)) { menu = Some (record m { chosen = which }) }

-- there is a menu whose original these items complete
abbrev pub CanAdd : Option Menu → List Completion → Type 0
CanAdd None more = ⊥
CanAdd (Some m) more = ReachWithin m.original.cursor more

-- the menu with the first 10,000 of its items and further ones
abbrev pub with_items : Menu → List Completion → Menu
with_items m more = record m { items = take 10000 (m.items ++ more) }

-- the buffer with further items in this menu
abbrev pub with_items_in : Option Menu → BufferState → List Completion → BufferState
with_items_in None b more = b
with_items_in (Some m) b more = record b { menu = Some (with_items m more) }

-- the buffer after this menu was closed and nothing of it is chosen
abbrev pub cancelled_in : Option Menu → BufferState → BufferState
cancelled_in None b = b
cancelled_in (Some m) b = record (with_document b (choice m None)) { menu = None }
