-- What a contract sees of a buffer: its document, the working lines, the lists of undo and redo, and the menu.
use Rattle.std.specs.Prelude.{◌≡◌, ℕ, ◌+◌, ◌<◌, ◌≤◌, List, [], length, slice_index_or, slice_set, Option, None}
use Rattle.std.specs.List.{All}
use Rattle.std.specs.Option.{ForSome}
use Rattle.text_doc.specs.Document.{Document, IsDocument}
use Rattle.text_doc.specs.declared.completions.Completion.{Completion}
use Rattle.edit_buffer.specs.declared.menus.Menu.{Menu}

-- a text and a cursor
pub record Pair : Type 0 where
  pub text : List ℕ
  pub cursor : ℕ

-- the document, the working lines and the number of the present one, the lists of undo and redo, newest first, and the menu
pub record BufferState : Type 0 where
  pub doc : Document
  pub lines : List (List ℕ)
  pub index : ℕ
  pub undo : List Pair
  pub redo : List Pair
  pub menu : Option Menu

-- the document of a pair has no mark
abbrev pub document_of : Pair → Document
document_of p = record { text = p.text; cursor = p.cursor; mark = None }

abbrev pub pair_of : Document → Pair
pair_of d = record { text = d.text; cursor = d.cursor }

-- the text of the working line with this number
abbrev pub line_of : BufferState → ℕ → List ℕ
line_of b i = slice_index_or b.lines i []

-- another document in the present working line
abbrev pub with_document : BufferState → Document → BufferState
with_document b d = record b { doc = d; lines = slice_set b.lines b.index d.text }

-- no item reaches back further than to the start of the text
abbrev pub ReachWithin : ℕ → List Completion → Type 0
ReachWithin cursor items = All (λ item. item.back ≤ cursor) items

-- a menu holds few enough items, and its choice is one of them
pub record IsMenu (m : Menu) : Type 0 where
  pub original : IsDocument m.original
  pub few : length m.items ≤ 10000
  pub reach : ReachWithin m.original.cursor m.items
  pub chosen : ForSome m.chosen (λ i. i < length m.items)

-- what holds of every buffer
pub record IsBufferState (b : BufferState) : Type 0 where
  pub document : IsDocument b.doc
  pub index : b.index < length b.lines
  pub present : line_of b b.index ≡ b.doc.text
  pub short : All (λ line. length line ≤ 32768) b.lines
  pub pairs : length b.undo + length b.redo ≤ 1000
  pub menu : ForSome b.menu IsMenu
