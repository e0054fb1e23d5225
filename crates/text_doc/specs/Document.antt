-- What a contract sees of a document: its text, the place of its cursor and the place of its mark.
use Rattle.std.specs.Prelude.{◌≡◌, ℕ, ◌≤◌, List, length, Option}
use Rattle.std.specs.Option.{ForSome}

-- characters, a cursor and perhaps a mark
pub record Document : Type 0 where
  pub text : List ℕ
  pub cursor : ℕ
  pub mark : Option ℕ

-- the text has at most 32,768 characters, and cursor and mark are places of it, from 0 to its length
pub record IsDocument (d : Document) : Type 0 where
  pub short : length d.text ≤ 32768
  pub cursor_within : d.cursor ≤ length d.text
  pub mark_within : ForSome d.mark (λ m. m ≤ length d.text)

-- two documents that show the same: their text and their cursor are equal, whatever their marks
pub record SameTextAndCursor (d e : Document) : Type 0 where
  pub text : d.text ≡ e.text
  pub cursor : d.cursor ≡ e.cursor
