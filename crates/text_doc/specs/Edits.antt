-- What an edit makes of a document.
use Rattle.std.specs.Prelude.{ℕ, ◌+◌, ◌-◌, min, ◌++◌, List, length, take, drop, nat_lt, if◌then◌else◌, option_map}
use Rattle.text_doc.specs.Document.{Document}

-- the place of a mark at `m` after `count` characters were put at `at`: above `at` it moves along
abbrev pub mark_after_insert : ℕ → ℕ → ℕ → ℕ
mark_after_insert at count m = if nat_lt at m then m + count else m

-- the document with these characters at the cursor, which stands behind them
abbrev pub inserted : Document → List ℕ → Document
inserted d chars = record {
  text = take d.cursor d.text ++ chars ++ drop d.cursor d.text;
  cursor = d.cursor + length chars;
  mark = option_map (mark_after_insert d.cursor (length chars)) d.mark;
}

-- a place after the characters of a range were deleted: a place inside goes to `from`, one behind goes back along
abbrev pub place_after_delete : ℕ → ℕ → ℕ → ℕ
place_after_delete from to place = if nat_lt place to then min place from else place - (to - from)

-- the document without the characters from `from` up to and without `to`
abbrev pub deleted : Document → ℕ → ℕ → Document
deleted d from to = record {
  text = take from d.text ++ drop to d.text;
  cursor = place_after_delete from to d.cursor;
  mark = option_map (place_after_delete from to) d.mark;
}
