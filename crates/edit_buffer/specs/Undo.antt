-- The lists of undo and redo, which all working lines share.
use Rattle.std.specs.Prelude.{ℕ, Bool, false, List, [], ◌∷◌, take, drop, if◌then◌else◌}
use Rattle.std.specs.List.{prefix_len}
use Rattle.std.specs.Str.{bytes_eq}
use Rattle.text_doc.specs.Document.{Document}
use Rattle.edit_buffer.specs.BufferState.{BufferState, Pair, pair_of, document_of, with_document}

-- whether a pair has this text
abbrev pub has_text : List ℕ → Pair → Bool
has_text text p = bytes_eq p.text text

-- whether there is a first pair, and it has this text
abbrev pub first_has_text : List ℕ → List Pair → Bool
first_has_text text [] = false
first_has_text text (p ∷ rest) = has_text text p

-- the pairs without the longest prefix of those that have this text
abbrev pub differing : List ℕ → List Pair → List Pair
differing text pairs = drop (prefix_len (has_text text) pairs) pairs

-- the pairs with this cursor in the first one
abbrev pub with_cursor : ℕ → List Pair → List Pair
with_cursor cursor [] = []
with_cursor cursor (p ∷ rest) = record p { cursor = cursor } ∷ rest

-- the pairs with the present one first: a first pair of the same text only gets the present cursor
abbrev pub with_present : Document → List Pair → List Pair
with_present d pairs = if first_has_text d.text pairs then with_cursor d.cursor pairs else pair_of d ∷ pairs

-- the present pair is kept for undo, the oldest one goes where there are too many, and nothing is left to redo
abbrev pub saved : BufferState → BufferState
saved b = record b { undo = take 1000 (with_present b.doc b.undo); redo = [] }

-- the first of these pairs is restored, the others are left for undo, and the present pair is put first for redo
abbrev pub undone_to : BufferState → List Pair → BufferState
undone_to b [] = record b { undo = [] }
undone_to b (p ∷ rest) = record (with_document b (document_of p)) { undo = rest; redo = pair_of b.doc ∷ b.redo }

-- the newest pair with another text is restored
abbrev pub undone : BufferState → BufferState
undone b = undone_to b (differing b.doc.text b.undo)

-- the first of these pairs is restored, the others are left for redo, and the present pair is kept for undo
abbrev pub redone_to : BufferState → List Pair → BufferState
redone_to b [] = b
redone_to b (p ∷ rest) = record (with_document b (document_of p)) { undo = with_present b.doc b.undo; redo = rest }

-- the pair that was undone last is restored
abbrev pub redone : BufferState → BufferState
redone b = redone_to b b.redo
