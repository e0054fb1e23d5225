-- The rows of Emacs keys that put other characters in place of some, and the one that deletes spaces.
use Rattle.std.specs.Prelude.{ℕ, ◌+◌, ◌-◌, ◌==◌, nat_lt, Bool, true, false, ◌||◌, List, [], ◌∷◌, ◌++◌, take, drop, slice_index, slice_range, Option, None, Some, if◌then◌else◌}
use Rattle.std.specs.List.{prefix_len, suffix_len}
use Rattle.std.specs.Char.{is_ascii_alphabetic, to_ascii_uppercase, to_ascii_lowercase}
use Prim.Native.Nat.{zero, suc}
use Rattle.text_doc.specs.Document.{Document}
use Rattle.text_doc.specs.Rows.{line_end}
use Rattle.edit_buffer.specs.declared.edits.Edit.TheVariants.{Replace, Delete}
use Rattle.edit_state.specs.declared.states.EditState.{EditState}
use Rattle.edit_state.specs.StateEdits.{edited_state}
use Rattle.edit_state.specs.WordMoves.{word_end_ahead, word_ends_ahead}
use Rattle.edit_cmds.specs.declared.rewriting.Case.{Case}
use Rattle.edit_cmds.specs.declared.rewriting.Case.TheVariants.{Upper, Lower, Capital}
use Rattle.edit_cmds.specs.Inserting.{is_blank}
use Rattle.edit_cmds.specs.Moving.{count}

-- the first of the two characters that change places: those before the cursor at a row's end, else those around it
abbrev pub pair_place : Document → Option ℕ
pair_place d =
    if d.cursor == 0 then None else
    (if line_end d.text d.cursor == d.cursor then (if nat_lt d.cursor 2 then None else Some (d.cursor - 2)) else Some (d.cursor - 1))

-- the two characters from a place on, in the other order
abbrev pub turned_pair : List ℕ → ℕ → List ℕ
turned_pair text at = slice_index text (at + 1) ∷ slice_index text at ∷ []

abbrev pub transposed_at : Option ℕ → EditState → EditState
transposed_at None s = s
transposed_at (Some at) s = edited_state s (Replace at (at + 2) (turned_pair s.buffer.doc.text at))

-- two characters change places
abbrev pub transpose_chars : EditState → EditState
transpose_chars s = transposed_at (pair_place s.buffer.doc) s

-- a character in the case that it gets; of a capitalized word the first letter in upper case, and those behind it in lower
abbrev pub char_cased : Case → Bool → ℕ → ℕ
char_cased Upper begun c = to_ascii_uppercase c
char_cased Lower begun c = to_ascii_lowercase c
char_cased Capital true c = to_ascii_lowercase c
char_cased Capital false c = to_ascii_uppercase c

-- characters in another case, where a letter has begun or not
abbrev pub cased_from : Case → Bool → List ℕ → List ℕ
cased_from case begun [] = []
cased_from case begun (c ∷ chars) = char_cased case begun c ∷ cased_from case (begun || is_ascii_alphabetic c) chars

-- the ASCII letters in another case
abbrev pub cased : Case → List ℕ → List ℕ
cased case chars = cased_from case false chars

-- the characters from a place up to the end of a word so many words on, from each word's end to the next in another case
abbrev pub words_cased : Case → List ℕ → ℕ → ℕ → List ℕ
words_cased case text place zero = []
words_cased case text place (suc more) =
    let end = word_end_ahead false text place in
    cased case (slice_range text place end) ++ words_cased case text end more

-- so many words from the cursor on are in another case, and the cursor is behind them
abbrev pub case_words : Case → EditState → EditState
case_words case s =
    let d = s.buffer.doc in
    edited_state s (Replace d.cursor (word_ends_ahead false d (count s)) (words_cased case d.text d.cursor (count s)))

-- the spaces and tabs around the cursor
abbrev pub blanks_start : Document → ℕ
blanks_start d = d.cursor - suffix_len is_blank (take d.cursor d.text)

abbrev pub blanks_end : Document → ℕ
blanks_end d = d.cursor + prefix_len is_blank (drop d.cursor d.text)

abbrev pub delete_horizontal_space : EditState → EditState
delete_horizontal_space s = edited_state s (Delete (blanks_start s.buffer.doc) (blanks_end s.buffer.doc))
