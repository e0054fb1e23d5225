-- Where each motion goes, and what an operator takes by it.
use Rattle.std.specs.Prelude.{ℕ, ◌+◌, ◌-◌, min, Bool, true, false, not, List, length, Option, None, Some, is_some, unwrap_or, option_map, if◌then◌else◌}
use Rattle.key_names.specs.declared.key.Key.{Key}
use Rattle.key_names.specs.declared.key.Key.TheVariants.{Char}
use Rattle.text_doc.specs.Document.{Document}
use Rattle.text_doc.specs.Rows.{line_start, line_end, index_of}
use Rattle.text_doc.specs.Words.{next_word_end}
use Rattle.text_doc.specs.Finds.{find_char}
use Rattle.text_doc.specs.Brackets.{matching_bracket}
use Rattle.edit_state.specs.declared.states.EditState.{EditState}
use Rattle.edit_state.specs.declared.vi_states.Find.{Find}
use Rattle.edit_state.specs.CharMoves.{place_back, place_ahead}
use Rattle.edit_state.specs.WordMoves.{stepped, words_back, word_starts_ahead}
use Rattle.edit_state.specs.RowMoves.{place_up, place_down}
use Rattle.vi_keys.specs.declared.motions.Motion.{Motion}
use Rattle.vi_keys.specs.declared.motions.Motion.TheVariants.{Left, Right, Down, Up, RowStart, RowText, RowEnd, WordStart, WordBack, WordLast, FirstRow, LastRow, Character, LastFind, LastFindTurned, Bracket}
use Rattle.vi_keys.specs.declared.motions.Kind.{Kind}
use Rattle.vi_keys.specs.declared.motions.Kind.TheVariants.{Exclusive, Inclusive, Rows}
use Rattle.vi_keys.specs.declared.motions.Reach.{Reach}
use Rattle.vi_keys.specs.Runs.{row_text}

abbrev pub reach : Kind → ℕ → Reach
reach kind place = record { place = place; kind = kind }

-- the least place above that is the last of a word, else the last place of the text
abbrev pub word_last_ahead : Bool → List ℕ → ℕ → ℕ
word_last_ahead big text place = unwrap_or (next_word_end big text (min (place + 1) (length text))) (length text) - 1

-- so many times from the cursor
abbrev pub word_lasts_ahead : Bool → Document → ℕ → ℕ
word_lasts_ahead big d count = stepped (word_last_ahead big d.text) count d.cursor

-- the find of a key that is a character
abbrev pub find_of : Bool → Bool → Key → Option Find
find_of forward before (Char c) = Some (record { wanted = c; forward = forward; before = before })
find_of forward before _ = None

-- the same in the other direction
abbrev pub turned_find : Find → Find
turned_find find = record find { forward = not find.forward }

-- the place next to a character, on the side that a find comes from
abbrev pub short_of : Bool → ℕ → ℕ
short_of true place = place - 1
short_of false place = place + 1

-- where a find stops that has found its character
abbrev pub stop : Find → ℕ → Reach
stop find place = record {
  place = if find.before then short_of find.forward place else place;
  kind = if find.forward then Inclusive else Exclusive;
}

-- where a find goes: to the place number `count` of its character
abbrev pub found : Document → Option Find → ℕ → Option Reach
found d None count = None
found d (Some find) count = option_map (stop find) (find_char d.text d.cursor find.wanted find.forward count)

-- where the row with this number starts, counted from 1, or the last row where there is none with it
abbrev pub row_number : Document → ℕ → ℕ
row_number d count = index_of d.text (count - 1) 0

-- where a motion goes by a key from a state with this last find, so many times
abbrev pub reach_of : Motion → Key → EditState → Option Find → ℕ → Option Reach
reach_of Left key s last count = Some (reach Exclusive (place_back s.buffer.doc count))
reach_of Right key s last count = Some (reach Exclusive (place_ahead s.buffer.doc count))
reach_of Down key s last count = option_map (reach Rows) (place_down s count)
reach_of Up key s last count = option_map (reach Rows) (place_up s count)
reach_of RowStart key s last count = Some (reach Exclusive (line_start s.buffer.doc.text s.buffer.doc.cursor))
reach_of RowText key s last count = Some (reach Exclusive (row_text s.buffer.doc))
reach_of RowEnd key s last count = Some (reach Exclusive (line_end s.buffer.doc.text s.buffer.doc.cursor))
reach_of (WordStart big) key s last count = Some (reach Exclusive (word_starts_ahead big s.buffer.doc count))
reach_of (WordBack big) key s last count = Some (reach Exclusive (words_back big s.buffer.doc count))
reach_of (WordLast big) key s last count = Some (reach Inclusive (word_lasts_ahead big s.buffer.doc count))
reach_of FirstRow key s last count = Some (reach Rows (row_number s.buffer.doc (if is_some s.arg then count else 1)))
reach_of LastRow key s last count =
    Some (reach Rows (if is_some s.arg then row_number s.buffer.doc count else line_start s.buffer.doc.text (length s.buffer.doc.text)))
reach_of (Character forward before) key s last count = found s.buffer.doc (find_of forward before key) count
reach_of LastFind key s last count = found s.buffer.doc last count
reach_of LastFindTurned key s last count = found s.buffer.doc (option_map turned_find last) count
reach_of Bracket key s last count = option_map (reach Inclusive) (matching_bracket s.buffer.doc.text s.buffer.doc.cursor)
