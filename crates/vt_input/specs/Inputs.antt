-- What a contract sees of a parser, and what it gives for any pieces and flushes.
use Rattle.std.specs.Prelude.{ℕ, ◌≤◌, Bool, true, false, List, [], ◌∷◌, ◌++◌, length, Option, Some, None, IfSome, is_none, ◌&&◌, not, ◌==◌}
use Rattle.key_names.specs.declared.key.KeyPress.{KeyPress}
use Rattle.vt_input.specs.declared.row.SeqRow.{SeqRow}
use Rattle.characters.specs.Cut.{Cut}
use Rattle.characters.specs.Characters.{characters, unfinished_char}
use Rattle.vt_input.specs.Sequences.{is_prefix}
use Rattle.vt_input.specs.Pressed.{opening, keys_of}
use Rattle.vt_input.specs.Held.{Paste, Held, Fed, held_of, fed_by}

-- a parser: its table, the bytes of an unfinished character, and what waits
pub record Parsing : Type 0 where
  pub rows : List SeqRow
  pub bytes : List ℕ
  pub held : Held

-- a parser with the characters of more bytes in its text, before any key of them is decided
abbrev pub decoded_after : Parsing → List ℕ → Parsing
decoded_after p bytes = record {
  rows = p.rows;
  bytes = (characters (p.bytes ++ bytes)).rest;
  held = record { text = p.held.text ++ (characters (p.bytes ++ bytes)).items; paste = p.held.paste };
}

-- a parser whose unfinished character counts as U+FFFD
abbrev pub finished : Parsing → Parsing
finished p = record { rows = p.rows; bytes = []; held = record { text = p.held.text ++ unfinished_char p.bytes; paste = p.held.paste } }

-- what more bytes give a parser
abbrev pub fed_bytes : Parsing → List ℕ → Fed
fed_bytes p bytes = fed_by p.rows false p.held.paste (p.held.text ++ (characters (p.bytes ++ bytes)).items)

-- the parser after them
abbrev pub parsing_after : Parsing → List ℕ → Parsing
parsing_after p bytes = record { rows = p.rows; bytes = (characters (p.bytes ++ bytes)).rest; held = (fed_bytes p bytes).held }

-- what a flush gives a parser: in a paste nothing, else all that waits is decided
abbrev pub flushed_by : Option Paste → Parsing → Fed
flushed_by (Some paste) p = record { presses = []; held = p.held }
flushed_by None p = fed_by p.rows true None (p.held.text ++ unfinished_char p.bytes)

abbrev pub flushed : Parsing → Fed
flushed p = flushed_by p.held.paste p

-- the bytes that wait after a flush
abbrev pub bytes_by : Option Paste → List ℕ → List ℕ
bytes_by (Some paste) bytes = bytes
bytes_by None bytes = []

abbrev pub parsing_flushed : Parsing → Parsing
parsing_flushed p = record { rows = p.rows; bytes = bytes_by p.held.paste p.bytes; held = (flushed p).held }

-- something waits outside a paste
abbrev pub has_waiting : Parsing → Bool
has_waiting p = is_none p.held.paste && not (length p.held.text == 0 && length p.bytes == 0)

-- at most 32,769 characters of a paste, 63 further characters and 3 bytes of an unfinished character are kept
pub record IsSmall (p : Parsing) : Type 0 where
  pub bytes : length p.bytes ≤ 3
  pub text : length p.held.text ≤ 63
  pub paste : IfSome p.held.paste (λ q. length q.text.kept ≤ 32769)

-- the cut of the whole text of some bytes
abbrev pub whole : List SeqRow → List ℕ → Cut KeyPress
whole rows bytes = keys_of rows false (characters bytes).items

-- what a parser stands for that has read these bytes since its last flush outside a paste
abbrev pub stands_for : List SeqRow → List ℕ → Parsing
stands_for rows bytes = record { rows = rows; bytes = (characters bytes).rest; held = held_of (whole rows bytes).rest }

-- what comes to a parser: a piece of bytes, or a flush
pub data Input : Type 0 where
  piece : List ℕ → Input
  flush : Input

-- the key presses that a parser gives for what comes
abbrev pub given : Parsing → List Input → List KeyPress
given p [] = []
given p (piece bytes ∷ inputs) = (fed_bytes p bytes).presses ++ given (parsing_after p bytes) inputs
given p (flush ∷ inputs) = (flushed p).presses ++ given (parsing_flushed p) inputs

-- the key presses of a text that a flush ends: its unfinished character counts as U+FFFD
abbrev pub flushed_whole : List SeqRow → List ℕ → List KeyPress
flushed_whole rows bytes = (whole rows bytes).items ++ (keys_of rows true ((whole rows bytes).rest ++ unfinished_char (characters bytes).rest)).items

abbrev pub expected_by : Bool → List KeyPress → List KeyPress → List KeyPress
expected_by true in_paste outside = in_paste
expected_by false in_paste outside = outside

-- the key presses by the definition over whole texts: a text runs from flush to flush, but for flushes in a paste
abbrev pub expected : List SeqRow → List ℕ → List Input → List KeyPress
expected rows bytes [] = (whole rows bytes).items
expected rows bytes (piece more ∷ inputs) = expected rows (bytes ++ more) inputs
expected rows bytes (flush ∷ inputs) =
    expected_by (is_prefix opening (whole rows bytes).rest) (expected rows bytes inputs) (flushed_whole rows bytes ++ expected rows [] inputs)
