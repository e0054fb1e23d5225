-- What a contract sees of a line of a script: what it says, by its first word.
use Rattle.std.specs.Prelude.{ℕ, ◌+◌, Bool, ◌==◌, ◌&&◌, List, length, take, drop, Option, Some, None, option_map, nat_le, nat_eq, chars, codes, position, if◌then◌else◌}
use Rattle.std.specs.List.{starts_with}
use Rattle.std.specs.Str.{bytes_eq, is_utf8}
use Rattle.cell_grid.specs.Size.{Extent}
use Rattle.prompt_settings.specs.Number.{number_of}
use Rattle.prompt_settings.specs.Size.{size_of}
use Rattle.script_lines.specs.declared.script_line.ScriptLine.{ScriptLine}
use Rattle.script_lines.specs.declared.script_line.ScriptLine.TheVariants.{Set, Piece, Resize, Tick, Show, End}
use Rattle.script_lines.specs.Spelling.{unspelled}

-- the bytes, where they are UTF-8
abbrev pub utf8_in : List ℕ → Option (List ℕ)
utf8_in bytes = if is_utf8 bytes then Some bytes else None

-- the characters of bytes that are UTF-8
abbrev pub chars_in : Option (List ℕ) → Option (List ℕ)
chars_in None = None
chars_in (Some bytes) = if is_utf8 bytes then Some (chars bytes) else None

-- a `set` line with this name and value
abbrev pub set_from : Option (List ℕ) → Option (List ℕ) → Option ScriptLine
set_from None value = None
set_from (Some name) None = None
set_from (Some name) (Some value) = Some (Set name value)

-- a `set` line by the place of the first space behind `set `: a name stands before it, and the spelling of a value behind it
abbrev pub set_cut : Option ℕ → List ℕ → Option ScriptLine
set_cut None text = None
set_cut (Some at) text = set_from (utf8_in (take at text)) (chars_in (unspelled (drop (at + 1) text)))

-- a `set` line by what stands behind `set `
abbrev pub set_line : List ℕ → Option ScriptLine
set_line text = set_cut (position (λ byte. byte == 32) text) text

-- neither no byte nor too many for a piece
abbrev pub is_piece : List ℕ → Bool
is_piece bytes = nat_le 1 (length bytes) && nat_le (length bytes) 65536

-- the bytes that stand behind `piece `, where they are a piece
abbrev pub piece_line : Option (List ℕ) → Option ScriptLine
piece_line None = None
piece_line (Some bytes) = if is_piece bytes then Some (Piece bytes) else None

-- the size that stands behind `resize `
abbrev pub resize_line : Option Extent → Option ScriptLine
resize_line size = option_map Resize size

-- the moment that stands behind `tick `
abbrev pub tick_line : Option ℕ → Option ScriptLine
tick_line moment = option_map Tick moment

-- what a line says whose first word has parts behind it
abbrev pub parts_line : List ℕ → Option ScriptLine
parts_line line =
    if starts_with nat_eq line (codes "set ") then set_line (drop 4 line)
    else if starts_with nat_eq line (codes "piece ") then piece_line (unspelled (drop 6 line))
    else if starts_with nat_eq line (codes "resize ") then resize_line (size_of 32 (drop 7 line))
    else if starts_with nat_eq line (codes "tick ") then tick_line (number_of 1000000000000000 (drop 5 line))
    else None

-- what a line says, however long it is
abbrev pub said_by : List ℕ → Option ScriptLine
said_by line =
    if bytes_eq line (codes "show") then Some Show
    else if bytes_eq line (codes "end") then Some End
    else parts_line line

-- what a line of at most 300,000 bytes says, if it is in the grammar
abbrev pub script_line : List ℕ → Option ScriptLine
script_line line = if nat_le (length line) 300000 then said_by line else None
