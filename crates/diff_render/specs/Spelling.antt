-- The bytes of the control sequences of a frame (ECMA-48, 5.4; xterm for the colours).
use Rattle.std.specs.Prelude.{ℕ, ◌+◌, ◌≤◌, Bool, true, false, List, [], ◌∷◌, ◌++◌, Option, Some, None, ◌||◌, nat_lt}
use Rattle.std.specs.Prelude.{if◌then◌else◌}
use Rattle.std.specs.Fmt.{decimal}
use Rattle.cell_grid.specs.declared.attrs.Attrs.{Attrs}
use Rattle.cell_grid.specs.declared.attrs.Colour.{Colour}
use Rattle.cell_grid.specs.declared.attrs.Colour.TheVariants.{Ansi, Rgb}

-- a cursor control of so many places with this final character: the number 1 is left out
abbrev pub arrow : ℕ → ℕ → List ℕ
arrow n letter = 27 ∷ 91 ∷ (if nat_lt 1 n then decimal n else []) ++ letter ∷ []

-- numbers, each behind a separator
abbrev pub listed : List ℕ → List ℕ
listed [] = []
listed (n ∷ ns) = 59 ∷ decimal n ++ listed ns

-- the number, where it is wanted
abbrev pub flagged : ℕ → Bool → List ℕ
flagged n true = n ∷ []
flagged n false = []

-- the numbers of a colour: from 30 on for a character, from 40 on for its background
abbrev pub coloured : ℕ → Option Colour → List ℕ
coloured base None = []
coloured base (Some (Ansi n)) = (if nat_lt n 8 then base + n else base + 52 + n) ∷ []
coloured base (Some (Rgb r g b)) = (base + 8) ∷ 2 ∷ r ∷ g ∷ b ∷ []

-- the numbers of attributes
abbrev pub numbers_of : Attrs → List ℕ
numbers_of pen =
    flagged 1 pen.bold ++ flagged 3 pen.italic ++ flagged 4 pen.underline ++ flagged 5 pen.blink ++ flagged 7 pen.reverse ++ flagged 8 pen.hidden
    ++ flagged 9 pen.strike ++ coloured 30 pen.fg ++ coloured 40 pen.bg

-- numbers, each behind a separator, but for the first one of all where it is the first of the sequence
abbrev pub listed_by : Bool → List ℕ → List ℕ
listed_by first [] = []
listed_by true (n ∷ ns) = decimal n ++ listed ns
listed_by false (n ∷ ns) = listed (n ∷ ns)

-- whether the next number is the first of the sequence
abbrev pub still_first : Bool → List ℕ → Bool
still_first first [] = first
still_first first (n ∷ ns) = false

-- the sequence of some attributes: it adds them to the pen, or an empty number before them, which is a 0, makes the pen plain first
abbrev pub spelled_pen : Bool → Attrs → List ℕ
spelled_pen adds pen = 27 ∷ 91 ∷ listed_by adds (numbers_of pen) ++ 109 ∷ []

-- a colour, or the one before where there is none
abbrev pub colour_over : Option Colour → Option Colour → Option Colour
colour_over None old = old
colour_over (Some colour) old = Some colour

-- a pen with some attributes beside its own
abbrev pub joined : Attrs → Attrs → Attrs
joined pen more = record {
  fg = colour_over more.fg pen.fg;
  bg = colour_over more.bg pen.bg;
  bold = more.bold || pen.bold;
  italic = more.italic || pen.italic;
  underline = more.underline || pen.underline;
  blink = more.blink || pen.blink;
  reverse = more.reverse || pen.reverse;
  hidden = more.hidden || pen.hidden;
  strike = more.strike || pen.strike;
}

-- the numbers of a direct colour are bytes
abbrev pub IsByteColour : Option Colour → Type 0
IsByteColour None = Unit {0}
IsByteColour (Some (Ansi n)) = Unit {0}
IsByteColour (Some (Rgb r g b)) = (r ≤ 255) × (g ≤ 255) × (b ≤ 255)

abbrev pub IsBytePen : Attrs → Type 0
IsBytePen pen = IsByteColour pen.fg × IsByteColour pen.bg
