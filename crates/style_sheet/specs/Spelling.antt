-- The words of a rule: each change has one word.
use Rattle.std.specs.Prelude.{ℕ, ◌<◌, ◌/◌, ◌%◌, true, false, Option, None, Some, IfSome, List, [], ◌∷◌, ◌++◌, map, codes, slice_index_or}
use Rattle.std.specs.Char.{digit_char}
use Rattle.cell_grid.specs.declared.attrs.Colour.{Colour}
use Rattle.cell_grid.specs.declared.attrs.Colour.TheVariants.{Ansi, Rgb}
use Rattle.style_sheet.specs.declared.changes.Flag.{Flag}
use Rattle.style_sheet.specs.declared.changes.Flag.TheVariants.{Bold, Italic, Underline, Blink, Reverse, Hidden, Strike}
use Rattle.style_sheet.specs.declared.changes.Change.{Change}
use Rattle.style_sheet.specs.declared.changes.Change.TheVariants.{Switch, Foreground, Background}

-- the word that switches a flag on
abbrev pub flag_name : Flag → List ℕ
flag_name Bold = codes "bold"
flag_name Italic = codes "italic"
flag_name Underline = codes "underline"
flag_name Blink = codes "blink"
flag_name Reverse = codes "reverse"
flag_name Hidden = codes "hidden"
flag_name Strike = codes "strike"

-- the names of the colours Ansi 0 to 7
abbrev pub hue_names : List (List ℕ)
hue_names =
    codes "black" ∷ codes "red" ∷ codes "green" ∷ codes "yellow" ∷ codes "blue" ∷ codes "magenta" ∷ codes "cyan" ∷ codes "white" ∷ []

-- the names of the colours Ansi 0 to 15: the second eight are the bright ones
abbrev pub ansi_names : List (List ℕ)
ansi_names = hue_names ++ map (λ hue. codes "bright-" ++ hue) hue_names

-- a number below 256 in two digits of 0-9a-f
abbrev pub hex_pair : ℕ → List ℕ
hex_pair n = digit_char (n / 16) ∷ digit_char (n % 16) ∷ []

-- the name of a colour: one of the sixteen names, or `#` and the six digits of red, green and blue
abbrev pub colour_name : Colour → List ℕ
colour_name (Ansi n) = slice_index_or ansi_names n []
colour_name (Rgb r g b) = codes "#" ++ hex_pair r ++ hex_pair g ++ hex_pair b

-- what stands for a colour, or for none: that is the terminal's own
abbrev pub colour_word : Option Colour → List ℕ
colour_word None = codes "default"
colour_word (Some colour) = colour_name colour

-- the word of a change
abbrev pub change_word : Change → List ℕ
change_word (Switch flag true) = flag_name flag
change_word (Switch flag false) = codes "no" ++ flag_name flag
change_word (Foreground colour) = codes "fg:" ++ colour_word colour
change_word (Background colour) = codes "bg:" ++ colour_word colour

-- a colour that there is: sixteen are numbered, and each part of the others is a byte
abbrev pub IsColour : Colour → Type 0
IsColour (Ansi n) = n < 16
IsColour (Rgb r g b) = (r < 256) × (g < 256) × (b < 256)

-- a change whose colour there is
abbrev pub IsChange : Change → Type 0
IsChange (Switch flag on) = Unit {0}
IsChange (Foreground colour) = IfSome colour IsColour
IsChange (Background colour) = IfSome colour IsColour
