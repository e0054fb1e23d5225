-- SELECT GRAPHIC RENDITION (ECMA-48, 8.3.117), with the bright and the direct colours of xterm.
use Rattle.std.specs.Prelude.{ℕ, zero, suc, ◌-◌, true, List, [], ◌∷◌, Option, Some, None, ◌==◌, ◌&&◌, ◌||◌, nat_le, if◌then◌else◌}
use Rattle.std.specs.Int.{is_in_range}
use Rattle.cell_grid.specs.declared.attrs.Colour.{Colour}
use Rattle.cell_grid.specs.declared.attrs.Colour.TheVariants.{Ansi, Rgb}
use Rattle.cell_grid.specs.declared.attrs.Attrs.{Attrs}
use Rattle.cell_grid.specs.Attrs.{plain}

-- the pen with the colour of a number: 30 to 37 and 90 to 97 are those of characters, 40 to 47 and 100 to 107 those of their background
abbrev pub coloured : Attrs → ℕ → Attrs
coloured pen n =
    if is_in_range 30 37 n then record pen { fg = Some (Ansi (n - 30)) }
    else if is_in_range 40 47 n then record pen { bg = Some (Ansi (n - 40)) }
    else if is_in_range 90 97 n then record pen { fg = Some (Ansi (n - 82)) }
    else if is_in_range 100 107 n then record pen { bg = Some (Ansi (n - 92)) }
    else pen

-- the pen after one number by itself
abbrev pub styled_once : Attrs → ℕ → Attrs
styled_once pen n =
    if n == 0 then plain
    else if n == 1 then record pen { bold = true }
    else if n == 3 then record pen { italic = true }
    else if n == 4 then record pen { underline = true }
    else if n == 5 then record pen { blink = true }
    else if n == 7 then record pen { reverse = true }
    else if n == 8 then record pen { hidden = true }
    else if n == 9 then record pen { strike = true }
    else coloured pen n

-- the direct colour of which the numbers behind a 38 or a 48 begin with `2;r;g;b`
abbrev pub direct_colour : List ℕ → Option Colour
direct_colour [] = None
direct_colour (kind ∷ []) = None
direct_colour (kind ∷ r ∷ []) = None
direct_colour (kind ∷ r ∷ g ∷ []) = None
direct_colour (kind ∷ r ∷ g ∷ b ∷ rest) =
    if kind == 2 && nat_le r 255 && nat_le g 255 && nat_le b 255 then Some (Rgb r g b) else None

-- the colour that a number takes from those behind it
abbrev pub colour_behind : ℕ → List ℕ → Option Colour
colour_behind n ns = if n == 38 || (n == 48) then direct_colour ns else None

-- how many of the numbers behind it belong to the colour
abbrev pub taken_by : Option Colour → ℕ
taken_by None = 0
taken_by (Some colour) = 4

-- the pen after a number, with the colour that it takes or by itself
abbrev pub styled_by : Attrs → ℕ → Option Colour → Attrs
styled_by pen n None = styled_once pen n
styled_by pen n (Some colour) = if n == 38 then record pen { fg = Some colour } else record pen { bg = Some colour }

-- the pen after some numbers from the left to the right, the first ones of which are passed over
abbrev pub styled_past : ℕ → Attrs → List ℕ → Attrs
styled_past skipped pen [] = pen
styled_past (suc skipped) pen (n ∷ ns) = styled_past skipped pen ns
styled_past zero pen (n ∷ ns) = styled_past (taken_by (colour_behind n ns)) (styled_by pen n (colour_behind n ns)) ns

-- the pen after all of the numbers
abbrev pub styled : Attrs → List ℕ → Attrs
styled pen numbers = styled_past 0 pen numbers
