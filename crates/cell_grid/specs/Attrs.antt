-- The attributes of a cell, which a contract sees by their fields.
use Rattle.std.specs.Prelude.{Bool, false, ◌&&◌, None, nat_eq}
use Rattle.std.specs.Bool.{beq}
use Rattle.std.specs.Option.{option_eq}
use Rattle.cell_grid.specs.declared.attrs.Attrs.{Attrs}
use Rattle.cell_grid.specs.declared.attrs.Colour.{Colour}
use Rattle.cell_grid.specs.declared.attrs.Colour.TheVariants.{Ansi, Rgb}

-- no colours and no other attribute
abbrev pub plain : Attrs
plain = record {
  fg = None;
  bg = None;
  bold = false;
  italic = false;
  underline = false;
  blink = false;
  reverse = false;
  hidden = false;
  strike = false;
}

-- whether two colours are equal
abbrev pub same_colour : Colour → Colour → Bool
same_colour (Ansi n) (Ansi m) = nat_eq n m
same_colour (Ansi n) (Rgb s h c) = false
same_colour (Rgb r g b) (Ansi m) = false
same_colour (Rgb r g b) (Rgb s h c) = nat_eq r s && nat_eq g h && nat_eq b c

-- whether two attributes are equal
abbrev pub same_attrs : Attrs → Attrs → Bool
same_attrs a b =
    option_eq same_colour a.fg b.fg && (option_eq same_colour a.bg b.bg && (beq a.bold b.bold && (beq a.italic b.italic
    && (beq a.underline b.underline && (beq a.blink b.blink && (beq a.reverse b.reverse && (beq a.hidden b.hidden
    && beq a.strike b.strike)))))))
