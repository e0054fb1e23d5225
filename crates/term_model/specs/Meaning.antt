-- Which controls and numbers the values of the code stand for.
use Rattle.std.specs.Prelude.{ℕ, List, [], Option, Some, None}
use Rattle.std.specs.Borrow.{Bor}
use Rattle.term_model.specs.declared.reading.Control.{Control}
use Rattle.term_model.specs.declared.reading.Control.TheVariants as code
use Rattle.term_model.specs.Parameters.{numbers_from}
use Rattle.cell_grid.specs.declared.attrs.Colour.{Colour}
use Rattle.term_model.specs.Controls as spec

-- the numbers of the parameters that are left, if a separator stood before them
abbrev pub numbers_behind : Option (Bor (List ℕ)) → List ℕ
numbers_behind None = []
numbers_behind (Some rest) = numbers_from 0 rest.now

-- the colour that was found, if there is one
abbrev pub colour_in : Option (Colour × Option (Bor (List ℕ))) → Option Colour
colour_in None = None
colour_in (Some found) = Some found.0

-- the control that a value stands for
abbrev pub meant : Control → spec.Control
meant code.CarriageReturn = spec.CR
meant code.LineFeed = spec.LF
meant (code.CursorUp n) = spec.CUU n
meant (code.CursorRight n) = spec.CUF n
meant (code.CursorLeft n) = spec.CUB n
meant code.EraseInLine = spec.EL
meant code.EraseInPage = spec.ED
meant (code.Rendition params) = spec.SGR (numbers_from 0 params.now)
meant (code.AutoWrap on) = spec.DECAWM on
meant (code.CursorVisible on) = spec.DECTCEM on
meant (code.BracketedPaste on) = spec.BracketedPaste on
meant code.Ignored = spec.Ignored
meant (code.Print c) = spec.Print c
