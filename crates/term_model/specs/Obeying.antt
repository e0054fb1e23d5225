-- What each control does to a terminal.
use Rattle.std.specs.Prelude.{ℕ, zero, suc, ◌+◌, ◌-◌, Bool, true, false, ◌&&◌, List, [], ◌∷◌, ◌++◌, Option, Some, None, min, take, replicate, nat_lt, nat_le, unwrap_or, slice_get, slice_set}
use Rattle.characters.specs.Characters.{characters}
use Rattle.unicode_width.specs.Width.{char_width}
use Rattle.cell_grid.specs.declared.attrs.Attrs.{Attrs}
use Rattle.cell_grid.specs.declared.cell.Cell.{Cell}
use Rattle.cell_grid.specs.declared.cell.Cell.TheVariants.{Lead, Tail}
use Rattle.cell_grid.specs.Attrs.{plain}
use Rattle.cell_grid.specs.Cell.{narrow}
use Rattle.cell_grid.specs.CellText.{with_joined}
use Rattle.cell_grid.specs.Row.{laid_at, put_at}
use Rattle.cell_grid.specs.Grid.{row_at, put_in}
use Rattle.term_model.specs.Controls.{Control, CR, LF, CUU, CUF, CUB, EL, ED, SGR, DECAWM, DECTCEM, BracketedPaste, Ignored, Print, between, controls_from}
use Rattle.term_model.specs.Rendition.{styled}
use Rattle.term_model.specs.Term.{Term}

-- the line of the cursor
abbrev pub line_of : Term → ℕ
line_of t = t.top + t.row

-- the terminal without a pending wrap and a place printed last
abbrev pub forgotten : Term → Term
forgotten t = record t { pending = false; last = None }

-- ---- moving

-- the cursor at another place of the window
abbrev pub moved : Term → ℕ → ℕ → Term
moved t row col = forgotten (record t { row = row; col = col })

-- CR: to the first column
abbrev pub returned : Term → Term
returned t = moved t t.row 0

-- an erased cell, and each cell of a new line: a space with the pen's background and no other attribute
abbrev pub wiped : Attrs → Cell
wiped pen = narrow 32 (record plain { bg = pen.bg })

abbrev pub wiped_row : Term → List Cell
wiped_row t = replicate t.cols (wiped t.pen)

-- LF: one row down, where a row is below, or else to a new line, for which the window moves down
abbrev pub fed_by : Bool → Term → Term
fed_by true t = moved t (t.row + 1) t.col
fed_by false t = forgotten (record t { lines = t.lines ++ wiped_row t ∷ []; top = t.top + 1 })

abbrev pub fed : Term → Term
fed t = fed_by (nat_lt (t.row + 1) t.rows) t

-- ---- erasing

-- the cursor's line, erased from the cursor to its end
abbrev pub erased_line : Term → List Cell
erased_line t = laid_at (row_at t.lines (line_of t)) t.col (replicate (t.cols - t.col) (wiped t.pen))

-- EL
abbrev pub erased_in_line : Term → Term
erased_in_line t = forgotten (record t { lines = slice_set t.lines (line_of t) (erased_line t) })

-- ED: that, and all rows below
abbrev pub erased_in_page : Term → Term
erased_in_page t =
    forgotten (record t { lines = take (line_of t) t.lines ++ erased_line t ∷ replicate (t.rows - (t.row + 1)) (wiped_row t) })

-- ---- printing

-- a pending wrap is done, where autowrap is on
abbrev pub wrapped_by : Bool → Term → Term
wrapped_by true t = fed (returned t)
wrapped_by false t = t

abbrev pub wrapped : Term → Term
wrapped t = wrapped_by (t.pending && t.wraps) t

-- a character of this width is put at the cursor, where there are columns enough, and the cursor moves behind it
abbrev pub placed_by : Bool → Term → ℕ → ℕ → Term
placed_by true t c width = record t {
  lines = put_in t.lines (line_of t) t.col (Lead (c ∷ []) width t.pen);
  col = min (t.col + width) (t.cols - 1);
  pending = nat_le t.cols (t.col + width);
  last = Some (line_of t, t.col);
}
placed_by false t c width = t

abbrev pub placed : Term → ℕ → ℕ → Term
placed t c width = placed_by (nat_le (t.col + width) t.cols) t c width

-- a character is joined to the cell at a place of a row, which holds up to 8
abbrev pub joined_cell : List Cell → ℕ → Option Cell → ℕ → List Cell
joined_cell row at None c = row
joined_cell row at (Some (Lead text width attrs)) c = put_at row at (Lead (with_joined text c) width attrs)
joined_cell row at (Some Tail) c = row

abbrev pub joined_row : List Cell → ℕ → ℕ → List Cell
joined_row row at c = joined_cell row at (slice_get row at) c

-- a character is joined to the place printed last, if there is one
abbrev pub joined_at : Option (ℕ × ℕ) → Term → ℕ → Term
joined_at None t c = t
joined_at (Some place) t c =
    record t { lines = slice_set t.lines place.0 (joined_row (row_at t.lines place.0) place.1 c) }

abbrev pub joined : Term → ℕ → Term
joined t c = joined_at t.last t c

-- how many columns a character takes
abbrev pub width_of : ℕ → ℕ
width_of c = unwrap_or (char_width false c) 0

-- a character of width 0 joins the place printed last, and one of more than 2 columns is shown as U+FFFD
abbrev pub printed_by : ℕ → Term → ℕ → Term
printed_by zero t c = joined t c
printed_by (suc zero) t c = placed (wrapped t) c 1
printed_by (suc (suc zero)) t c = placed (wrapped t) c 2
printed_by (suc (suc (suc more))) t c = placed (wrapped t) 0xFFFD 1

abbrev pub printed : Term → ℕ → Term
printed t c = printed_by (width_of c) t c

-- ---- all controls

-- what one control does: each but attributes and printing forgets the pending wrap and the place printed last, also one without an
-- effect
abbrev pub act : Term → Control → Term
act t CR = returned t
act t LF = fed t
act t (CUU n) = moved t (t.row - n) t.col
act t (CUF n) = moved t t.row (min (t.col + n) (t.cols - 1))
act t (CUB n) = moved t t.row (t.col - n)
act t EL = erased_in_line t
act t ED = erased_in_page t
act t (SGR numbers) = record t { pen = styled t.pen numbers }
act t (DECAWM on) = forgotten (record t { wraps = on })
act t (DECTCEM on) = forgotten (record t { visible = on })
act t (BracketedPaste on) = forgotten (record t { pasting = on })
act t Ignored = forgotten t
act t (Print c) = printed t c

-- what some controls do, one after the other
abbrev pub acted : Term → List Control → Term
acted t [] = t
acted t (control ∷ controls) = acted (act t control) controls

-- the terminal that obeyed some characters
abbrev pub obeyed : Term → List ℕ → Term
obeyed t chars = acted t (controls_from between chars)

-- the characters of some bytes, without one that is unfinished at their end
abbrev pub chars_of : List ℕ → List ℕ
chars_of bytes = (characters bytes).items

-- the terminal that obeyed some bytes
abbrev pub obeyed_bytes : Term → List ℕ → Term
obeyed_bytes t bytes = obeyed t (chars_of bytes)
