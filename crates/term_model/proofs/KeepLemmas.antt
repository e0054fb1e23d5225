-- Each control and each change of the size leaves a terminal.
use Prim.Native.Nat.{zero, suc}
use Rattle.std.proofs.Common.{◌≡◌, ℕ, ◌+◌, ◌-◌, ◌≤◌, ◌<◌, ◌⊎◌, inl, inr, Bool, true, false, List, [], ◌∷◌, Option, Some, None, length, take, set, map, replicate, refl, ◌∙◌, arith, length-append, length-take-le, length-set, ⊎_elim}
use Rattle.std.specs.Prelude.{slice_get, IsSomeAnd, nat_lt, nat_le, ◌&&◌}
use Rattle.std.proofs.lemmas.List.{length-replicate, length-map, length-take, get_or_past}
use Rattle.std.proofs.lemmas.Bool.{cases_lt}
use Rattle.std.proofs.lemmas.Bool.Decides.{nat_tests}
use Rattle.cell_grid.specs.declared.cell.Cell.{Cell}
use Rattle.cell_grid.specs.declared.cell.Cell.TheVariants.{Lead, Tail}
use Rattle.cell_grid.specs.CellText.{with_joined}
use Rattle.cell_grid.specs.Cell.{IsLead, spread}
use Rattle.cell_grid.specs.Row.{blank_row, put_at}
use Rattle.cell_grid.specs.Grid.{IsRow, AllRows, row_at, blank_rows}
use Rattle.cell_grid.specs.Size.{Extent, IsScreen}
use Rattle.cell_grid.proofs.RowLemmas.{whole-spread}
use Rattle.term_model.specs.Controls.{Control, CR, LF, CUU, CUF, CUB, EL, ED, SGR, DECAWM, DECTCEM, BracketedPaste, Ignored, Print}
use Rattle.term_model.specs.Term.{Term, IsTerminal, HasLead, start_of}
use Rattle.term_model.specs.Obeying.{line_of, returned, wiped, wiped_row, fed_by, fed, erased_line, erased_in_line, erased_in_page, wrapped_by, wrapped, placed_by, placed, joined_cell, joined_row, joined_at, joined, width_of, printed_by, act, acted}
use Rattle.term_model.specs.Resizing.{fitted_line, rows_lost, resized}
use Rattle.cell_grid.proofs.GridLemmas.{AllRows-at, AllRows-set, row-blank_row}
use Rattle.term_model.proofs.LineLemmas.{row-wiped, row-laid_at, AllRows-append, AllRows-take, AllRows-replicate, AllRows-fitted, HasLead-put, lead-within, length-spread}

pub start-keeps : (size : Extent) → IsScreen size.rows size.cols → IsTerminal (start_of size)
start-keeps size h = record {
  size = h;
  count = length-replicate size.rows _ ∙ omega arith;
  wide = AllRows-replicate size.rows size.cols _ (row-blank_row size.cols);
  row = omega (arith, h.0);
  col = omega (arith, h.2);
  last = tt;
}

pub returned-keeps : (t : Term) → IsTerminal t → IsTerminal (returned t)
returned-keeps t h = record { size = h.size; count = h.count; wide = h.wide; row = h.row; col = omega (arith, h.col); last = tt }

fed_by-keeps : (more : Bool) (t : Term) → IsTerminal t → (more ≡ true → t.row + 1 < t.rows) → IsTerminal (fed_by more t)
fed_by-keeps true t h below = record { size = h.size; count = h.count; wide = h.wide; row = below refl; col = h.col; last = tt }
fed_by-keeps false t h below = record {
  size = h.size;
  count = omega (arith, length-append t.lines (wiped_row t ∷ []), h.count);
  wide = AllRows-append t.cols t.lines (wiped_row t ∷ []) h.wide (row-wiped t.cols t.pen, tt);
  row = h.row;
  col = h.col;
  last = tt;
}

pub fed-keeps : (t : Term) → IsTerminal t → IsTerminal (fed t)
fed-keeps t h = fed_by-keeps (nat_lt (t.row + 1) t.rows) t h (λ below. grind (arith, nat_tests))

pub within-lines : (t : Term) → IsTerminal t → line_of t < length t.lines
within-lines t h = omega (arith, h.count, h.row)

pub row-line : (t : Term) → IsTerminal t → IsRow t.cols (row_at t.lines (line_of t))
row-line t h = AllRows-at t.cols t.lines (line_of t) h.wide (within-lines t h)

pub row-erased_line : (t : Term) → IsTerminal t → IsRow t.cols (erased_line t)
row-erased_line t h =
    let fill = row-wiped (t.cols - t.col) t.pen in
    row-laid_at t.cols (row_at t.lines (line_of t)) t.col (replicate (t.cols - t.col) (wiped t.pen)) (row-line t h) fill.whole (omega (arith, fill.long, h.col))

erased_in_line-keeps : (t : Term) → IsTerminal t → IsTerminal (erased_in_line t)
erased_in_line-keeps t h = record {
  size = h.size;
  count = length-set t.lines (line_of t) (erased_line t) ∙ h.count;
  wide = AllRows-set t.cols t.lines (line_of t) (erased_line t) h.wide (row-erased_line t h);
  row = h.row;
  col = h.col;
  last = tt;
}

erased_in_page-keeps : (t : Term) → IsTerminal t → IsTerminal (erased_in_page t)
erased_in_page-keeps t h =
    let below = replicate (t.rows - (t.row + 1)) (wiped_row t) in
    let above = take (line_of t) t.lines in
    record {
      size = h.size;
      count = omega (arith, length-append above (erased_line t ∷ below), length-take-le (line_of t) t.lines (omega (arith, h.count, h.row)), length-replicate (t.rows - (t.row + 1)) (wiped_row t), h.row);
      wide = AllRows-append t.cols above (erased_line t ∷ below) (AllRows-take (line_of t) t.cols t.lines h.wide)
          (row-erased_line t h, AllRows-replicate (t.rows - (t.row + 1)) t.cols (wiped_row t) (row-wiped t.cols t.pen));
      row = h.row;
      col = h.col;
      last = tt;
    }

wrapped_by-keeps : (now : Bool) (t : Term) → IsTerminal t → IsTerminal (wrapped_by now t)
wrapped_by-keeps true t h = fed-keeps (returned t) (returned-keeps t h)
wrapped_by-keeps false t h = h

pub wrapped-keeps : (t : Term) → IsTerminal t → IsTerminal (wrapped t)
wrapped-keeps t h = wrapped_by-keeps (t.pending && t.wraps) t h

placed_by-keeps : (fits : Bool) (t : Term) (c width : ℕ) → IsTerminal t → (width ≡ 1) ⊎ (width ≡ 2) → (fits ≡ true → t.col + width ≤ t.cols) → IsTerminal (placed_by fits t c width)
placed_by-keeps true t c width h lead fits =
    let cell = Lead (c ∷ []) width t.pen in
    let line = row-line t h in
    record {
      size = h.size;
      count = length-set t.lines (line_of t) (put_at (row_at t.lines (line_of t)) t.col cell) ∙ h.count;
      wide = AllRows-set t.cols t.lines (line_of t) (put_at (row_at t.lines (line_of t)) t.col cell) h.wide
          (row-laid_at t.cols (row_at t.lines (line_of t)) t.col (spread cell) line (whole-spread cell lead) (omega (arith, length-spread (c ∷ []) width t.pen lead, fits refl)));
      row = h.row;
      col = omega (arith, h.size.2);
      last = HasLead-put t.lines (line_of t) t.col (c ∷ []) width t.pen (within-lines t h) (omega (arith, line.long, h.col)) lead;
    }
placed_by-keeps false t c width h lead fits = h

pub placed-keeps : (t : Term) (c width : ℕ) → IsTerminal t → (width ≡ 1) ⊎ (width ≡ 2) → IsTerminal (placed t c width)
placed-keeps t c width h lead = placed_by-keeps (nat_le (t.col + width) t.cols) t c width h lead (λ fits. grind (arith, nat_tests))

-- what a joined character leaves of a row and of the lead there
pub record Joins (cols : ℕ) (lines : List (List Cell)) (place : ℕ × ℕ) (row : List Cell) : Type 0 where
  pub whole : IsRow cols row
  pub lead : HasLead (set lines place.0 row) place

joined_cell-keeps : (cols : ℕ) (lines : List (List Cell)) (place : ℕ × ℕ) (found : Option Cell) (c : ℕ) → place.0 < length lines → IsRow cols (row_at lines place.0)
    → slice_get (row_at lines place.0) place.1 ≡ found → IsSomeAnd found IsLead → Joins cols lines place (joined_cell (row_at lines place.0) place.1 found c)
joined_cell-keeps cols lines place None c above h is lead = absurd lead
joined_cell-keeps cols lines place (Some Tail) c above h is lead = absurd lead
joined_cell-keeps cols lines place (Some (Lead text width attrs)) c above h is lead =
    let cell = Lead (with_joined text c) width attrs in
    let row = row_at lines place.0 in
    let within : place.1 + width ≤ length row = lead-within row place.1 text width attrs h.whole is in
    record {
      whole = row-laid_at cols row place.1 (spread cell) h (whole-spread cell lead) (omega (arith, length-spread (with_joined text c) width attrs lead, h.long));
      lead = HasLead-put lines place.0 place.1 (with_joined text c) width attrs above (omega arith) lead;
    }

-- a line that has a lead is there
pub HasLead-within : (lines : List (List Cell)) (place : ℕ × ℕ) → HasLead lines place → place.0 < length lines
HasLead-within lines place h = ⊎_elim (λ (yes : place.0 < length lines). yes)
    (λ (past : length lines ≤ place.0). absurd (rw (get_or_past lines place.0 [] past) at h)) (cases_lt place.0 (length lines))

pub joined_row-keeps : (cols : ℕ) (lines : List (List Cell)) (place : ℕ × ℕ) (c : ℕ) → AllRows cols lines → HasLead lines place
    → Joins cols lines place (joined_row (row_at lines place.0) place.1 c)
joined_row-keeps cols lines place c all lead =
    let above = HasLead-within lines place lead in
    joined_cell-keeps cols lines place (slice_get (row_at lines place.0) place.1) c above (AllRows-at cols lines place.0 all above) refl lead

joined_at-keeps : (last : Option (ℕ × ℕ)) (t : Term) (c : ℕ) → IsTerminal t → t.last ≡ last → IsTerminal (joined_at last t c)
joined_at-keeps None t c h is = h
joined_at-keeps (Some place) t c h is =
    let joins = joined_row-keeps t.cols t.lines place c h.wide (rw is at h.last) in
    let row = joined_row (row_at t.lines place.0) place.1 c in
    record {
      size = h.size;
      count = length-set t.lines place.0 row ∙ h.count;
      wide = AllRows-set t.cols t.lines place.0 row h.wide joins.whole;
      row = h.row;
      col = h.col;
      last = rw is joins.lead;
    }

pub joined-keeps : (t : Term) (c : ℕ) → IsTerminal t → IsTerminal (joined t c)
joined-keeps t c h = joined_at-keeps t.last t c h refl

printed_by-keeps : (width : ℕ) (t : Term) (c : ℕ) → IsTerminal t → IsTerminal (printed_by width t c)
printed_by-keeps zero t c h = joined-keeps t c h
printed_by-keeps (suc zero) t c h = placed-keeps (wrapped t) c 1 (wrapped-keeps t h) (inl refl)
printed_by-keeps (suc (suc zero)) t c h = placed-keeps (wrapped t) c 2 (wrapped-keeps t h) (inr refl)
printed_by-keeps (suc (suc (suc more))) t c h = placed-keeps (wrapped t) 0xFFFD 1 (wrapped-keeps t h) (inl refl)

pub act-keeps : (t : Term) (control : Control) → IsTerminal t → IsTerminal (act t control)
act-keeps t CR h = returned-keeps t h
act-keeps t LF h = fed-keeps t h
act-keeps t (CUU n) h = record { size = h.size; count = h.count; wide = h.wide; row = omega (arith, h.row); col = h.col; last = tt }
act-keeps t (CUF n) h = record { size = h.size; count = h.count; wide = h.wide; row = h.row; col = omega (arith, h.size.2); last = tt }
act-keeps t (CUB n) h = record { size = h.size; count = h.count; wide = h.wide; row = h.row; col = omega (arith, h.col); last = tt }
act-keeps t EL h = erased_in_line-keeps t h
act-keeps t ED h = erased_in_page-keeps t h
act-keeps t (SGR numbers) h = record { size = h.size; count = h.count; wide = h.wide; row = h.row; col = h.col; last = h.last }
act-keeps t (DECAWM on) h = record { size = h.size; count = h.count; wide = h.wide; row = h.row; col = h.col; last = tt }
act-keeps t (DECTCEM on) h = record { size = h.size; count = h.count; wide = h.wide; row = h.row; col = h.col; last = tt }
act-keeps t (BracketedPaste on) h = record { size = h.size; count = h.count; wide = h.wide; row = h.row; col = h.col; last = tt }
act-keeps t Ignored h = record { size = h.size; count = h.count; wide = h.wide; row = h.row; col = h.col; last = tt }
act-keeps t (Print c) h = printed_by-keeps (width_of c) t c h

pub acted-keeps : (controls : List Control) (t : Term) → IsTerminal t → IsTerminal (acted t controls)
acted-keeps [] t h = h
acted-keeps (control ∷ controls) t h = acted-keeps controls (act t control) (act-keeps t control h)

pub resized-keeps : (t : Term) (size : Extent) → IsScreen size.rows size.cols → IsTerminal t → IsTerminal (resized t size)
resized-keeps t size screen h =
    let count = t.top + rows_lost t size + size.rows in
    let kept = map (fitted_line size.cols) (take count t.lines) in
    let added = blank_rows (count - length t.lines) size.cols in
    record {
      size = screen;
      count = omega (arith, length-append kept added, length-map (take count t.lines) (fitted_line size.cols), length-take count t.lines, length-replicate (count - length t.lines) (blank_row size.cols));
      wide = AllRows-append size.cols kept added (AllRows-fitted t.cols size.cols (take count t.lines) (AllRows-take count t.cols t.lines h.wide))
          (AllRows-replicate (count - length t.lines) size.cols (blank_row size.cols) (row-blank_row size.cols));
      row = omega (arith, screen.0);
      col = omega (arith, screen.2);
      last = tt;
    }
