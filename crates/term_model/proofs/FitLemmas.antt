-- Rows that are cut and padded cell by cell.
use Rattle.std.proofs.Common.{◌≡◌, ℕ, ◌+◌, ◌-◌, ◌≤◌, ◌<◌, ◌⊎◌, inl, inr, Bool, true, false, List, [], ◌∷◌, ◌++◌, Some, length, take, drop, min, map, refl, sym, ap, subst, ◌∙◌, arith, length-drop, append-nil, take_all, ⊎_elim}
use Rattle.std.specs.Prelude.{slice_get, nat_le, if◌then◌else◌}
use Rattle.std.proofs.Math.Seq.{take-add}
use Rattle.std.proofs.lemmas.Bool.{cases_lt}
use Rattle.std.proofs.lemmas.Bool.Decides.{nat_tests}
use Rattle.std.proofs.lemmas.List.{drop_more, drop-drop, take_more, length-map, length-take}
use Rattle.std.proofs.lemmas.Option.{get_or_from_slice_get}
use Rattle.cell_grid.specs.declared.attrs.Attrs.{Attrs}
use Rattle.cell_grid.specs.declared.cell.Cell.{Cell}
use Rattle.cell_grid.specs.declared.cell.Cell.TheVariants.{Lead, Tail}
use Rattle.cell_grid.specs.Cell.{blank, IsLead, spread}
use Rattle.cell_grid.specs.Row.{IsWhole, IsWholeAfter, mended, mend_end, blank_row}
use Rattle.cell_grid.proofs.RowLemmas.{length-mend_end, whole-append, whole-spread}
use Rattle.term_model.specs.Resizing.{fitted_line, fitted_lines}
use Rattle.cell_grid.specs.Grid.{AllRows, blank_rows}
use Rattle.term_model.proofs.EraseLemmas.{mend_end-whole}
use Rattle.term_model.proofs.LineLemmas.{AllRows-take}

-- the cell that a whole row begins with
pub record Begins (cell : Cell) (rest : List Cell) : Type 0 where
  pub lead : IsLead cell
  pub fits : length (spread cell) ≤ length (cell ∷ rest)
  pub front : take (length (spread cell)) (cell ∷ rest) ≡ spread cell
  pub back : IsWhole (drop (length (spread cell)) (cell ∷ rest))
  pub few : length (spread cell) ≤ 2
  pub wide : 2 ≤ length (spread cell) → mended cell ≡ blank

begins_wide : (text : List ℕ) (attrs : Attrs) (rest : List Cell) → IsWholeAfter true rest → Begins (Lead text 2 attrs) rest
begins_wide text attrs [] h = absurd h
begins_wide text attrs (Lead more width others ∷ rest) h = absurd h
begins_wide text attrs (Tail ∷ rest) h = record { lead = inr refl; fits = omega arith; front = refl; back = h; few = omega arith; wide = λ _. refl }

begins_narrow : (text : List ℕ) (attrs : Attrs) (rest : List Cell) → IsWhole rest → Begins (Lead text 1 attrs) rest
begins_narrow text attrs rest h = record { lead = inl refl; fits = omega arith; front = refl; back = h; few = omega arith; wide = λ more. absurd (omega arith) }

pub begins : (cell : Cell) (rest : List Cell) → IsWhole (cell ∷ rest) → Begins cell rest
begins Tail rest h = absurd h
begins (Lead text width attrs) rest h = elim h [
  | inl p ↦ subst (λ (w : ℕ). Begins (Lead text w attrs) rest) (sym p.0) (begins_narrow text attrs rest p.1)
  | inr p ↦ subst (λ (w : ℕ). Begins (Lead text w attrs) rest) (sym p.0) (begins_wide text attrs rest p.1)
]

mend_end-push : (cells : List Cell) (cell : Cell) → mend_end (cells ++ cell ∷ []) ≡ cells ++ mended cell ∷ []
mend_end-push [] cell = refl
mend_end-push (first ∷ []) cell = refl
mend_end-push (first ∷ next ∷ rest) cell = ap (λ cells. first ∷ cells) (mend_end-push (next ∷ rest) cell)

-- the first columns of a row that were cut off so far
pub record IsCut (row cut : List Cell) (at cols : ℕ) : Type 0 where
  pub is : cut ≡ mend_end (take (min at cols) row)
  pub front : at ≤ cols → IsWhole (take at row)
  pub rest : IsWhole (drop at row)
  pub within : at ≤ length row

-- the cell, or a blank where it doesn't fit
abbrev pub fitting : Cell → Bool → Cell
fitting cell fits = if fits then cell else blank

module _ (row cut : List Cell) (at cols : ℕ) (cell : Cell) (h : IsCut row cut at cols) (inside : at < cols) (within : at < length row) (stands : slice_get row at ≡ Some cell) where
  here : drop at row ≡ cell ∷ drop (at + 1) row
  here = drop_more row at cell within ∙ ap (λ first. first ∷ drop (at + 1) row) (get_or_from_slice_get row at cell cell stands)

  pub next_begins : Begins cell (drop (at + 1) row)
  next_begins = begins cell (drop (at + 1) row) (subst IsWhole here h.rest)

  kept : cut ≡ take at row
  kept =
      let same : min at cols ≡ at = omega arith in
      h.is ∙ ap (λ (n : ℕ). mend_end (take n row)) same ∙ mend_end-whole (take at row) (h.front (omega arith))

  longer : take (at + length (spread cell)) row ≡ take at row ++ spread cell
  longer =
      take-add at (length (spread cell)) row
      ∙ ap (λ cells. take at row ++ take (length (spread cell)) cells) here
      ∙ ap (λ cells. take at row ++ cells) next_begins.front

  whole_longer : IsWhole (take (at + length (spread cell)) row)
  whole_longer = subst IsWhole (sym longer) (whole-append false (take at row) (spread cell) (h.front (omega arith)) (whole-spread cell next_begins.lead))

  back_whole : IsWhole (drop (at + length (spread cell)) row)
  back_whole = subst IsWhole (ap (drop (length (spread cell))) (sym here) ∙ drop-drop (length (spread cell)) at row) next_begins.back

  pub ends : at + length (spread cell) ≤ length row
  ends = omega (arith, next_begins.fits, ap length here, length-drop at row)

  pub next_lead : (fits : Bool) → IsLead (fitting cell fits)
  next_lead true = next_begins.lead
  next_lead false = inl refl

  cut_by : (fits : Bool) → nat_le (at + length (spread cell)) cols ≡ fits → cut ++ spread (fitting cell fits) ≡ mend_end (take (min (at + length (spread cell)) cols) row)
  cut_by true e =
      let same : min (at + length (spread cell)) cols ≡ at + length (spread cell) = grind (arith, nat_tests) in
      rw kept (rw same (sym (mend_end-whole (take (at + length (spread cell)) row) whole_longer ∙ longer)))
  cut_by false e =
      let past : cols < at + length (spread cell) = grind (arith, nat_tests) in
      let wide : 2 ≤ length (spread cell) = omega arith in
      let same : min (at + length (spread cell)) cols ≡ at + 1 = omega (arith, next_begins.few) in
      let more : take (at + 1) row ≡ take at row ++ cell ∷ [] =
      take_more row at cell within ∙ ap (λ last. take at row ++ last ∷ []) (get_or_from_slice_get row at cell cell stands) in
      ap (λ cells. cells ++ blank ∷ []) kept
      ∙ ap (λ last. take at row ++ last ∷ []) (sym (next_begins.wide wide))
      ∙ sym (mend_end-push (take at row) cell)
      ∙ ap mend_end (sym more)
      ∙ ap (λ (n : ℕ). mend_end (take n row)) (sym same)

  -- the next cell is cut off
  pub next_cut : IsCut row (cut ++ spread (fitting cell (nat_le (at + length (spread cell)) cols))) (at + length (spread cell)) cols
  next_cut = record { is = cut_by (nat_le (at + length (spread cell)) cols) refl; front = λ _. whole_longer; rest = back_whole; within = ends }

-- nothing is cut off yet
pub first_cut : (row : List Cell) (cols : ℕ) → IsWhole row → IsCut row [] 0 cols
first_cut row cols h =
    let none : min 0 cols ≡ 0 = omega arith in
    record { is = ap (λ (n : ℕ). mend_end (take n row)) (sym none); front = λ _. tt; rest = h; within = omega arith }

-- all is cut off
pub all_cut : (row cut : List Cell) (at cols : ℕ) → IsCut row cut at cols → (length row ≤ at) ⊎ (cols ≤ at) → cut ≡ mend_end (take cols row)
all_cut row cut at cols h done = ⊎_elim
    (λ (past : cols ≤ at). let same : min at cols ≡ cols = omega arith in h.is ∙ ap (λ (n : ℕ). mend_end (take n row)) same)
    (λ (inside : at < cols).
    let end : length row ≤ at = elim done [ inl past ↦ past | inr past ↦ absurd (omega arith) ] in
    h.is ∙ ap mend_end (take_all (min at cols) row (omega arith) ∙ sym (take_all cols row (omega (arith, h.within)))))
    (⊎_elim (λ (less : at < cols). inr less) (λ (past : cols ≤ at). inl past) (cases_lt at cols))

-- a row that is cut and then padded
pub cut_and_padded : (row : List Cell) (cols : ℕ) → mend_end (take cols row) ++ blank_row (cols - length (mend_end (take cols row))) ≡ fitted_line cols row
cut_and_padded row cols =
    let long : length (mend_end (take cols row)) ≡ min cols (length row) = length-mend_end (take cols row) ∙ length-take cols row in
    let same : cols - length (mend_end (take cols row)) ≡ cols - length row = omega (arith, long) in
    ap (λ (n : ℕ). mend_end (take cols row) ++ blank_row n) same

-- lines that are cut and then padded
pub fitted_and_padded : (lines fitted : List (List Cell)) (count cols kept : ℕ) → kept ≡ min count (length lines) → fitted ≡ map (fitted_line cols) (take kept lines)
    → take count fitted ++ blank_rows (count - length fitted) cols ≡ fitted_lines count cols lines
fitted_and_padded lines fitted count cols kept same is =
    let taken : take kept lines ≡ take count lines =
    ⊎_elim
    (λ (few : count < length lines). let all : kept ≡ count = omega arith in ap (λ (n : ℕ). take n lines) all)
    (λ (past : length lines ≤ count). take_all kept lines (omega arith) ∙ sym (take_all count lines past))
    (cases_lt count (length lines)) in
    let cut : fitted ≡ map (fitted_line cols) (take count lines) = is ∙ ap (map (fitted_line cols)) taken in
    let long : length fitted ≡ min count (length lines) =
    ap length cut ∙ length-map (take count lines) (fitted_line cols) ∙ length-take count lines in
    let more : count - length fitted ≡ count - length lines = omega (arith, long) in
    ap (λ (rows : List (List Cell)). rows ++ blank_rows (count - length fitted) cols) (take_all count fitted (omega (arith, long)) ∙ cut)
    ∙ ap (λ (n : ℕ). map (fitted_line cols) (take count lines) ++ blank_rows n cols) more

-- rows that have these columns stay as they are
fitted_same : (cols : ℕ) (rows : List (List Cell)) → AllRows cols rows → map (fitted_line cols) rows ≡ rows
fitted_same cols [] all = refl
fitted_same cols (row ∷ rows) all =
    let none : cols - length row ≡ 0 = omega (arith, all.0.long) in
    let same : fitted_line cols row ≡ row =
    ap (λ (n : ℕ). mend_end (take cols row) ++ blank_row n) none
    ∙ append-nil (mend_end (take cols row))
    ∙ ap mend_end (take_all cols row (omega (arith, all.0.long)))
    ∙ mend_end-whole row all.0.whole in
    ap (λ first. first ∷ map (fitted_line cols) rows) same ∙ ap (λ rest. row ∷ rest) (fitted_same cols rows all.1)

pub lines_same : (count cols : ℕ) (lines : List (List Cell)) → AllRows cols lines
    → take count lines ++ blank_rows (count - length lines) cols ≡ fitted_lines count cols lines
lines_same count cols lines all =
    ap (λ (rows : List (List Cell)). rows ++ blank_rows (count - length lines) cols) (sym (fitted_same cols (take count lines) (AllRows-take count cols lines all)))
