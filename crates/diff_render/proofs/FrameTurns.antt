-- What a writer's bytes do that made one drawing another.
use Rattle.std.proofs.Common.{◌≡◌, ℕ, ◌+◌, ◌-◌, ◌<◌, ◌≤◌, Bool, true, false, List, [], ◌++◌, length, max, refl, sym}
use Rattle.std.proofs.Common.{ap, ◌∙◌, subst, arith, length-append}
use Rattle.cell_grid.specs.declared.cell.Cell.{Cell}
use Rattle.cell_grid.specs.declared.drawing.Drawing.{Drawing}
use Rattle.cell_grid.specs.Attrs.{plain}
use Rattle.term_model.specs.Term.{Term}
use Rattle.term_model.specs.Obeying.{acted, forgotten}
use Rattle.diff_render.specs.declared.writer.Writer.{Writer}
use Rattle.diff_render.specs.Canvas.{canvas_of, top_for, On, reads, Spells, Touches, Draws}
use Rattle.diff_render.specs.Changes.{changed_rows}
use Rattle.diff_render.specs.Redrawn.{padded, MayTouchRows, Redrawn}
use Rattle.diff_render.specs.Turning.{closing, Closes, Turns}
use Rattle.diff_render.specs.Writer.{written, canvas_at, Moves, Stood}
use Rattle.diff_render.proofs.Reading.{spells_then, quiet_then}
use Rattle.diff_render.proofs.Drawing.{acted-append, touches_then, draws_none, draws_same}
use Rattle.diff_render.proofs.Made.{made_then, made_closing}
use Rattle.diff_render.proofs.FrameSteps.{spells_reads, trimmed, open_agrees, closing_controls, spells_closing}
use Rattle.diff_render.proofs.FrameSteps.{quiet_closing, closes}

-- a writer that has written nothing stands where it began
begun : (ok : ℕ → ℕ → Bool) (w : Writer) (old : List (List Cell)) → written w ≡ [] → w.height ≡ length old → Stood ok w (canvas_at w old) old
begun ok w old nothing count = record {
  drawn = subst (λ b. Draws w.rows w.cols ok b (canvas_at w old) (canvas_at w old)) (sym nothing) (draws_none w.rows w.cols ok (canvas_at w old));
  count = sym count;
}

reached : (w v u : Writer) (rows cols : ℕ) (old new : List (List Cell)) (to_row to_col cost : ℕ) → written w ≡ [] → w.pen ≡ plain → w.rows ≡ rows → w.cols ≡ cols
    → w.height ≡ length old → Redrawn w v old new → Moves v u to_row to_col plain cost
    → (ok : ℕ → ℕ → Bool) → MayTouchRows ok old new → Draws rows cols ok (written u) (canvas_of old w.row w.col plain) (canvas_of (padded v.height cols new) to_row to_col plain)
reached w v u rows cols old new to_row to_col cost nothing pen rows_are cols_are count redrawn moves ok may =
    let stood : Stood ok u (canvas_at w old) (padded v.height w.cols new) =
    moves.stands ok (canvas_at w old) (padded v.height w.cols new) (redrawn.stands ok (canvas_at w old) may (begun ok w old nothing count)) in
    let from : canvas_at w old ≡ canvas_of old w.row w.col plain = ap (λ p. canvas_of old w.row w.col p) pen in
    let to : canvas_of (padded v.height cols new) to_row to_col plain ≡ canvas_at u (padded v.height w.cols new) =
    λ i. canvas_of (padded v.height (sym cols_are i) new) (sym moves.to_row i) (sym moves.to_col i) (sym moves.to_pen i) in
    let r : rows ≡ u.rows = sym (moves.same.rows ∙ redrawn.rows ∙ rows_are) in
    let c : cols ≡ u.cols = sym (moves.same.cols ∙ redrawn.cols ∙ cols_are) in
    subst (λ f. Draws rows cols ok (written u) f (canvas_of (padded v.height cols new) to_row to_col plain)) from
    (draws_same u.rows u.cols rows cols ok (written u) (written u) (canvas_at w old) (canvas_at u (padded v.height w.cols new))
    (canvas_of (padded v.height cols new) to_row to_col plain) r c refl to stood.drawn)

anywhere : ℕ → ℕ → Bool
anywhere row col = true

may_anywhere : (old new : List (List Cell)) → MayTouchRows anywhere old new
unfolding anywhere
may_anywhere old new row col h = refl

-- the window does not move for a lower drawing
same_top : (t : Term) (base old new height : ℕ) → height ≡ max old new → base + old ≤ t.top + t.rows → top_for t base height ≡ top_for t base new
same_top t base old new height e fits = omega arith

pub turns_open : (w v u : Writer) (rows cols : ℕ) (old : List (List Cell)) (drawing : Drawing) → written w ≡ [] → w.pen ≡ plain → w.rows ≡ rows → w.cols ≡ cols
    → w.height ≡ length old → Redrawn w v old drawing.grid → Moves v u drawing.row drawing.col plain (drawing.row - v.row + 16) → drawing.row < length drawing.grid
    → Turns rows cols old w.row w.col drawing false (written u)
turns_open w v u rows cols old drawing nothing pen rows_are cols_are count redrawn moves inside =
    let new = drawing.grid in
    let bytes = written u in
    let draws = λ (ok : ℕ → ℕ → Bool) (may : MayTouchRows ok old new). reached w v u rows cols old new drawing.row drawing.col (drawing.row - v.row + 16)
    nothing pen rows_are cols_are count redrawn moves ok may in
    let whole = draws anywhere (may_anywhere old new) in
    let is : reads bytes ≡ whole.controls = spells_reads bytes whole.controls whole.spells in
    record {
      reading = subst (λ cs. Spells bytes cs) (sym is) whole.spells;
      quiet = whole.quiet;
      made = whole.made;
      shows = λ t base good fits x on.
          let there : On t base (canvas_of (padded v.height cols new) drawing.row drawing.col plain) (acted x (reads bytes)) =
          subst (λ cs. On t base (canvas_of (padded v.height cols new) drawing.row drawing.col plain) (acted x cs)) (sym is) (whole.stands t base good x on) in
          let last = trimmed t base rows cols v.height new drawing.row drawing.col plain (acted x (reads bytes)) good (omega (arith, redrawn.to_height))
          (same_top t base (length old) (length new) v.height redrawn.to_height fits) there in
          open_agrees t base drawing (acted x (reads bytes)) last;
      touches = λ ok may t base good x on.
          let own = draws ok may in
          subst (λ cs. Touches ok x base cs) (sym (spells_reads bytes own.controls own.spells)) (own.touches t base good x on);
      short = omega (arith, moves.short, redrawn.short, redrawn.to_height, ap length nothing, ap (λ n. changed_rows n old new) cols_are);
    }

pub turns_done : (w v u : Writer) (rows cols : ℕ) (old : List (List Cell)) (drawing : Drawing) → written w ≡ [] → w.pen ≡ plain → w.rows ≡ rows → w.cols ≡ cols
    → w.height ≡ length old → Redrawn w v old drawing.grid → Closes v u (length drawing.grid) → 1 ≤ length drawing.grid → length drawing.grid ≤ rows
    → Turns rows cols old w.row w.col drawing true (written u)
turns_done w v u rows cols old drawing nothing pen rows_are cols_are count redrawn ends some few =
    let new = drawing.grid in
    let height = length new in
    let m = ends.middle in
    let front = written m in
    let bytes = front ++ closing in
    let draws = λ (ok : ℕ → ℕ → Bool) (may : MayTouchRows ok old new). reached w v m rows cols old new (height - 1) v.col (height - 1 - v.row + 9)
    nothing pen rows_are cols_are count redrawn ends.moves ok may in
    let whole = draws anywhere (may_anywhere old new) in
    let spells : Spells bytes (whole.controls ++ closing_controls) = spells_then front closing whole.controls closing_controls whole.spells spells_closing in
    let is : reads bytes ≡ whole.controls ++ closing_controls = spells_reads bytes (whole.controls ++ closing_controls) spells in
    let turned : Turns rows cols old w.row w.col drawing true bytes = record {
      reading = subst (λ cs. Spells bytes cs) (sym is) spells;
      quiet = quiet_then front closing whole.quiet quiet_closing;
      made = made_then front closing whole.made made_closing;
      shows = λ t base good fits x on.
          let last = trimmed t base rows cols v.height new (height - 1) v.col plain (acted x whole.controls) good (omega (arith, redrawn.to_height))
          (same_top t base (length old) height v.height redrawn.to_height fits) (whole.stands t base good x on) in
          ap (λ cs. forgotten (acted x cs)) is ∙ ap forgotten (acted-append x whole.controls closing_controls)
          ∙ closes t base rows cols drawing v.col (acted x whole.controls) good some few last;
      touches = λ ok may t base good x on.
          let own = draws ok may in
          let own_spells : Spells bytes (own.controls ++ closing_controls) = spells_then front closing own.controls closing_controls own.spells spells_closing in
          subst (λ cs. Touches ok x base cs) (sym (spells_reads bytes (own.controls ++ closing_controls) own_spells))
          (touches_then ok x base own.controls closing_controls (own.touches t base good x on) refl);
      short = omega (arith, ends.moves.short, redrawn.short, redrawn.to_height, ap length nothing, length-append front closing, ap (λ n. changed_rows n old new) cols_are);
    } in
    subst (λ b. Turns rows cols old w.row w.col drawing true b) (sym ends.wrote) turned
