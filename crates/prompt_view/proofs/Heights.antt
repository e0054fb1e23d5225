-- A drawing is no higher than the screen, whatever the screen's size.
use Rattle.std.proofs.Common.{Bool, true, false, if◌then◌else◌, ◌≤◌, [], ◌∷◌, length, arith}
use Rattle.std.proofs.lemmas.List.FromFn.{length-map-range_with_len}
use Rattle.box_layout.specs.Areas.{whole}
use Rattle.box_layout.specs.Painting.{painted, shown_cells}
use Rattle.box_layout.specs.Placed.{placed_at}
use Rattle.prompt_view.specs.Drawing.{drawing_of, drawn_size, placed_of, small_pane}
use Rattle.prompt_view.specs.Rooms.{has_division, height_of}
use Rattle.prompt_view.specs.Scene.{SceneFields}

pub drawing_high : (s : SceneFields) → length (drawing_of s).grid ≤ s.size.rows
drawing_high s = by (has_division s)
  where
    by : (b : Bool) → length (if b then painted (placed_of s) (drawn_size s) else painted (placed_at small_pane (whole s.size) ∷ []) s.size).grid ≤ s.size.rows
    by true = omega (arith, length-map-range_with_len (λ row. shown_cells (placed_of s) row 0 s.size.cols) 0 (height_of s))
    by false = omega (arith, length-map-range_with_len (λ row. shown_cells (placed_at small_pane (whole s.size) ∷ []) row 0 s.size.cols) 0 s.size.rows)
