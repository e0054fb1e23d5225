-- What a contract sees of a pane at its place: the pane, from which scroll on it is shown, and its rectangle.
use Rattle.std.specs.Prelude.{ℕ, ◌+◌, ◌≤◌, List, All, Bool, ◌&&◌, nat_le, nat_lt}
use Rattle.cell_grid.specs.Size.{Extent}
use Rattle.win_view.specs.declared.scrolls.Scroll.{Scroll}
use Rattle.box_layout.specs.declared.areas.Area.{Area}
use Rattle.box_layout.specs.Areas.{IsInside}
use Rattle.box_layout.specs.Panes.{PaneFields}

pub record PlacedFields : Type 0 where
  pub pane : PaneFields
  pub scroll : Scroll
  pub row : ℕ
  pub col : ℕ
  pub size : Extent

-- a pane that takes an area, at its own scroll
abbrev pub placed_at : PaneFields → Area → PlacedFields
placed_at pane area = record { pane = pane; scroll = pane.scroll; row = area.row; col = area.col; size = area.size }

-- its rectangle
abbrev pub area_of : PlacedFields → Area
area_of p = record { row = p.row; col = p.col; size = p.size }

-- whether its rectangle holds a place
abbrev pub holds : PlacedFields → ℕ → ℕ → Bool
holds p row col =
    (nat_le p.row row && nat_lt row (p.row + p.size.rows)) && (nat_le p.col col && nat_lt col (p.col + p.size.cols))

-- each rectangle lies inside an area
abbrev pub AllInside : Area → List PlacedFields → Type 0
AllInside area placed = All (λ p. IsInside area (area_of p)) placed

-- each begins at a place that a drawing can have
abbrev pub AllOnScreen : List PlacedFields → Type 0
AllOnScreen placed = All (λ p. (p.row ≤ 1000) × (p.col ≤ 1000)) placed
