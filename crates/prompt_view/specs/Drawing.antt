-- What a contract sees of the drawing of a scene.
use Rattle.std.specs.Prelude.{◌≡◌, ℕ, ◌<◌, ◌≤◌, min, true, false, List, [], ◌∷◌, ◌++◌, length, codes, if◌then◌else◌}
use Rattle.cell_grid.specs.declared.drawing.Drawing.{Drawing}
use Rattle.cell_grid.specs.Attrs.{plain}
use Rattle.cell_grid.specs.Drawable.{IsPen}
use Rattle.cell_grid.specs.Grid.{columns}
use Rattle.cell_grid.specs.Size.{Extent}
use Rattle.layout_dims.specs.Numbers.{Numbers}
use Rattle.box_layout.specs.declared.nodes.Node.{Node}
use Rattle.box_layout.specs.declared.nodes.Node.TheVariants.{FloatBox, Window}
use Rattle.box_layout.specs.Areas.{whole}
use Rattle.box_layout.specs.Floats.{with_floats}
use Rattle.box_layout.specs.Painting.{painted}
use Rattle.box_layout.specs.Panes.{PaneFields}
use Rattle.box_layout.specs.Placed.{PlacedFields, placed_at}
use Rattle.prompt_view.specs.declared.scenes.SceneLooks.{SceneLooks}
use Rattle.prompt_view.specs.Bars.{bar_panes, stacked_from, text_cells, unscrolled}
use Rattle.prompt_view.specs.Floats.{floats}
use Rattle.prompt_view.specs.Lines.{content_of}
use Rattle.prompt_view.specs.Rooms.{asked_rows, has_division, height_of, window_of}
use Rattle.prompt_view.specs.Scene.{SceneFields}

-- any size from one on
abbrev pub from_one : ℕ → Numbers
from_one preferred = record { minimum = 1; maximum = 1000000; weight = 1; preferred = min 1000000 preferred }

-- the buffer's window
abbrev pub buffer_pane : SceneFields → PaneFields
buffer_pane s = record {
  content = content_of s;
  scroll = s.scroll;
  width = from_one 1;
  height = from_one (asked_rows s);
  attrs = plain;
  focus = true;
}

-- this window with what floats over it, as a layout
abbrev pub box_of : SceneFields → Node
box_of s = FloatBox (Window (buffer_pane s)) (floats s)

-- its panes at their places
abbrev pub placed_box : SceneFields → List PlacedFields
placed_box s = with_floats (whole (window_of s)) (placed_at (buffer_pane s) (whole (window_of s)) ∷ []) (floats s)

-- the panes of a scene at their places, in the order in which they are painted: the buffer's window, what floats over it, and the bars below it
abbrev pub placed_of : SceneFields → List PlacedFields
placed_of s =
    placed_box s
    ++ stacked_from s.size.cols (window_of s).rows (bar_panes s)

-- the size of the drawing
abbrev pub drawn_size : SceneFields → Extent
drawn_size s = record { rows = height_of s; cols = s.size.cols }

-- what stands on the screen where no window fits: these words in the first row, cut at the last column
abbrev pub small_pane : PaneFields
small_pane = record {
  content = record { lines = text_cells plain plain (codes "Window too small...") ∷ []; line = 0; cell = 0; wrap = false };
  scroll = unscrolled;
  width = from_one 1;
  height = from_one 1;
  attrs = plain;
  focus = false;
}

-- the full drawing
abbrev pub drawing_of : SceneFields → Drawing
drawing_of s =
    if has_division s then painted (placed_of s) (drawn_size s)
    else painted (placed_at small_pane (whole s.size) ∷ []) s.size

-- the attributes of each class have only colours that a terminal has
pub record ArePens (looks : SceneLooks) : Type 0 where
  pub prompt : IsPen looks.prompt
  pub continuation : IsPen looks.continuation
  pub control : IsPen looks.control
  pub selected : IsPen looks.selected
  pub suggestion : IsPen looks.suggestion
  pub right_prompt : IsPen looks.right_prompt
  pub menu : IsPen looks.menu
  pub chosen : IsPen looks.chosen
  pub verdict : IsPen looks.verdict
  pub argument : IsPen looks.argument
  pub search : IsPen looks.search
  pub toolbar : IsPen looks.toolbar

-- a drawing as wide as a screen and at most as high
pub record IsOnScreen (size : Extent) (drawing : Drawing) : Type 0 where
  pub wide : columns drawing.grid ≡ size.cols
  pub some : 1 ≤ length drawing.grid
  pub high : length drawing.grid ≤ size.rows

-- its cursor is one of its places
pub record HasCursorInside (drawing : Drawing) : Type 0 where
  pub row : drawing.row < length drawing.grid
  pub col : drawing.col < columns drawing.grid
