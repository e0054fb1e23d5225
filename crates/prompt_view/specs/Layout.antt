-- What a law sees of the layout of a scene: one tree with all its boxes, and where the closed form says that its windows stand.
use Rattle.std.specs.Prelude.{List, [], ◌∷◌, map, Option, None, Some, if◌then◌else◌}
use Rattle.win_view.specs.declared.scrolls.Scroll.{Scroll}
use Rattle.win_view.specs.Settling.{settled}
use Rattle.box_layout.specs.declared.nodes.Node.{Node}
use Rattle.box_layout.specs.declared.nodes.Node.TheVariants.{HSplit, Window}
use Rattle.box_layout.specs.Placed.{PlacedFields}
use Rattle.prompt_view.specs.Bars.{bar_panes}
use Rattle.prompt_view.specs.Drawing.{box_of, placed_of}
use Rattle.prompt_view.specs.Rooms.{has_division}
use Rattle.prompt_view.specs.Scene.{SceneFields}

-- the buffer's box and the bars, one below another
abbrev pub layout_of : SceneFields → Node
layout_of s = HSplit (box_of s ∷ map Window (bar_panes s))

-- the panes of a scene at their places; none where the bars leave no row
abbrev pub closed_places : SceneFields → Option (List PlacedFields)
closed_places s = if has_division s then Some (placed_of s) else None

-- the scroll at which the first of these windows, the buffer's, shows its cursor; without one it stays
abbrev pub scroll_in : Scroll → Option (List PlacedFields) → Scroll
scroll_in old None = old
scroll_in old (Some []) = old
scroll_in old (Some (first ∷ others)) = settled first.pane.content first.size first.scroll
