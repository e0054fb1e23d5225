-- What a contract sees of a pane.
use Rattle.std.specs.Prelude.{Bool}
use Rattle.layout_dims.specs.Numbers.{Numbers}
use Rattle.cell_grid.specs.declared.attrs.Attrs.{Attrs}
use Rattle.win_view.specs.declared.contents.Content.{Content}
use Rattle.win_view.specs.declared.scrolls.Scroll.{Scroll}

-- what a window shows from which scroll on, how much room it asks for, what stands behind its content, and whether it has the focus
pub record PaneFields : Type 0 where
  pub content : Content
  pub scroll : Scroll
  pub width : Numbers
  pub height : Numbers
  pub attrs : Attrs
  pub focus : Bool
