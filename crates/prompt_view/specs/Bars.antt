-- What a contract sees of the bars of a scene, each one row high below the buffer's window.
use Rattle.std.specs.Prelude.{ℕ, ◌+◌, true, false, List, [], ◌∷◌, ◌++◌, map, take, codes, Option, None, Some, if◌then◌else◌}
use Rattle.cell_grid.specs.declared.attrs.Attrs.{Attrs}
use Rattle.cell_grid.specs.declared.cell.Cell.{Cell}
use Rattle.cell_grid.specs.Cell.{narrow}
use Rattle.cell_grid.specs.TextCells.{with_chars}
use Rattle.layout_dims.specs.Numbers.{Numbers}
use Rattle.win_view.specs.declared.scrolls.Scroll.{Scroll}
use Rattle.box_layout.specs.Panes.{PaneFields}
use Rattle.box_layout.specs.Placed.{PlacedFields, placed_at}
use Rattle.prompt_view.specs.declared.scenes.Direction.{Direction}
use Rattle.prompt_view.specs.declared.scenes.Direction.TheVariants.{Forward, Backward}
use Rattle.prompt_view.specs.Scene.{SceneFields}

-- one text behind another, where the second is not empty
abbrev pub labelled : List ℕ → List ℕ → List ℕ
labelled label [] = []
labelled label (c ∷ cs) = label ++ c ∷ cs

-- the text of the search row
abbrev pub search_label : Direction → List ℕ
search_label Forward = codes "I-search: "
search_label Backward = codes "I-search backward: "

abbrev pub search_text : Option Direction → List ℕ → List ℕ
search_text None needle = []
search_text (Some direction) needle = search_label direction ++ take 32768 needle

-- a bar, by its attributes and its text; an empty text has none
abbrev pub bar : Attrs → List ℕ → List (Attrs × List ℕ)
bar attrs [] = []
bar attrs (c ∷ cs) = (attrs, c ∷ cs) ∷ []

-- so many rows or columns, neither more nor fewer
abbrev pub exactly : ℕ → Numbers
exactly n = record { minimum = n; maximum = n; weight = 1; preferred = n }

abbrev pub unscrolled : Scroll
unscrolled = record { down = 0; across = 0 }

-- the cells of one line of text with these attributes, and a space behind them
abbrev pub text_cells : Attrs → Attrs → List ℕ → List Cell
text_cells attrs control text = with_chars attrs control [] text ++ narrow 32 attrs ∷ []

-- a window of so many columns and one row that shows one line of text, and spaces with its attributes behind it
abbrev pub text_pane : Attrs → Attrs → List ℕ → ℕ → PaneFields
text_pane attrs control text cols = record {
  content = record { lines = text_cells attrs control text ∷ []; line = 0; cell = 0; wrap = true };
  scroll = unscrolled;
  width = exactly cols;
  height = exactly 1;
  attrs = attrs;
  focus = false;
}

-- the message of a verdict, the argument, the search and the toolbar, in this order
abbrev pub going_bars : SceneFields → List (Attrs × List ℕ)
going_bars s =
    bar s.looks.verdict s.verdict ++ (bar s.looks.argument (labelled (codes "Repeat: ") s.argument)
    ++ (bar s.looks.search (search_text s.search s.needle) ++ bar s.looks.toolbar s.toolbar))

-- these where the prompt goes on, and none where it is finished
abbrev pub bars : SceneFields → List (Attrs × List ℕ)
bars s = if s.finished then [] else going_bars s

-- the window of a bar, as wide as the screen
abbrev pub bar_pane : SceneFields → Attrs × List ℕ → PaneFields
bar_pane s b = text_pane b.0 s.looks.control b.1 s.size.cols

abbrev pub bar_panes : SceneFields → List PaneFields
bar_panes s = map (bar_pane s) (bars s)

-- windows of one row one below another, from a row on
abbrev pub stacked_from : ℕ → ℕ → List PaneFields → List PlacedFields
stacked_from cols row [] = []
stacked_from cols row (pane ∷ panes) =
    placed_at pane (record { row = row; col = 0; size = record { rows = 1; cols = cols } }) ∷ stacked_from cols (row + 1) panes
