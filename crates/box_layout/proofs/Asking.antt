-- What each kind of node asks for.
use Rattle.std.proofs.Common.{Bool, true, false, ◌≡◌, sym, ◌∙◌, ap, List, map, filter}
use mathlib.Core.List.{map-map}
use Rattle.layout_dims.specs.Numbers.{Numbers, sum_of, largest_of}
use Rattle.box_layout.specs.declared.nodes.Float.{Float}
use Rattle.box_layout.specs.declared.nodes.Node.{Node}
use Rattle.box_layout.specs.declared.nodes.Node.TheOpen as layer
use Rattle.box_layout.specs.declared.nodes.Node.TheVariants.{HSplit, VSplit, When, FloatBox, rolls-HSplit, rolls-VSplit, rolls-When, rolls-FloatBox}
use Rattle.box_layout.specs.declared.nodes.Node.TheFolds.{fold-roll-Node}
use Rattle.box_layout.specs.declared.asked.Asked.{Asked}
use Rattle.box_layout.specs.Asked.{asked, asked_by, wanted, rows_asked, cols_asked}
use Rattle.box_layout.proofs.Lists.{filter_mapped}

-- whether a node stands in the split around it
abbrev pub IsPresent : Node → Bool
IsPresent node = (asked node).present

-- what a node asks for that is there and asks for so many rows and columns
abbrev pub here : Numbers → Numbers → Asked
here rows cols = record { present = true; rows = rows; cols = cols }

-- what the children that are there ask for
abbrev pub parts_along : Bool → List Node → List Numbers
parts_along across children = map (wanted across) (filter (λ child. (asked child).present) children)

rows_are : (children : List Node) → rows_asked (map asked children) ≡ parts_along false children
rows_are children = ap (map (λ (p : Asked). p.rows)) (filter_mapped (λ (p : Asked). p.present) asked children) ∙ map-map (λ (p : Asked). p.rows) asked (filter (λ child. (asked child).present) children)

cols_are : (children : List Node) → cols_asked (map asked children) ≡ parts_along true children
cols_are children = ap (map (λ (p : Asked). p.cols)) (filter_mapped (λ (p : Asked). p.present) asked children) ∙ map-map (λ (p : Asked). p.cols) asked (filter (λ child. (asked child).present) children)

pub asked_HSplit : (children : List Node) → asked (HSplit children) ≡ here (sum_of (parts_along false children)) (largest_of (parts_along true children))
asked_HSplit children = ap asked (sym (rolls-HSplit children)) ∙ fold-roll-Node Asked asked_by (layer.HSplit children) ∙ (λ i. here (sum_of (rows_are children i)) (largest_of (cols_are children i)))

pub asked_VSplit : (children : List Node) → asked (VSplit children) ≡ here (largest_of (parts_along false children)) (sum_of (parts_along true children))
asked_VSplit children = ap asked (sym (rolls-VSplit children)) ∙ fold-roll-Node Asked asked_by (layer.VSplit children) ∙ (λ i. here (largest_of (rows_are children i)) (sum_of (cols_are children i)))

pub asked_shown : (part : Node) → asked (When true part) ≡ here (asked part).rows (asked part).cols
asked_shown part = ap asked (sym (rolls-When true part)) ∙ fold-roll-Node Asked asked_by (layer.When true part)

pub asked_FloatBox : (part : Node) (floats : List Float) → asked (FloatBox part floats) ≡ here (asked part).rows (asked part).cols
asked_FloatBox part floats = ap asked (sym (rolls-FloatBox part floats)) ∙ fold-roll-Node Asked asked_by (layer.FloatBox part floats)
