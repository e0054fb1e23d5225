-- What a contract sees of the room that a node asks for.
use Rattle.std.specs.Prelude.{Bool, true, false, List, [], filter, map}
use Rattle.layout_dims.specs.Numbers.{Numbers, sum_of, largest_of}
use Rattle.box_layout.specs.declared.asked.Asked.{Asked}
use Rattle.box_layout.specs.declared.nodes.Node.{Node}
use Rattle.box_layout.specs.declared.nodes.Node.TheOpen as layer
use Rattle.box_layout.specs.declared.nodes.Node.TheFolds.{fold-Node}

-- what the children that stand in a split ask for, downwards and across
abbrev pub rows_asked : List Asked → List Numbers
rows_asked parts = map (λ p. p.rows) (filter (λ p. p.present) parts)

abbrev pub cols_asked : List Asked → List Numbers
cols_asked parts = map (λ p. p.cols) (filter (λ p. p.present) parts)

-- what a node asks for, given what each node inside it does: a split the sum along it and the largest across it
abbrev pub asked_by : layer.Node-F Asked → Asked
asked_by (layer.HSplit parts) = record { present = true; rows = sum_of (rows_asked parts); cols = largest_of (cols_asked parts) }
asked_by (layer.VSplit parts) = record { present = true; rows = largest_of (rows_asked parts); cols = sum_of (cols_asked parts) }
asked_by (layer.Window pane) = record { present = true; rows = pane.height; cols = pane.width }
asked_by (layer.When true part) = record part { present = true }
asked_by (layer.When false part) = record { present = false; rows = sum_of []; cols = sum_of [] }
asked_by (layer.FloatBox part floats) = record part { present = true }

abbrev pub asked : Node → Asked
asked = fold-Node Asked asked_by

-- the columns, or rows, that it asks for
abbrev pub asked_along : Bool → Asked → Numbers
asked_along true a = a.cols
asked_along false a = a.rows

abbrev pub wanted : Bool → Node → Numbers
wanted across node = asked_along across (asked node)
