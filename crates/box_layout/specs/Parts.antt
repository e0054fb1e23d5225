-- The parts of an area that is divided: where the children of a split stand.
use Rattle.std.specs.Prelude.{ℕ, ◌+◌, Bool, true, false, ◌&&◌, List, [], ◌∷◌, nat_le, nat_lt}
use Rattle.box_layout.specs.declared.areas.Area.{Area}
use Rattle.box_layout.specs.Areas.{part_of}

-- the parts of these sizes one after another, where those before have taken so much of the area
abbrev pub parts_from : Bool → Area → ℕ → List ℕ → List Area
parts_from across area before [] = []
parts_from across area before (size ∷ sizes) = part_of across area before size ∷ parts_from across area (before + size) sizes

-- the parts of an area that have these sizes
abbrev pub parts_of : Bool → Area → List ℕ → List Area
parts_of across area sizes = parts_from across area 0 sizes

-- its first column, or row, and the one behind its last
abbrev pub begin_of : Bool → Area → ℕ
begin_of true area = area.col
begin_of false area = area.row

abbrev pub end_of : Bool → Area → ℕ
end_of true area = area.col + area.size.cols
end_of false area = area.row + area.size.rows

-- whether so many places from one on hold a place
abbrev pub is_among : ℕ → ℕ → ℕ → Bool
is_among from count place = nat_le from place && nat_lt place (from + count)

-- whether an area holds a place
abbrev pub has_place : Area → ℕ → ℕ → Bool
has_place area row col = is_among area.row area.size.rows row && is_among area.col area.size.cols col
