use Rattle.std.proofs.Common.{◌≡◌, ◌++◌, take, drop}
use Rattle.box_layout.specs.Floats.{with_floats}
use Rattle.box_layout.proofs.floats.place_floats.Given as goal

-- the floats so far have their places
abbrev pub invariant-loop-float : goal.invariant-loop-float
invariant-loop-float l = l.placed ≡ take l.first l.initial.placed ++ with_floats l.area (drop l.first l.initial.placed) (take l.float-index l.floats)
