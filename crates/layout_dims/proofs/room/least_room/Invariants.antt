use Rattle.std.proofs.Common.{◌≡◌, ◌*◌, ◌≤◌, All, sum, take}
use Rattle.layout_dims.specs.Numbers.{IsDimension}
use Rattle.layout_dims.specs.Division.{minima_of}
use Rattle.layout_dims.proofs.room.least_room.Given as goal

-- the sum of the parts so far, each of which is at most 1,000,000
abbrev pub invariant-loop-part : goal.invariant-loop-part
invariant-loop-part l = record {
  minima : l.total ≡ sum (minima_of (take l.part-index l.parts));
  few : l.total ≤ 1000000 * l.part-index;
  ordered : All IsDimension (take l.part-index l.parts);
}
