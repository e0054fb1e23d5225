use Rattle.std.proofs.Common.{◌≡◌, true, take}
use Rattle.std.specs.Int.{is_in_range}
use Rattle.std.specs.List.{list_all}
use Rattle.term_model.proofs.reading.run_len.Given as goal

abbrev pub invariant-loop-i : goal.invariant-loop-i
invariant-loop-i l = list_all (is_in_range l.low l.high) (take l.i l.bytes) ≡ true
