use Rattle.std.proofs.Common.{◌≡◌, ◌-◌, drop}
use Rattle.std.specs.List.{slice_get}
use Rattle.key_proc.proofs.held.Held.take.Given as goal

abbrev pub invariant-loop-taken : goal.invariant-loop-taken
invariant-loop-taken l = record {
  rest : l.self ≡ drop l._taken l.fn.self;
  last : l.last ≡ slice_get l.fn.self (l._taken - 1);
}
