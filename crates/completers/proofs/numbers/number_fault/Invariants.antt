use Rattle.std.proofs.Common.{◌≡◌, ◌-◌, ◌≤◌, true, take, drop}
use Rattle.std.specs.Char.{is_ascii_digit}
use Rattle.std.specs.List.{list_all}
use Rattle.completers.specs.declared.numbers.TheConstants.{MAX_DIGITS}
use Rattle.completers.proofs.numbers.number_fault.Given as goal

abbrev pub invariant-loop-at : goal.invariant-loop-at
invariant-loop-at l = record {
  few : l.at - l.start ≤ MAX_DIGITS;
  digits : list_all is_ascii_digit (take (l.at - l.start) (drop l.start l.doc.text)) ≡ true;
}
