use Rattle.std.proofs.Common.{◌≡◌, ℕ, ◌<◌, ◌≤◌, get_or, take}
use Rattle.std.specs.Int.{IsInRange}
use Rattle.std.specs.Str.Parse.{digits_value}
use Rattle.prompt_settings.proofs.numbers.read_number.Given as goal

abbrev pub invariant-loop-c : goal.invariant-loop-c
invariant-loop-c l = record {
  value : l.number ≡ digits_value 10 (take l.c-index l.text);
  within : l.number ≤ l.most;
  digits : (k : ℕ) → k < l.c-index → IsInRange 48 57 (get_or l.text k 0);
}
