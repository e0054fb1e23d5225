use Rattle.std.proofs.Common.{◌≡◌, ◌≤◌, ◌-◌, ◌++◌, length, drop}
use Rattle.characters.specs.Characters.{characters}
use Rattle.characters.proofs.decode.decode_into.Given as goal

abbrev pub invariant-loop-c : goal.invariant-loop-c
invariant-loop-c l = record {
  within : l.at ≤ length l.bytes;
  read : l.text.items ++ (characters (drop l.at l.bytes)).items ≡ l.initial.text.items ++ (characters l.bytes).items;
  rest : (characters (drop l.at l.bytes)).rest ≡ (characters l.bytes).rest;
}

abbrev pub decreases-loop-c : goal.decreases-loop-c
decreases-loop-c l = length l.bytes - l.at
