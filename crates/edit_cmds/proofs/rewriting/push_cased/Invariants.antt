-- What is left from here completes what all characters make.
use Rattle.std.proofs.Common.{◌≡◌, ◌+◌, ◌++◌, length, drop}
use Rattle.edit_cmds.specs.Rewriting.{cased_from, cased}
use Rattle.edit_cmds.proofs.rewriting.push_cased.Given as goal

abbrev pub invariant-loop-c : goal.invariant-loop-c
invariant-loop-c l = record {
  so_far : l.text ++ cased_from l.case l.begun (drop l.c-index l.chars) ≡ l.fn.text ++ cased l.case l.chars;
  passed : length l.text ≡ length l.fn.text + l.c-index;
}
