use Rattle.std.proofs.Common.{◌≡◌, ◌+◌, ◌≤◌, length}
use Rattle.prompt_run.specs.Given.{nothing_given}
use Rattle.script_lines.specs.Lines.{script_lines}
use Rattle.prompt_run.specs.Script.{configured}
use Rattle.prompt_run.proofs.scripts.read_opening.Given as goal

-- what is left of the lines, with the settings so far, does what all lines do
abbrev pub invariant-loop-alloc : goal.invariant-loop-alloc
invariant-loop-alloc l = record {
  numbered : l.number + length l.rest ≤ 1 + length l.script;
  so_far : configured l.long (script_lines l.script) nothing_given 1 ≡ configured l.long (script_lines l.rest) l.opening l.number;
}

abbrev pub decreases-loop-alloc : goal.decreases-loop-alloc
decreases-loop-alloc l = length l.rest
