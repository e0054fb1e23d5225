use Rattle.std.proofs.Common.{◌≡◌, ◌+◌, ◌≤◌, length, is_some}
use Rattle.script_lines.specs.Lines.{script_lines}
use Rattle.prompt_run.specs.Play.{Play, played}
use Rattle.prompt_run.specs.Playing.{Holds}
use Rattle.prompt_run.proofs.scripts.play_lines.Given as goal

-- what is left of the lines, from the play so far, does what all lines do
abbrev pub invariant-loop-rest : goal.invariant-loop-rest
invariant-loop-rest l = record {
  numbered : l.number + length l.rest ≤ l.first + length l.lines;
  so_far : (p : Play) → Holds l.fn.player p → (q : Play) × Holds l.player q × (played l.long (script_lines l.lines) p l.first ≡ played l.long (script_lines l.rest) q l.number);
  frames : is_some l.player.screen.frames ≡ is_some l.fn.player.screen.frames;
}

abbrev pub decreases-loop-rest : goal.decreases-loop-rest
decreases-loop-rest l = length l.rest
