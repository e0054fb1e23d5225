use Rattle.std.proofs.Common.{◌≡◌, ◌++◌, true, map, drop}
use Rattle.prompt_view.specs.Lines.{drawn_char}
use Rattle.prompt_view.proofs.lines.starred.Given as goal

abbrev pub invariant-loop-c : goal.invariant-loop-c
invariant-loop-c l = l.chars ++ map (drawn_char true) (drop l.c-index l.text) ≡ map (drawn_char true) l.text
