use Rattle.std.proofs.Common.{◌≡◌, drop}
use Rattle.vt_input.specs.Held.{add_all}
use Rattle.vt_input.proofs.paste.add_slice.Given as goal

abbrev pub invariant-loop-c : goal.invariant-loop-c
invariant-loop-c l = add_all (drop l.c-index l.chars) l.text ≡ add_all l.chars l.initial.text
