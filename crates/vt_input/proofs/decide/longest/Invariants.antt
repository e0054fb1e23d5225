use Rattle.std.proofs.Common.{◌≡◌, drop, slice_index}
use Rattle.key_names.specs.declared.key.Key.TheVariants.{Char}
use Rattle.vt_input.specs.Sequences.{longest_from}
use Rattle.vt_input.proofs.decide.longest.Given as goal

abbrev pub invariant-loop-row : goal.invariant-loop-row
invariant-loop-row l = longest_from (drop l.row-index l.rows) l.best l.text ≡ longest_from l.rows (Char (slice_index l.text 0), 1) l.text
