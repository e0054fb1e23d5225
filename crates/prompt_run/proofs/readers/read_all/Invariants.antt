use Rattle.std.proofs.Common.{◌≤◌, vec_len}
use Rattle.std.specs.Io.KnownBytes.{Consumes}
use Rattle.prompt_run.proofs.readers.read_all.Given as goal

-- each read so far gave a byte, and what came was taken from the front
abbrev pub invariant-loop : goal.invariant-loop
invariant-loop g l = record {
  grows : l.counter ≤ vec_len l.script;
  few : vec_len l.script ≤ 67108864;
  taken : Consumes (g.R.Source.supply l.fn.source).left (g.R.Source.supply l.source).left l.script.items;
  later : (g.R.Source.supply l.fn.source).faults ≤ (g.R.Source.supply l.source).faults;
}
