use Rattle.std.proofs.Common.{◌≡◌, ◌-◌, ◌*◌, length, take}
use Rattle.requests.specs.declared.items.Items.TheVariants.{Completions}
use Rattle.requests.specs.Batching.{needed_batches}
use Rattle.requests.specs.Answers.{parts_left}
use Rattle.requests.proofs.items.cut.Given as goal

abbrev pub invariant-loop-number : goal.invariant-loop-number
invariant-loop-number l = record {
  left : l.items.items ≡ take (64 * l.number) l.initial.items.items;
  parts : l.parts.items ≡ parts_left (Completions l.initial.items.items) (needed_batches (length l.initial.items.items) - l.number);
}
