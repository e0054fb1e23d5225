use Rattle.std.proofs.Common.{◌≡◌, ◌≤◌, take, eqb}
use Rattle.std.specs.List.{count_by}
use Rattle.text_doc.proofs.row_starts.line_feeds.Given as goal

abbrev pub invariant-loop-c : goal.invariant-loop-c
invariant-loop-c l = record {
  counted : l.count ≡ count_by (λ c. eqb c 10) (take l.c-index l.chars);
  within : l.count ≤ l.c-index;
}
