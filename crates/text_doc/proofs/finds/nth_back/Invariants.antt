use Rattle.std.proofs.Common.{◌≡◌, ◌<◌, ◌≤◌, length}
use Rattle.text_doc.specs.Places.{passing}
use Rattle.text_doc.specs.Finds.{stands_at}
use Rattle.text_doc.proofs.finds.nth_back.Given as goal

abbrev pub invariant-loop-at : goal.invariant-loop-at
invariant-loop-at l = record {
  behind : l.from ≤ l.at;
  counted : length (passing (stands_at l.c l.text) l.at l.to) ≡ l.seen;
  too_few : l.seen < l.nth;
}
