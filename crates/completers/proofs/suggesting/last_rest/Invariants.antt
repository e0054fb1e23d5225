use Rattle.std.proofs.Common.{◌≡◌, length}
use Rattle.std.specs.Option.{option_copied, option_or}
use Rattle.text_doc.specs.Lines.{lines_of}
use Rattle.completers.proofs.SuggestingLemmas.{latest}
use Rattle.completers.proofs.suggesting.last_rest.Given as goal

abbrev pub invariant-loop-old : goal.invariant-loop-old
invariant-loop-old l = option_or (latest l.line (lines_of l.left)) (option_copied l.found) ≡ latest l.line (lines_of l.entry)

abbrev pub decreases-loop-old : goal.decreases-loop-old
decreases-loop-old l = length l.left
