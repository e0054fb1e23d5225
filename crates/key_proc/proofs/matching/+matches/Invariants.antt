use Rattle.std.proofs.Common.{length}
use Rattle.key_proc.proofs.matching.+matches.Given as goal

abbrev pub decreases-matches : goal.decreases-matches
decreases-matches l = length l.bound.now
