use Rattle.std.proofs.Common.{length}
use Rattle.key_proc.proofs.matching.+agrees.Given as goal

abbrev pub decreases-agrees : goal.decreases-agrees
decreases-agrees l = length l.bound.now
