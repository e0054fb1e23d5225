use Rattle.std.proofs.Common.{length}
use Rattle.key_proc.proofs.rows.+all_filter.Given as goal

abbrev pub decreases-all_filter : goal.decreases-all_filter
decreases-all_filter l = length l.tests.now
