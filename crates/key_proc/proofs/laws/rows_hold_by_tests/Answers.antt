use Rattle.key_proc.proofs.RowLemmas.{holds-all_filter}
use Rattle.key_proc.proofs.laws.rows_hold_by_tests.Goals as goal

pub returns : goal.returns
returns c = holds-all_filter
