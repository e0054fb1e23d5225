-- The entries that were read are short.
use Rattle.std.proofs.Common.{◌≤◌, ℕ, List, length, subst, sym}
use Rattle.std.specs.List.{All}
use Rattle.prompt_run.proofs.EntryLemmas.{entries_short}
use Rattle.prompt_run.proofs.prompts.load.Goals as goal

pub invariant_of-result : goal.invariant_of-result
invariant_of-result g c = subst (All (λ (entry : List ℕ). length entry ≤ 32768)) (sym c.in_ok-entries.ensures) (entries_short _)
