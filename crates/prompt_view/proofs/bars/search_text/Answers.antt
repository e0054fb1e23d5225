use Rattle.prompt_view.proofs.Counts.{search_is}
use Rattle.prompt_view.proofs.bars.search_text.Goals as goal

pub returns-in_ok-text-in-Some-clause-value : goal.returns-in_ok-text-in-Some-clause-value
returns-in_ok-text-in-Some-clause-value c =
    search_is c.args.search c.in-Some.direction c.args.needle.now c.search_label.result.now c.split_at.result.0.now c.in_ok-text-in-Some.text c.min.result
    c.in-Some.is c.search_label.ensures.label c.min.ensures c.split_at.ensures.front c.in_ok-text-in-Some.ensures
