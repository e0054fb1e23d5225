use Rattle.prompt_view.proofs.Placing.{small_is}
use Rattle.prompt_view.proofs.drawings.small_pane.Goals as goal

pub returns : goal.returns
returns c =
    small_is c.plain-plain.result c.in_ok-content.content c.unscrolled.result c.from_one.result c.from_one-2.result
    c.plain-plain.ensures c.in_ok-content.ensures.content c.unscrolled.ensures c.from_one.ensures c.from_one-2.ensures
