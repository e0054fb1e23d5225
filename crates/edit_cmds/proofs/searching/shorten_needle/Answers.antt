-- The other search starts where the search started.
use Rattle.std.proofs.Common.{ap}
use Rattle.edit_state.specs.declared.states.Search.{Search}
use Rattle.edit_cmds.proofs.Origins.{origin_stays}
use Rattle.edit_cmds.proofs.searching.shorten_needle.Goals as goal

pub look-requires-clause-origin : goal.look-requires-clause-origin
look-requires-clause-origin c =
    let made = c.in_ok-search-in-Some.ensures.search in
    origin_stays c.args.state.now c.in-Some.search c.in_ok-search-in-Some.search c.requires c.in-Some.is (ap (λ (x : Search). x.line) made) (ap (λ (x : Search). x.at) made)
