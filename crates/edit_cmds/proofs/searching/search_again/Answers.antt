-- The other direction leaves where the search started, and a move leaves the lines.
use Rattle.std.proofs.Common.{refl}
use Rattle.edit_state.specs.declared.states.Search.{Search}
use Rattle.edit_cmds.proofs.Origins.{origin_moved}
use Rattle.edit_cmds.proofs.searching.search_again.Goals as goal

pub returns-in-Some-target-clause-origin : goal.returns-in-Some-target-clause-origin
returns-in-Some-target-clause-origin c =
    let turned : Search = record { needle = c.in-Some.search.needle; forward = c.args.forward; line = c.in-Some.search.line; at = c.in-Some.search.at } in
    origin_moved c.args.state.now c.in-Some.search turned c.go_to_spot.new.buffer c.next_target-target.result c.requires c.in-Some.is c.in_ok-go_to_spot.ensures.ok refl refl

pub returns-in-None-target-clause-origin : goal.returns-in-None-target-clause-origin
returns-in-None-target-clause-origin c =
    let turned : Search = record { needle = c.in-Some.search.needle; forward = c.args.forward; line = c.in-Some.search.line; at = c.in-Some.search.at } in
    origin_moved c.args.state.now c.in-Some.search turned c.go_to_spot.new.buffer c.next_target-target.result c.requires c.in-Some.is c.in_ok-go_to_spot.ensures.ok refl refl
