use Rattle.std.proofs.Common.{ℕ}
use Rattle.cell_grid.proofs.GridLemmas.{AllRows-at}
use Rattle.term_model.proofs.KeepLemmas.{HasLead-within}
use Rattle.term_model.proofs.state.State.join.Goals as goal

pub join_in-requires-clause-whole : goal.join_in-requires-clause-whole
join_in-requires-clause-whole c =
    let t = c.args.self.now in
    let place : ℕ × ℕ = (c.in-Some.line, c.in-Some.at) in
    let lead = rw c.in-Some.is at c.requires.last in
    (AllRows-at t.cols t.lines.items c.in-Some.line c.requires.wide (HasLead-within t.lines.items place lead)).whole
