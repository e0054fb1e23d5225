use Rattle.std.proofs.Common.{arith, sym, ◌∙◌}
use Rattle.cell_grid.proofs.GridLemmas.{seen_of, seen_as, laid_in}
use Rattle.cell_grid.proofs.grid.Grid.lay.Goals as goal

pub start_of-start-requires-clause-few_rows : goal.start_of-start-requires-clause-few_rows
start_of-start-requires-clause-few_rows c =
    let i = c.self.inside in
    omega (arith, (seen_of i.rows i.cols i.cells.items c.args.self.now c.self.invariant c.self.view_is).count)

pub lay_in_block-requires-clause-within : goal.lay_in_block-requires-clause-within
lay_in_block-requires-clause-within c =
    let i = c.self.inside in
    let seen = seen_of i.rows i.cols i.cells.items c.args.self.now c.self.invariant c.self.view_is in
    omega (arith, seen.ends c.args.row (omega (arith, seen.count)))

pub invariant_of-self : goal.invariant_of-self
invariant_of-self c =
    let i = c.self.inside in
    let seen = seen_of i.rows i.cols i.cells.items c.args.self.now c.self.invariant c.self.view_is in
    rw (c.lay_in_block.ensures, c.start_of-start.ensures)
    (laid_in i.rows i.cols c.args.row c.args.col i.cells.items c.args.cells.now c.self.invariant (omega (arith, seen.count)) (omega (arith, seen.width)) c.requires.whole).block

pub returns-clause-laid : goal.returns-clause-laid
returns-clause-laid c =
    let i = c.self.inside in
    let seen = seen_of i.rows i.cols i.cells.items c.args.self.now c.self.invariant c.self.view_is in
    rw (c.lay_in_block.ensures, c.start_of-start.ensures, ← c.self.view_is)
    (laid_in i.rows i.cols c.args.row c.args.col i.cells.items c.args.cells.now c.self.invariant (omega (arith, seen.count)) (omega (arith, seen.width)) c.requires.whole).laid

pub returns-clause-cols : goal.returns-clause-cols
returns-clause-cols c =
    let i = c.self.inside in
    let seen = seen_of i.rows i.cols i.cells.items c.args.self.now c.self.invariant c.self.view_is in
    (seen_as i.rows i.cols c.lay_in_block.new.block.items (invariant_of-self c)).width ∙ sym seen.width
