use Rattle.std.proofs.Common.{arith, sym}
use Rattle.cell_grid.proofs.GridLemmas.{seen_of, AllRows-at}
use Rattle.cell_grid.proofs.grid.Grid.row.Goals as goal

pub start_of-requires-clause-few_rows : goal.start_of-requires-clause-few_rows
start_of-requires-clause-few_rows c =
    let i = c.self.inside in
    omega (arith, (seen_of i.rows i.cols i.cells.items c.args.self.now c.self.invariant c.self.view_is).count)

pub split_at-requires : goal.split_at-requires
split_at-requires c =
    let i = c.self.inside in
    let seen = seen_of i.rows i.cols i.cells.items c.args.self.now c.self.invariant c.self.view_is in
    omega (arith, seen.ends c.args.row (omega (arith, seen.count)))

pub split_at-requires-2 : goal.split_at-requires-2
split_at-requires-2 c =
    let i = c.self.inside in
    let seen = seen_of i.rows i.cols i.cells.items c.args.self.now c.self.invariant c.self.view_is in
    omega (arith, seen.ends c.args.row (omega (arith, seen.count)), c.split_at.ensures.back_len)

pub returns-clause-value : goal.returns-clause-value
returns-clause-value c =
    let i = c.self.inside in
    let seen = seen_of i.rows i.cols i.cells.items c.args.self.now c.self.invariant c.self.view_is in
    rw (c.split_at-2.ensures.front, c.split_at.ensures.back, c.as_slice-cells.ensures.value, c.start_of.ensures)
    (sym (seen.at c.args.row (omega (arith, seen.count))))

pub returns-clause-whole : goal.returns-clause-whole
returns-clause-whole c =
    let i = c.self.inside in
    let seen = seen_of i.rows i.cols i.cells.items c.args.self.now c.self.invariant c.self.view_is in
    rw (c.split_at-2.ensures.front, c.split_at.ensures.back, c.as_slice-cells.ensures.value, c.start_of.ensures, ← seen.at c.args.row (omega (arith, seen.count)))
    (AllRows-at i.cols c.args.self.now c.args.row seen.every c.requires).whole
