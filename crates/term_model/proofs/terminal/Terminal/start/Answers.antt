use Rattle.std.proofs.Common.{arith}
use Rattle.cell_grid.specs.Size.{IsScreen}
use Rattle.term_model.proofs.KeepLemmas.{start-keeps}
use Rattle.term_model.proofs.terminal.Terminal.start.Goals as goal

pub invariant_of-result : goal.invariant_of-result
invariant_of-result c =
    let size = c.args.size in
    let rows = c.rows-rows.ensures in
    let cols = c.cols-cols.ensures in
    let screen : IsScreen size.rows size.cols =
    (omega (arith, rows.value, rows.some), omega (arith, rows.value, rows.few), omega (arith, cols.value, cols.some), omega (arith, cols.value, cols.few)) in
    rw (c.in_ok-lines.ensures, c.plain.ensures, rows.value, cols.value) (start-keeps size screen)

pub returns-clause-kept : goal.returns-clause-kept
returns-clause-kept c =
    let size = c.args.size in
    let rows = c.rows-rows.ensures in
    let cols = c.cols-cols.ensures in
    let screen : IsScreen size.rows size.cols =
    (omega (arith, rows.value, rows.some), omega (arith, rows.value, rows.few), omega (arith, cols.value, cols.some), omega (arith, cols.value, cols.few)) in
    rw (c.in_ok-lines.ensures, c.plain.ensures, rows.value, cols.value) (start-keeps size screen)
