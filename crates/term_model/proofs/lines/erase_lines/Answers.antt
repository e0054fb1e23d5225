use Rattle.std.proofs.Common.{◌<◌, length, arith, ◌∙◌}
use Rattle.term_model.proofs.EraseLemmas.{next_row, line_erased}
use Rattle.term_model.proofs.lines.erase_lines.Goals as goal

pub erase_in-requires-clause-whole : goal.erase_in-requires-clause-whole
erase_in-requires-clause-whole c =
    let old = c.args.lines.now in
    let line = c.loop-line.line in
    let within : line < length old.items = omega (arith, c.len-line-end.ensures, old.ok.0) in
    (next_row old.items c.loop-line.lines.items c.args.from line c.args.cols c.args.pen c.requires.wide c.loop-line.auto.line within c.loop-line.invariant).whole

pub loop-line-preserved : goal.loop-line-preserved
loop-line-preserved c =
    let old = c.args.lines.now in
    let line = c.loop-line.line in
    let within : line < length old.items = omega (arith, c.len-line-end.ensures, old.ok.0) in
    c.erase_in.ensures ∙ line_erased old.items c.loop-line.lines.items c.args.from line c.args.cols c.args.pen c.requires.wide c.loop-line.auto.line within c.loop-line.invariant
