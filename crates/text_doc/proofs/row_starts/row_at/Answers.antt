use Rattle.std.proofs.Common.{◌≡◌, ◌+◌, ◌-◌, ◌/◌, ◌<◌, length, get_or, arith}
use Rattle.text_doc.specs.Gap.{joined}
use Rattle.text_doc.specs.RowStarts.{row_starts}
use Rattle.text_doc.proofs.StartLists.{is_reached, is_not_reached, row_of-within}
use Rattle.text_doc.proofs.StartGaps.{IsParted-indexed, length-parted}
use Rattle.text_doc.proofs.row_starts.row_at.Goals as goal

pub loop-low-init : goal.loop-low-init
loop-low-init c =
    let text = joined c.args.chars.now in
    let starts = c.args.starts.now in
    let all = length-parted text starts (IsParted-indexed c.args.chars.now starts c.requires.indexed) in
    let within = row_of-within text c.args.place c.requires.place in
    record { low = omega arith; high = omega (arith, c.len-high.ensures.len); within = omega (arith, c.len-high.ensures.len) }

pub loop-low-preserved-then-start_at-place : goal.loop-low-preserved-then-start_at-place
loop-low-preserved-then-start_at-place c =
    let text = joined c.args.chars.now in
    let starts = c.args.starts.now in
    let all = length-parted text starts (IsParted-indexed c.args.chars.now starts c.requires.indexed) in
    let middle = c.loop-low.low + (c.loop-low.high - c.loop-low.low) / 2 in
    let below : middle < length (row_starts text) = omega (arith, c.loop-low-test.true, c.loop-low.invariant.within) in
    let start : c.start_at.result ≡ get_or (row_starts text) middle 0 = c.start_at.ensures.start in
    let reached = is_reached text c.args.place middle c.requires.place below (omega (arith, c.if-start_at-place.true)) in
    record { low = omega arith; high = c.loop-low.invariant.high; within = c.loop-low.invariant.within }

pub loop-low-preserved : goal.loop-low-preserved
loop-low-preserved c =
    let text = joined c.args.chars.now in
    let starts = c.args.starts.now in
    let all = length-parted text starts (IsParted-indexed c.args.chars.now starts c.requires.indexed) in
    let middle = c.loop-low.low + (c.loop-low.high - c.loop-low.low) / 2 in
    let less : middle < c.loop-low.high = omega (arith, c.loop-low-test.true) in
    let below : middle < length (row_starts text) = omega (arith, c.loop-low.invariant.within) in
    let start : c.start_at.result ≡ get_or (row_starts text) middle 0 = c.start_at.ensures.start in
    let not_reached = is_not_reached text c.args.place middle c.requires.place below (omega (arith, c.if-start_at-place.false)) in
    record { low = c.loop-low.invariant.low; high = not_reached; within = omega (arith, c.loop-low.invariant.within) }

pub returns-clause-within : goal.returns-clause-within
returns-clause-within c =
    let within = row_of-within (joined c.args.chars.now) c.args.place c.requires.place in
    omega (arith, c.loop-low.invariant.low)

pub returns-clause-short : goal.returns-clause-short
returns-clause-short c = omega (arith, c.loop-low.invariant.low, c.loop-low.invariant.high, c.loop-low.invariant.within, c.len-high.ensures.short)
