use Rattle.std.proofs.Common.{◌≡◌, get_or, arith}
use Rattle.text_doc.proofs.BracketWalks.{IsOpen-front, IsOpen-more, match_ahead_found, match_ahead_none}
use Rattle.text_doc.proofs.brackets.match_ahead.Goals as goal

pub loop-at-init : goal.loop-at-init
loop-at-init c =
    IsOpen-front c.args.opening c.args.closing c.args.text.now c.args.cursor c.requires.within c.requires.at_cursor c.requires.different

pub returns-then-depth-eq0-clause-place : goal.returns-then-depth-eq0-clause-place
returns-then-depth-eq0-clause-place c =
    let read : c.char_at.result ≡ get_or c.args.text.now c.loop-at.at 0 = c.char_at.ensures in
    match_ahead_found c.args.opening c.args.closing c.args.text.now c.args.cursor c.loop-at.at c.loop-at.depth c.depth_after-depth.result c.loop-at.invariant (omega arith) (omega arith) (rw read at c.depth_after-depth.ensures) c.if-depth-eq0.true

pub loop-at-preserved : goal.loop-at-preserved
loop-at-preserved c =
    let read : c.char_at.result ≡ get_or c.args.text.now c.loop-at.at 0 = c.char_at.ensures in
    IsOpen-more c.args.opening c.args.closing c.args.text.now c.args.cursor c.loop-at.at c.loop-at.depth c.depth_after-depth.result c.loop-at.invariant (omega arith) (omega arith) (rw read at c.depth_after-depth.ensures) (omega arith)

pub returns-clause-place : goal.returns-clause-place
returns-clause-place c =
    match_ahead_none c.args.opening c.args.closing c.args.text.now c.args.cursor c.loop-at.at c.loop-at.depth c.loop-at.invariant (omega arith)
