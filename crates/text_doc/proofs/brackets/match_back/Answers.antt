use Rattle.std.proofs.Common.{◌≡◌, ◌+◌, ◌-◌, get_or, arith}
use Rattle.text_doc.proofs.BracketWalks.{IsClosing-front, IsClosing-more, match_back_found, match_back_none}
use Rattle.text_doc.proofs.brackets.match_back.Goals as goal

pub loop-at-init : goal.loop-at-init
loop-at-init c =
    IsClosing-front c.args.opening c.args.closing c.args.text.now c.args.cursor c.requires.within c.requires.at_cursor c.requires.different

pub returns-then-depth-eq0-clause-place : goal.returns-then-depth-eq0-clause-place
returns-then-depth-eq0-clause-place c =
    let read : c.char_at.result ≡ get_or c.args.text.now (c.loop-at.at - 1) 0 = c.char_at.ensures in
    let next : c.loop-at.at ≡ c.loop-at.at - 1 + 1 = omega arith in
    match_back_found c.args.opening c.args.closing c.args.text.now c.args.cursor (c.loop-at.at - 1) c.loop-at.depth c.depth_after-depth.result (rw next at c.loop-at.invariant) (omega arith) c.requires.within (rw read at c.depth_after-depth.ensures) c.if-depth-eq0.true

pub loop-at-preserved : goal.loop-at-preserved
loop-at-preserved c =
    let read : c.char_at.result ≡ get_or c.args.text.now (c.loop-at.at - 1) 0 = c.char_at.ensures in
    let next : c.loop-at.at ≡ c.loop-at.at - 1 + 1 = omega arith in
    IsClosing-more c.args.opening c.args.closing c.args.text.now c.args.cursor (c.loop-at.at - 1) c.loop-at.depth c.depth_after-depth.result (rw next at c.loop-at.invariant) (omega arith) c.requires.within (rw read at c.depth_after-depth.ensures) (omega arith)

pub returns-clause-place : goal.returns-clause-place
returns-clause-place c =
    match_back_none c.args.opening c.args.closing c.args.text.now c.args.cursor c.loop-at.at c.loop-at.depth c.loop-at.invariant (omega arith)
