use lib.Utf8.{encode}
use Rattle.std.specs.String.{string_bytes}
use Rattle.diff_render.specs.Spelling.{flagged, coloured}
use Rattle.diff_render.proofs.Reading.{Listed, listed_then, listed_whole}
use Rattle.diff_render.proofs.spelling.push_pen.Goals as goal

pub returns-clause-spelled : goal.returns-clause-spelled
unfolding encode
returns-clause-spelled c =
    let start = string_bytes c.push_str.new.self in
    let adds = c.args.adds in
    let pen = c.args.pen.now in
    let one : Listed start adds (flagged 1 pen.bold) (string_bytes c.push_flag.new.out) c.in_ok-first.first = (c.in_ok-first.ensures.spelled, c.in_ok-first.ensures.still) in
    let two = listed_then start adds _ _ _ (flagged 3 pen.italic) _ _ one c.in_ok-first-2.ensures.spelled c.in_ok-first-2.ensures.still in
    let three = listed_then start adds _ _ _ (flagged 4 pen.underline) _ _ two c.in_ok-first-3.ensures.spelled c.in_ok-first-3.ensures.still in
    let four = listed_then start adds _ _ _ (flagged 5 pen.blink) _ _ three c.in_ok-first-4.ensures.spelled c.in_ok-first-4.ensures.still in
    let five = listed_then start adds _ _ _ (flagged 7 pen.reverse) _ _ four c.in_ok-first-5.ensures.spelled c.in_ok-first-5.ensures.still in
    let six = listed_then start adds _ _ _ (flagged 8 pen.hidden) _ _ five c.in_ok-first-6.ensures.spelled c.in_ok-first-6.ensures.still in
    let seven = listed_then start adds _ _ _ (flagged 9 pen.strike) _ _ six c.in_ok-first-7.ensures.spelled c.in_ok-first-7.ensures.still in
    let eight = listed_then start adds _ _ _ (coloured 30 pen.fg) _ _ seven c.in_ok-first-8.ensures.spelled c.in_ok-first-8.ensures.still in
    let nine = listed_then start adds _ _ _ (coloured 40 pen.bg) _ _ eight c.in_ok-_first.ensures.spelled c.in_ok-_first.ensures.still in
    listed_whole _ adds _ start _ _ _ c.in_ok-push_str.ensures.bytes nine c.in_ok-push.ensures.bytes
