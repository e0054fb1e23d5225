use Rattle.std.proofs.Common.{◌≡◌, ◌≤◌, length, ap, arith}
use Rattle.text_doc.specs.Gap.{joined}
use Rattle.text_doc.specs.RowStarts.{row_starts}
use Rattle.text_doc.proofs.StartLists.{length-starts_from-le}
use Rattle.text_doc.proofs.StartGaps.{IsParted-indexed, length-parted}
use Rattle.text_doc.proofs.indexed_texts.IndexedText.insert.Goals as goal

pub make_room-requires-2 : goal.make_room-requires-2
make_room-requires-2 c =
    let chars = c.self.inside.chars in
    let starts = c.self.inside.starts in
    let all = length-parted (joined chars) starts (IsParted-indexed chars starts c.self.invariant) in
    let fewer : length (row_starts (joined chars)) ≤ length (joined chars) = length-starts_from-le 0 (joined chars) in
    let same : length (joined chars) ≡ length c.args.self.now = ap length c.self.view_is in
    omega (arith, c.requires.short, c.line_feeds.ensures.within)
