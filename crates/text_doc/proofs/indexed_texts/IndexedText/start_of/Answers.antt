use Rattle.std.proofs.Common.{◌≡◌, length, ap, arith}
use Rattle.text_doc.specs.Gap.{joined}
use Rattle.text_doc.specs.RowStarts.{row_starts}
use Rattle.text_doc.proofs.StartGaps.{IsParted-indexed, length-parted}
use Rattle.text_doc.proofs.indexed_texts.IndexedText.start_of.Goals as goal

pub start_at-requires-clause-some : goal.start_at-requires-clause-some
start_at-requires-clause-some c =
    let chars = c.self.inside.chars in
    let starts = c.self.inside.starts in
    let all = length-parted (joined chars) starts (IsParted-indexed chars starts c.self.invariant) in
    let same : length (row_starts (joined chars)) ≡ length (row_starts c.args.self.now) = ap (λ xs. length (row_starts xs)) c.self.view_is in
    omega (arith, c.requires.some, c.requires.within)
