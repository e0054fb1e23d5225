use Rattle.std.proofs.Common.{◌≡◌, length, arith}
use Rattle.text_doc.specs.Gap.{joined}
use Rattle.text_doc.specs.Rows.{row_of}
use Rattle.text_doc.proofs.StartGaps.{IsParted-indexed, IsIndexed-parted}
use Rattle.text_doc.proofs.row_starts.move_gap.Goals as goal

pub pass_back-requires : goal.pass_back-requires
pass_back-requires c = record { parted = IsParted-indexed c.args.chars.now c.args.starts.now c.requires.indexed }

pub returns-clause-indexed : goal.returns-clause-indexed
returns-clause-indexed c =
    let text = joined c.args.chars.now in
    let count : length c.pass_ahead.new.starts.front ≡ row_of text c.args.at =
    omega (arith, c.pass_ahead.ensures.count, c.pass_back.ensures.count, c.row_at-row.ensures.row) in
    IsIndexed-parted c.move_to.new.self c.pass_ahead.new.starts text c.args.at c.requires.place c.requires.indexed.short
    c.move_to.ensures.front c.move_to.ensures.back c.pass_ahead.ensures.parted count
