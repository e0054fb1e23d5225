use Rattle.std.proofs.Common.{◌≡◌, ℕ, ◌+◌, ◌≤◌, length, sym, ap, ◌∙◌, arith}
use Rattle.std.proofs.lemmas.List.{length-append, length-take-le, length-drop}
use Rattle.text_doc.specs.Gap.{Gap, joined}
use Rattle.text_doc.specs.RowStarts.{starts_from, row_starts}
use Rattle.text_doc.proofs.StartLists.{length-starts_from}
use Rattle.text_doc.proofs.StartEdits.{IsIndexed-inserted}
use Rattle.text_doc.proofs.row_starts.insert.Goals as goal

pub push_starts-requires-clause-room : goal.push_starts-requires-clause-room
push_starts-requires-clause-room c =
    let same : length (starts_from c.args.at c.args.chars.now) ≡ length (row_starts c.args.chars.now) =
    length-starts_from c.args.at c.args.chars.now ∙ sym (length-starts_from 0 c.args.chars.now) in
    omega (arith, c.requires.starts_room, c.move_gap.ensures.starts_room)

pub returns-clause-indexed : goal.returns-clause-indexed
returns-clause-indexed c =
    let text = joined c.args.text.now in
    let chars = c.move_gap.new.chars in
    let added = c.args.chars.now in
    let place : c.args.at ≡ length chars.front = omega (arith, ap length c.move_gap.ensures.front, length-take-le c.args.at text c.requires.place) in
    let short : length (joined chars) + length added ≤ 32768 =
    omega (arith, length-append chars.front chars.back, ap length c.move_gap.ensures.back, length-drop c.args.at text, c.requires.short, c.requires.place) in
    IsIndexed-inserted chars c.move_gap.new.starts c.push.new.self c.push_starts.new.starts added c.args.at c.move_gap.ensures.indexed place short
    (ap (λ (g : Gap ℕ). g.front) c.push.ensures) (ap (λ (g : Gap ℕ). g.back) c.push.ensures) c.push_starts.ensures.front c.push_starts.ensures.back
