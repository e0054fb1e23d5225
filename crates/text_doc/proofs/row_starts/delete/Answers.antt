use Rattle.std.proofs.Common.{◌≡◌, ℕ, ◌+◌, ◌-◌, ◌≤◌, length, drop, sym, ap, ◌∙◌, arith}
use Rattle.std.proofs.lemmas.List.{length-append, length-drop, drop-drop}
use Rattle.text_doc.specs.Gap.{Gap, joined}
use Rattle.text_doc.specs.RowStarts.{row_starts, distances}
use Rattle.text_doc.proofs.StartEdits.{row_of-le, length-behind, starts_removed}
use Rattle.text_doc.proofs.row_starts.delete.Goals as goal

pub overflow_sub-rows : goal.overflow_sub-rows
overflow_sub-rows c =
    let ordered = row_of-le (joined c.args.text.now) c.args.from c.args.to c.requires.ordered c.requires.range in
    omega (arith, c.row_at.ensures.row, c.row_at-2.ensures.row)

pub remove-requires-2 : goal.remove-requires-2
remove-requires-2 c =
    let text = joined c.args.text.now in
    let chars = c.move_gap.new.chars in
    let from : c.args.from ≤ length text = omega (arith, c.requires.ordered, c.requires.range) in
    let back : c.move_gap.new.starts.back ≡ distances (length (drop c.args.from text)) (row_starts (drop c.args.from text)) =
    c.move_gap.ensures.indexed.back ∙ ap (λ xs. distances (length xs) (row_starts xs)) c.move_gap.ensures.back in
    omega (arith, ap length back, length-behind text c.args.from c.row_at-2.result from c.row_at-2.ensures.row, c.row_at.ensures.within)

pub returns-clause-indexed : goal.returns-clause-indexed
returns-clause-indexed c =
    let text = joined c.args.text.now in
    let from = c.args.from in
    let to = c.args.to in
    let count = c.row_at.result - c.row_at-2.result in
    let chars = c.move_gap.new.chars in
    let starts = c.move_gap.new.starts in
    let there : from + (to - from) ≡ to = omega (arith, c.requires.ordered) in
    let front : c.remove.new.self.front ≡ chars.front = ap (λ (g : Gap ℕ). g.front) c.remove.ensures in
    let back : c.remove.new.self.back ≡ drop to text =
    ap (λ (g : Gap ℕ). g.back) c.remove.ensures ∙ ap (drop (to - from)) c.move_gap.ensures.back ∙ drop-drop (to - from) from text ∙ ap (λ n. drop n text) there in
    let starts_front : c.remove-2.new.self.front ≡ starts.front = ap (λ (g : Gap ℕ). g.front) c.remove-2.ensures in
    let starts_back : c.remove-2.new.self.back ≡ distances (length (drop to text)) (row_starts (drop to text)) =
    ap (λ (g : Gap ℕ). g.back) c.remove-2.ensures
    ∙ ap (drop count) (c.move_gap.ensures.indexed.back ∙ ap (λ xs. distances (length xs) (row_starts xs)) c.move_gap.ensures.back)
    ∙ starts_removed text from to c.row_at-2.result c.row_at.result c.requires.ordered c.requires.range c.row_at-2.ensures.row c.row_at.ensures.row in
    record {
      front = starts_front ∙ c.move_gap.ensures.indexed.front ∙ ap row_starts (sym front);
      back = starts_back ∙ ap (λ xs. distances (length xs) (row_starts xs)) (sym back);
      short = omega (arith, length-append c.remove.new.self.front c.remove.new.self.back, length-append chars.front chars.back, ap length front, ap length back, ap length c.move_gap.ensures.back, length-drop to text, length-drop from text, c.move_gap.ensures.indexed.short, c.requires.ordered, c.requires.range);
    }
