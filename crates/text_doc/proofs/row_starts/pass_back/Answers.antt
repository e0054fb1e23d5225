use Rattle.std.proofs.Common.{◌≡◌, ℕ, ◌-◌, ◌≤◌, List, ◌∷◌, length, take, get_or, sym, ap, ◌∙◌, subst, arith}
use Rattle.std.proofs.lemmas.List.{length-take-le}
use Rattle.text_doc.specs.Gap.{Gap, joined}
use Rattle.text_doc.proofs.StartGaps.{IsNth-before, IsParted-back}
use Rattle.text_doc.proofs.row_starts.pass_back.Goals as goal

pub overflow_sub-len : goal.overflow_sub-len
overflow_sub-len c =
    let starts = c.loop-starts.starts in
    let last = IsNth-before (joined c.args.chars.now) starts (length starts.front - 1) c.loop-starts.invariant.parted (omega arith) in
    let top = last.within in
    let P : List ℕ → Type 0 = λ xs. get_or xs (length xs - 1) 0 ≤ c.len-len.result in
    subst P (sym c.parts.ensures.front) (omega arith)

pub loop-starts-preserved : goal.loop-starts-preserved
loop-starts-preserved c =
    let text = joined c.args.chars.now in
    let starts = c.loop-starts.starts in
    let moved = c.pass_back.new.self in
    let last = length starts.front - 1 in
    let is_last : get_or c.parts.result.0.now (length c.parts.result.0.now - 1) 0 ≡ get_or starts.front last 0 = ap (λ xs. get_or xs (length xs - 1) 0) c.parts.ensures.front in
    let distance : c.len-len.result - get_or c.parts.result.0.now (length c.parts.result.0.now - 1) 0 ≡ length text - get_or starts.front last 0 = omega arith in
    let front : moved.front ≡ take last starts.front = ap (λ (g : Gap ℕ). g.front) c.pass_back.ensures in
    let size : length moved.front ≡ last = ap length front ∙ length-take-le last starts.front (omega arith) in
    let back : moved.back ≡ (length text - get_or starts.front last 0) ∷ starts.back = ap (λ (g : Gap ℕ). g.back) c.pass_back.ensures ∙ ap (λ n. n ∷ starts.back) distance in
    record {
      parted = IsParted-back text starts moved c.loop-starts.invariant.parted (omega arith) front back;
      count = omega (arith, c.loop-starts.invariant.count);
      room = ap (λ (g : Gap ℕ). g.room) c.pass_back.ensures ∙ c.loop-starts.invariant.room;
    }
