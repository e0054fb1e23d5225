use Rattle.std.proofs.Common.{◌≡◌, ℕ, ◌+◌, ◌-◌, ◌≤◌, List, [], ◌∷◌, ◌++◌, length, drop, get_or, sym, ap, ◌∙◌, subst, arith}
use Rattle.std.proofs.lemmas.List.{length-append}
use Rattle.text_doc.specs.Gap.{Gap, joined}
use Rattle.text_doc.proofs.StartGaps.{IsBehind-nth, IsParted-ahead}
use Rattle.text_doc.proofs.row_starts.pass_ahead.Goals as goal

pub overflow_sub-len : goal.overflow_sub-len
overflow_sub-len c =
    let starts = c.loop-starts.starts in
    let old = length starts.front in
    let next = IsBehind-nth (joined c.args.chars.now) starts old c.loop-starts.invariant.parted (omega arith) (omega (arith, c.requires.row)) in
    let first : get_or starts.back (old - old) 0 ≡ get_or starts.back 0 0 = ap (λ n. get_or starts.back n 0) (omega arith) in
    let fits = next.fits in
    let P : List ℕ → Type 0 = λ xs. get_or xs 0 0 ≤ c.len-len.result in
    subst P (sym c.parts.ensures.back) (omega arith)

pub loop-starts-preserved : goal.loop-starts-preserved
loop-starts-preserved c =
    let text = joined c.args.chars.now in
    let starts = c.loop-starts.starts in
    let moved = c.pass_ahead.new.self in
    let distance : get_or c.parts.result.1.now 0 0 ≡ get_or starts.back 0 0 = ap (λ xs. get_or xs 0 0) c.parts.ensures.back in
    let start : c.len-len.result - get_or c.parts.result.1.now 0 0 ≡ length text - get_or starts.back 0 0 = omega arith in
    let front : moved.front ≡ starts.front ++ (length text - get_or starts.back 0 0) ∷ [] =
    ap (λ (g : Gap ℕ). g.front) c.pass_ahead.ensures ∙ ap (λ n. starts.front ++ n ∷ []) start in
    let size : length moved.front ≡ length starts.front + 1 = ap length front ∙ length-append starts.front ((length text - get_or starts.back 0 0) ∷ []) in
    let back : moved.back ≡ drop 1 starts.back = ap (λ (g : Gap ℕ). g.back) c.pass_ahead.ensures in
    record {
      parted = IsParted-ahead text starts moved c.loop-starts.invariant.parted (omega (arith, c.requires.row)) front back;
      count = omega (arith, c.loop-starts.invariant.count);
      room = ap (λ (g : Gap ℕ). g.room) c.pass_ahead.ensures ∙ c.loop-starts.invariant.room;
    }
