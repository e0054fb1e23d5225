use Rattle.std.proofs.Common.{◌≡◌, ℕ, ◌-◌, List, length, get_or, sym, ap, ◌∙◌, subst, arith}
use Rattle.text_doc.specs.Gap.{joined}
use Rattle.text_doc.proofs.StartGaps.{IsNth, IsNth-before, IsBehind-nth, IsParted-indexed, length-parted}
use Rattle.text_doc.proofs.row_starts.start_at.Goals as goal

pub overflow_sub-result-else-nth-front : goal.overflow_sub-result-else-nth-front
overflow_sub-result-else-nth-front c =
    let text = joined c.args.chars.now in
    let starts = c.args.starts.now in
    let parted = IsParted-indexed c.args.chars.now starts c.requires.indexed in
    let all = length-parted text starts parted in
    let size : length c.parts.result.0.now ≡ length starts.front = ap length c.parts.ensures.front in
    let behind = IsBehind-nth text starts c.args.nth parted (omega arith) (omega (arith, c.requires.some)) in
    let fits = behind.fits in
    let same : get_or c.parts.result.1.now (c.args.nth - length c.parts.result.0.now) 0 ≡ get_or starts.back (c.args.nth - length starts.front) 0 =
    ap (λ xs. get_or xs (c.args.nth - length c.parts.result.0.now) 0) c.parts.ensures.back ∙ ap (λ n. get_or starts.back (c.args.nth - n) 0) size in
    omega arith

pub returns-then-nth-front : goal.returns-then-nth-front
returns-then-nth-front c =
    let text = joined c.args.chars.now in
    let starts = c.args.starts.now in
    let parted = IsParted-indexed c.args.chars.now starts c.requires.indexed in
    let size : length c.parts.result.0.now ≡ length starts.front = ap length c.parts.ensures.front in
    let nth = IsNth-before text starts c.args.nth parted (omega arith) in
    let P : List ℕ → Type 0 = λ xs. IsNth text c.args.nth (get_or xs c.args.nth 0) in
    let is : IsNth text c.args.nth (get_or c.parts.result.0.now c.args.nth 0) = subst P (sym c.parts.ensures.front) nth in
    record { start = is.is; above = is.above; within = is.within }

pub returns-else-nth-front : goal.returns-else-nth-front
returns-else-nth-front c =
    let text = joined c.args.chars.now in
    let starts = c.args.starts.now in
    let parted = IsParted-indexed c.args.chars.now starts c.requires.indexed in
    let all = length-parted text starts parted in
    let size : length c.parts.result.0.now ≡ length starts.front = ap length c.parts.ensures.front in
    let behind = IsBehind-nth text starts c.args.nth parted (omega arith) (omega (arith, c.requires.some)) in
    let nth = behind.start in
    let is = nth.is in
    let above = nth.above in
    let within = nth.within in
    let same : get_or c.parts.result.1.now (c.args.nth - length c.parts.result.0.now) 0 ≡ get_or starts.back (c.args.nth - length starts.front) 0 =
    ap (λ xs. get_or xs (c.args.nth - length c.parts.result.0.now) 0) c.parts.ensures.back ∙ ap (λ n. get_or starts.back (c.args.nth - n) 0) size in
    record { start = omega (arith, c.len.ensures.len); above = omega (arith, c.len.ensures.len); within = omega (arith, c.len.ensures.len) }
