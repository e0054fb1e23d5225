use Rattle.std.proofs.Common.{◌≡◌, List, ◌+◌, ◌-◌, length, take, drop, ◌++◌, sym, ap, ◌∙◌, arith}
use Rattle.std.specs.List.{copy_within}
use Rattle.text_doc.proofs.GapLemmas.{block_up, written_whole}
use Rattle.text_doc.proofs.gap_buffers.shift_up.Goals as goal

pub returns-clause-back : goal.returns-clause-back
returns-clause-back g c =
    let xs = c.args.all.now.items in
    let from = c.args.from in
    let count = c.args.to - c.args.from in
    let place = c.args.end - count in
    let whole : c.args.all.now.len ≡ length xs = sym c.as_mut_slice-items.ensures.len ∙ ap length c.as_mut_slice-items.ensures.value in
    let top : from + count ≡ c.args.to = omega arith in
    let end : place + count ≡ c.args.end = omega arith in
    ap (drop place) (written_whole xs c.copy_within.new.self c.args.all.now.len whole (c.copy_within.ensures.len ∙ ap length c.as_mut_slice-items.ensures.value))
    ∙ ap (drop place) c.copy_within.ensures.after
    ∙ ap (λ (ys : List g.row.T.Denot). drop place (copy_within ys from c.args.to place)) c.as_mut_slice-items.ensures.value
    ∙ block_up xs from count place (omega arith)
    ∙ ap (λ n. drop from (take n xs) ++ drop (place + count) xs) top
    ∙ ap (λ n. drop from (take c.args.to xs) ++ drop n xs) end
