use Rattle.std.proofs.Common.{◌≡◌, List, ◌-◌, length, drop, sym, ap, ◌∙◌, arith}
use Rattle.std.specs.List.{copy_within}
use Rattle.text_doc.proofs.GapLemmas.{block_down, written_whole}
use Rattle.text_doc.proofs.gap_buffers.shift_down.Goals as goal

pub returns-clause-back : goal.returns-clause-back
returns-clause-back g c =
    let xs = c.args.all.now.items in
    let from = c.args.from in
    let to = c.args.to in
    let whole : c.args.all.now.len ≡ length xs = sym c.as_mut_slice-items.ensures.len ∙ ap length c.as_mut_slice-items.ensures.value in
    ap (drop to) (written_whole xs c.copy_within.new.self c.args.all.now.len whole (c.copy_within.ensures.len ∙ ap length c.as_mut_slice-items.ensures.value))
    ∙ ap (drop to) c.copy_within.ensures.after
    ∙ ap (λ (ys : List g.row.T.Denot). drop to (copy_within ys from to c.args.start)) c.as_mut_slice-items.ensures.value
    ∙ block_down xs from (to - from) c.args.start to (omega arith) c.requires.range (omega arith)
