use Rattle.std.proofs.Common.{◌≡◌, length, refl, arith}
use Rattle.std.proofs.lemmas.Bool.{false≢true}
use Rattle.cell_grid.proofs.JoinLemmas.{joined_last-other, joined_last-tail}
use Rattle.cell_grid.proofs.cell_row.join_last_of.Goals as goal
use Rattle.cell_grid.proofs.cell_row.join_last_of.Goals.{then-is_tail, else-is_tail}

pub returns : goal.returns
returns c =
    let cells = c.args.cells.now.items in
    let len : c.len-len.result ≡ length cells = omega arith in
    rw c.joined-lead.ensures
    (elim c.if-is_tail.branch [
      | then-is_tail w ↦
          joined_last-tail cells c.len-len.result c.if-is_tail.last c.index-2.result.now c.index.result.now c.args.next c.requires len
          (omega arith) c.index.ensures (w.if-is_tail.ensures.0 refl) w.last-is c.index-2.ensures
      | else-is_tail w ↦
          joined_last-other cells c.len-len.result c.if-is_tail.last c.index-2.result.now c.index.result.now c.args.next len
          (omega arith) c.index.ensures (λ none. false≢true (w.if-is_tail.ensures.1 none)) w.last-is c.index-2.ensures
    ])
