use Prim.Native.Nat.{suc}
use Rattle.std.proofs.Common.{◌≡◌, ℕ, ◌+◌, ◌-◌, List, [], length, set, take, replicate, sym, subst, ap, ◌∙◌, arith, length-set}
use Rattle.std.proofs.lemmas.List.{get_or-replicate, length-replicate}
use Rattle.cell_grid.specs.declared.cell.Cell.{Cell}
use Rattle.cell_grid.specs.Grid.{blitted, row_at}
use Rattle.cell_grid.specs.Row.{IsWhole, laid_at}
use Rattle.cell_grid.proofs.GridLemmas.{blitted_more}
use Rattle.win_view.proofs.layings.Laying.show_spaces.Goals as goal

pub lay-requires-clause-whole : goal.lay-requires-clause-whole
lay-requires-clause-whole c = subst IsWhole (sym c.as_slice.ensures.value) (c.requires.room.whole 0)

pub loop-at-preserved : goal.loop-at-preserved
loop-at-preserved c =
    let self = c.args.self.now in
    let old = c.args.grid.now in
    let at = c.loop-at.at in
    let part = replicate (self.end - self.row) self.spaces.items in
    let so_far = blitted old (take at part) self.row self.col in
    let cells : c.as_slice.result.now ≡ row_at part at = c.as_slice.ensures.value ∙ sym (get_or-replicate (self.end - self.row) at self.spaces.items [] (omega arith)) in
    let next : suc at ≡ at + 1 = omega arith in
    record {
      so_far =
          c.lay.ensures.laid
          ∙ ap (λ (rows : List (List Cell)). set rows (self.row + at) (laid_at (row_at rows (self.row + at)) self.col c.as_slice.result.now)) c.loop-at.invariant.so_far
          ∙ ap (λ (row : List Cell). set so_far (self.row + at) (laid_at (row_at so_far (self.row + at)) self.col row)) cells
          ∙ blitted_more old part self.row self.col at (omega (arith, c.requires.room.within, c.requires.room.below)) (omega (arith, length-replicate (self.end - self.row) self.spaces.items))
          ∙ ap (λ (n : ℕ). blitted old (take n part) self.row self.col) next;
      count = ap length c.lay.ensures.laid ∙ length-set _ _ _ ∙ c.loop-at.invariant.count;
      width = c.lay.ensures.cols ∙ c.loop-at.invariant.width;
    }
