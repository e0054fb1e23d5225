use Rattle.std.proofs.Common.{◌∙◌, sym, ap, subst}
use Rattle.std.specs.List.{flat_map}
use Rattle.std.proofs.lemmas.Bool.{false≢true}
use Rattle.std.proofs.lemmas.List.{take_all}
use Rattle.cell_grid.specs.Cell.{IsLead}
use Rattle.win_view.proofs.HeldRows.{lead_item, pushed_all, pushed_cell}
use Rattle.win_view.proofs.wraps.held_row.Goals as goal
use Rattle.win_view.proofs.wraps.held_row.Goals.{then-width-eq1, else-width-eq1}

pub narrowed-lead-requires : goal.narrowed-lead-requires
narrowed-lead-requires c =
    lead_item c.loop-cell.cell-index c.args.cells.now c.cell-item.result c.requires.whole c.loop-cell-test.true c.cell-item.is
    (λ tail. false≢true (c.if-not-is_tail.ensures.1 tail))

pub push-requires : goal.push-requires
push-requires c =
    elim c.if-width-eq1.branch [
      | then-width-eq1 w ↦ subst IsLead (sym w.lead-is) w.narrowed-lead.ensures.lead
      | else-width-eq1 w ↦
          subst IsLead (sym w.lead-is)
          (lead_item c.loop-cell.cell-index c.args.cells.now c.cell-item.result c.requires.whole c.loop-cell-test.true c.cell-item.is
          (λ tail. false≢true (c.if-not-is_tail.ensures.1 tail)))
    ]

pub returns : goal.returns
returns c =
    c.loop-cell.invariant
    ∙ ap (flat_map (pushed_cell c.args.width)) (take_all c.loop-cell.cell-index c.args.cells.now c.loop-cell-test.false)
    ∙ pushed_all c.args.width c.args.cells.now c.requires.width c.requires.whole
