use Rattle.prompt_view.specs.Floats.{item_row}
use Rattle.prompt_view.proofs.MenuRows.{long_more, rows_more}
use Rattle.prompt_view.proofs.menus.item_rows.Goals as goal

pub loop-at-preserved : goal.loop-at-preserved
loop-at-preserved c = record {
  rows =
      rows_more (item_row c.args.scene.now) c.loop-at.lines c.push.new.self c.in_ok-row.row c.args.first c.loop-at.at
      c.loop-at.invariant.rows c.in_ok-row.ensures.row c.in_ok-push.ensures.ok;
  long = long_more c.args.cols c.loop-at.lines c.push.new.self c.in_ok-row.row c.loop-at.invariant.long c.in_ok-row.ensures.long c.in_ok-push.ensures.ok;
}
