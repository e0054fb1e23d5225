use Rattle.std.proofs.Common.{length, flat_map, ap, arith}
use Rattle.win_view.specs.Rows.{rows_of}
use Rattle.win_view.proofs.RowCounts.{lines_few}
use Rattle.win_view.proofs.WindowRows.{content_rows-wrapped, row_within}
use Rattle.win_view.proofs.cursors.cursor_place.Goals as goal

pub returns-clause-row_within : goal.returns-clause-row_within
returns-clause-row_within c =
    let content = c.args.content.now in
    let lines = c.as_slice-lines.result.now in
    let within = row_within c.args.width content.line content.cell c.wrapped_height.result c.place_in_line-place.result.row lines c.split_at.result.0.now
    c.index-lines-content.result c.as_slice.result.now (omega (arith, c.requires.content.line, ap length c.as_slice-lines.ensures)) c.index-lines-content.is
    c.split_at.ensures.front c.as_slice.ensures.value c.wrapped_height.ensures.value c.place_in_line-place.ensures.row in
    omega (
      arith,
      within,
      ap (λ all. length (flat_map (rows_of c.args.width) all)) c.as_slice-lines.ensures,
      ap length (content_rows-wrapped content c.args.width c.if-not-content.false),
    )

pub returns-clause-row_fits : goal.returns-clause-row_fits
returns-clause-row_fits c =
    let content = c.args.content.now in
    omega (
      arith,
      returns-clause-row_within c,
      ap length (content_rows-wrapped content c.args.width c.if-not-content.false),
      lines_few c.args.width content.lines c.requires.width,
    )
