use Rattle.std.proofs.Common.{◌≡◌, ℕ, List, length, map, drop, flat_map, ap, ◌∙◌}
use Rattle.std.proofs.lemmas.List.{drop_min}
use Rattle.cell_grid.specs.declared.cell.Cell.{Cell}
use Rattle.cell_grid.specs.Grid.{blitted}
use Rattle.win_view.specs.Rows.{rows_of}
use Rattle.win_view.specs.Showing.{part_of, shown_of}
use Rattle.win_view.specs.Views.{columns_from, window_rows_with}
use Rattle.win_view.proofs.Blits.{length-blitted}
use Rattle.win_view.proofs.WindowRows.{part_of-cut, part_of-every, part_of-wrapped}
use Rattle.win_view.proofs.shows.show.Goals as goal
use Rattle.win_view.proofs.shows.show.Goals.{After-show_cut, After-show_wrapped}

-- ---- where lines wrap

wrapped : (c : After-show_wrapped) → part_of c.in_ok-laying.laying (shown_of c.in_ok-laying.laying c.args.scroll.down (flat_map (rows_of (length c.in_ok-laying.laying.spaces.items)) c.as_slice-lines.result.now)) ≡ window_rows_with c.args.viewport.now.behind c.args.content.now c.args.viewport.now.size c.args.scroll
wrapped c = part_of-wrapped c.args.viewport.now c.in_ok-laying.laying c.args.content.now c.args.scroll c.as_slice-lines.result.now c.in_ok-laying.ensures.start c.if-content.true c.as_slice-lines.ensures

pub returns-then-content-clause-shows : goal.returns-then-content-clause-shows
returns-then-content-clause-shows c =
    let grid = c.args.grid.now in
    let laying = c.in_ok-laying.laying in
    let start = c.in_ok-laying.ensures.start in
    let window = window_rows_with c.args.viewport.now.behind c.args.content.now c.args.viewport.now.size c.args.scroll in
    c.show_wrapped.ensures.shows
    ∙ ap (λ (part : List (List Cell)). blitted grid part laying.row laying.col) (wrapped c)
    ∙ ap (λ (row : ℕ). blitted grid window row laying.col) start.row
    ∙ ap (λ (col : ℕ). blitted grid window c.args.viewport.now.row col) start.col

pub returns-then-content-clause-every : goal.returns-then-content-clause-every
returns-then-content-clause-every c =
    part_of-every c.args.viewport.now c.in_ok-laying.laying (shown_of c.in_ok-laying.laying c.args.scroll.down (flat_map (rows_of (length c.in_ok-laying.laying.spaces.items)) c.as_slice-lines.result.now))
    (window_rows_with c.args.viewport.now.behind c.args.content.now c.args.viewport.now.size c.args.scroll)
    c.in_ok-laying.ensures.start c.show_wrapped.ensures.held (wrapped c)

pub returns-then-content-clause-rows : goal.returns-then-content-clause-rows
returns-then-content-clause-rows c =
    ap length (returns-then-content-clause-shows c)
    ∙ length-blitted c.args.grid.now (window_rows_with c.args.viewport.now.behind c.args.content.now c.args.viewport.now.size c.args.scroll) c.args.viewport.now.row c.args.viewport.now.col

-- ---- where they do not

cut : (c : After-show_cut) → part_of c.in_ok-laying.laying (shown_of c.in_ok-laying.laying 0 (map (columns_from c.args.scroll.across (length c.in_ok-laying.laying.spaces.items)) c.split_at.result.1.now)) ≡ window_rows_with c.args.viewport.now.behind c.args.content.now c.args.viewport.now.size c.args.scroll
cut c =
    let lines = c.as_slice-lines.result.now in
    let down = c.args.scroll.down in
    part_of-cut c.args.viewport.now c.in_ok-laying.laying c.args.content.now c.args.scroll c.split_at.result.1.now c.in_ok-laying.ensures.start c.if-content.false
    (c.split_at.ensures.back ∙ ap (λ (n : ℕ). drop n lines) c.min.ensures ∙ drop_min down lines ∙ ap (drop down) c.as_slice-lines.ensures)

pub returns-clause-shows : goal.returns-clause-shows
returns-clause-shows c =
    let grid = c.args.grid.now in
    let laying = c.in_ok-laying.laying in
    let start = c.in_ok-laying.ensures.start in
    let window = window_rows_with c.args.viewport.now.behind c.args.content.now c.args.viewport.now.size c.args.scroll in
    c.show_cut.ensures.shows
    ∙ ap (λ (part : List (List Cell)). blitted grid part laying.row laying.col) (cut c)
    ∙ ap (λ (row : ℕ). blitted grid window row laying.col) start.row
    ∙ ap (λ (col : ℕ). blitted grid window c.args.viewport.now.row col) start.col

pub returns-clause-every : goal.returns-clause-every
returns-clause-every c =
    part_of-every c.args.viewport.now c.in_ok-laying.laying (shown_of c.in_ok-laying.laying 0 (map (columns_from c.args.scroll.across (length c.in_ok-laying.laying.spaces.items)) c.split_at.result.1.now))
    (window_rows_with c.args.viewport.now.behind c.args.content.now c.args.viewport.now.size c.args.scroll)
    c.in_ok-laying.ensures.start c.show_cut.ensures.held (cut c)

pub returns-clause-rows : goal.returns-clause-rows
returns-clause-rows c =
    ap length (returns-clause-shows c)
    ∙ length-blitted c.args.grid.now (window_rows_with c.args.viewport.now.behind c.args.content.now c.args.viewport.now.size c.args.scroll) c.args.viewport.now.row c.args.viewport.now.col
