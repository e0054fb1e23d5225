use Rattle.std.proofs.Common.{◌≡◌, ◌-◌, length, drop, replicate, sym, subst, ap, ◌∙◌, arith}
use Rattle.std.proofs.lemmas.List.{drop-replicate, length-replicate}
use Rattle.cell_grid.specs.Cell.{narrow}
use Rattle.cell_grid.specs.Row.{IsWhole}
use Rattle.win_view.specs.Views.{spaces}
use Rattle.win_view.proofs.SpaceRows.{whole-spaces}
use Rattle.win_view.proofs.layings.Laying.new.Goals as goal

pub returns-clause-room : goal.returns-clause-room
returns-clause-room c =
    let behind = c.args.viewport.now.behind in
    let cols = c.cols-2.result in
    let items = c.in_ok-spaces.spaces.items in
    let is : items ≡ spaces behind cols = c.in_ok-spaces.ensures.items_if_clones_equal (λ y h. h) ∙ ap (replicate cols) c.narrow-space.ensures in
    let long : length items ≡ cols = ap length is ∙ length-replicate cols (narrow 32 behind) in
    record {
      some = omega (arith, long, c.cols-2.ensures.some);
      whole = λ count. subst IsWhole (sym (ap (drop count) is ∙ drop-replicate count cols (narrow 32 behind))) (whole-spaces behind (cols - count));
      right = omega (arith, long, c.cols-2.ensures.value, c.requires.cols_fit);
      few_cols = omega (arith, c.cols.ensures.value, c.cols.ensures.few);
      within = omega arith;
      below = omega (arith, c.rows-2.ensures.value, c.requires.rows_fit);
      few_rows = omega (arith, c.rows.ensures.value, c.rows.ensures.few);
    }
