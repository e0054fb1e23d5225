use Rattle.std.proofs.Common.{◌≡◌, ℕ, ◌++◌, [], ◌∷◌, List, length, fold, refl, sym, ap, ◌∙◌, ◌≤◌, arith}
use Rattle.cell_grid.specs.declared.cell.Cell.{Cell}
use Rattle.win_view.specs.Rows.{holdable, rows_of}
use Rattle.win_view.specs.Showing.{passed}
use Rattle.win_view.proofs.FirstRows.{pass_row, pass_last}
use Rattle.win_view.proofs.LaidRows.{spaces_kept, then_passed}
use Rattle.win_view.proofs.layings.Laying.show_line.Goals as goal

pub loop-count-preserved : goal.loop-count-preserved
loop-count-preserved c =
    let loop = c.loop-count.invariant in
    let width = c.len-width.result in
    let wide : width ≡ length c.args.self.now.spaces.items = omega (arith, c.len-width.ensures, c.args.self.now.spaces.ok.0) in
    let some : 1 ≤ width = omega (arith, c.requires.room.some, wide) in
    let row = c.split_at.result.0.now in
    let behind = c.split_at.result.1.now in
    let before = loop.passed.0 in
    let held : (c.show_held.new.self, c.show_held.new.grid) ≡ fold passed (c.loop-count.self, c.loop-count.grid) (holdable width row ∷ []) =
    c.show_held.ensures.passed ∙ ap (λ (n : ℕ). passed (c.loop-count.self, c.loop-count.grid) (holdable n row)) loop.wide
    in
    record {
      first = c.first_row-count-in-loop-count.ensures;
      wide = ap length (spaces_kept c.loop-count.self c.show_held.new.self c.loop-count.grid c.show_held.new.grid (holdable width row ∷ []) loop.room.within loop.room.below held) ∙ loop.wide;
      room = c.show_held.ensures.room;
      cols = c.show_held.ensures.cols ∙ loop.cols;
      passed = (
        before ++ holdable width row ∷ [],
        then_passed (c.args.self.now, c.args.grid.now) (c.loop-count.self, c.loop-count.grid) (c.show_held.new.self, c.show_held.new.grid) before (holdable width row ∷ []) (before ++ holdable width row ∷ []) loop.passed.1 held refl,
        pass_row width c.loop-count.count c.loop-count.rest.now row behind before some loop.first c.loop-count-test.true
            c.split_at.ensures.front c.split_at.ensures.back
            ∙ loop.passed.2,
      );
    }

pub returns-clause-passed : goal.returns-clause-passed
returns-clause-passed c =
    let loop = c.loop-count.invariant in
    let width = c.len-width.result in
    let wide : width ≡ length c.args.self.now.spaces.items = omega (arith, c.len-width.ensures, c.args.self.now.spaces.ok.0) in
    let some : 1 ≤ width = omega (arith, c.requires.room.some, wide) in
    let rest = c.loop-count.rest.now in
    let before = loop.passed.0 in
    let held : (c.show_held-2.new.self, c.show_held-2.new.grid) ≡ fold passed (c.loop-count.self, c.loop-count.grid) (holdable width rest ∷ []) =
    c.show_held-2.ensures.passed ∙ ap (λ (n : ℕ). passed (c.loop-count.self, c.loop-count.grid) (holdable n rest)) loop.wide
    in
    let last = pass_last width c.loop-count.count rest some loop.first c.loop-count-test.false in
    then_passed (c.args.self.now, c.args.grid.now) (c.loop-count.self, c.loop-count.grid) (c.show_held-2.new.self, c.show_held-2.new.grid) before (holdable width rest ∷ []) _ loop.passed.1 held
    (ap (λ (rows : List (List Cell)). before ++ rows) (sym last) ∙ loop.passed.2 ∙ ap (λ (n : ℕ). rows_of n c.args.cells.now) wide)
