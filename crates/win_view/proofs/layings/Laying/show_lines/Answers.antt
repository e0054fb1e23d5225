use Rattle.std.proofs.Common.{ℕ, ◌+◌, ◌++◌, List, length, take, drop, flat_map, fold, refl, sym, ap, subst, ◌∙◌, take-append-drop, All}
use Rattle.std.proofs.lemmas.List.{take_all}
use Rattle.std.proofs.lemmas.List.Concat.{flat_map-append}
use Rattle.std.proofs.lemmas.List.Elements.{All-take, All-drop}
use Rattle.cell_grid.specs.declared.cell.Cell.{Cell}
use Rattle.cell_grid.specs.Row.{IsWhole}
use Rattle.win_view.specs.Greedy.{IsHeld}
use Rattle.win_view.specs.Rows.{rows_of}
use Rattle.win_view.specs.Showing.{passed, shown_of}
use Rattle.win_view.proofs.LaidRows.{all-below, shown_of-full, spaces_kept, then_passed}
use Rattle.win_view.proofs.RowCounts.{lines_next}
use Rattle.win_view.proofs.WindowLaws.{held-lines, whole-more}
use Rattle.win_view.proofs.layings.Laying.show_lines.Goals as goal

pub returns-then-is_full-clause-passed : goal.returns-then-is_full-clause-passed
returns-then-is_full-clause-passed c =
    let loop = c.loop-line.invariant in
    let at = c.loop-line.line-index in
    let lines = c.args.lines.now in
    let rows_of_line = rows_of (length c.args.self.now.spaces.items) in
    let full = c.if-is_full.ensures.0 refl in
    then_passed (c.args.self.now, c.args.grid.now) (c.loop-line.self, c.loop-line.grid) (c.loop-line.self, c.loop-line.grid) (flat_map rows_of_line (take at lines)) (flat_map rows_of_line (drop at lines)) (flat_map rows_of_line lines)
    loop.passed (sym (all-below c.loop-line.self c.loop-line.grid (flat_map rows_of_line (drop at lines)) full.0 full.1))
    (sym (flat_map-append rows_of_line (take at lines) (drop at lines)) ∙ ap (flat_map rows_of_line) (take-append-drop at lines))

pub returns-then-is_full-clause-held : goal.returns-then-is_full-clause-held
returns-then-is_full-clause-held c =
    let loop = c.loop-line.invariant in
    let at = c.loop-line.line-index in
    let lines = c.args.lines.now in
    let self = c.args.self.now in
    let width = length self.spaces.items in
    let rows = flat_map (rows_of width) (take at lines) in
    let full = c.if-is_full.ensures.0 refl in
    let held : All (IsHeld width) (shown_of self self.above rows) =
    All-take (IsHeld width) _ _ (All-drop (IsHeld width) _ _ (held-lines width (take at lines) c.requires.room.some loop.whole))
    in
    subst (λ (shown : List (List Cell)). All (IsHeld width) shown)
    (sym (shown_of-full self c.loop-line.self c.args.grid.now c.loop-line.grid rows (flat_map (rows_of width) (drop at lines)) c.requires.room.within c.requires.room.below loop.passed full.0 full.1)
    ∙ ap (shown_of self self.above) (sym (flat_map-append (rows_of width) (take at lines) (drop at lines)) ∙ ap (flat_map (rows_of width)) (take-append-drop at lines)))
    held

pub loop-line-preserved : goal.loop-line-preserved
loop-line-preserved c =
    let loop = c.loop-line.invariant in
    let at = c.loop-line.line-index in
    let lines = c.args.lines.now in
    let start = c.args.self.now in
    let width = length start.spaces.items in
    let line = c.line-item.result in
    let cells = c.as_slice.result.now in
    let rows = flat_map (rows_of width) (take at lines) in
    let wide = ap length (spaces_kept start c.loop-line.self c.args.grid.now c.loop-line.grid rows c.requires.room.within c.requires.room.below loop.passed) in
    record {
      passed =
          then_passed (start, c.args.grid.now) (c.loop-line.self, c.loop-line.grid) (c.show_line.new.self, c.show_line.new.grid) rows (rows_of width cells) (flat_map (rows_of width) (take (at + 1) lines)) loop.passed
          (c.show_line.ensures.passed ∙ ap (λ (n : ℕ). fold passed (c.loop-line.self, c.loop-line.grid) (rows_of n cells)) wide)
          (ap (λ (those : List Cell). rows ++ rows_of width those) c.as_slice.ensures.value ∙ lines_next width at lines line c.loop-line-test.true c.line-item.is);
      whole = whole-more at lines line c.loop-line-test.true c.line-item.is loop.whole (subst IsWhole c.as_slice.ensures.value c.as_slice.ensures.whole);
      room = c.show_line.ensures.room;
      cols = c.show_line.ensures.cols ∙ loop.cols;
    }

pub returns-clause-passed : goal.returns-clause-passed
returns-clause-passed c =
    c.loop-line.invariant.passed
    ∙ ap (λ (lines : List (List Cell)). fold passed (c.args.self.now, c.args.grid.now) (flat_map (rows_of (length c.args.self.now.spaces.items)) lines))
    (take_all c.loop-line.line-index c.args.lines.now c.loop-line-test.false)

pub returns-clause-held : goal.returns-clause-held
returns-clause-held c =
    let width = length c.args.self.now.spaces.items in
    All-take (IsHeld width) _ _ (All-drop (IsHeld width) _ _ (held-lines width c.args.lines.now c.requires.room.some
    (subst (λ (lines : List (List Cell)). All IsWhole lines) (take_all c.loop-line.line-index c.args.lines.now c.loop-line-test.false) c.loop-line.invariant.whole)))
