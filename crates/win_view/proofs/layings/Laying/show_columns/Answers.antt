use Rattle.std.proofs.Common.{◌≡◌, ℕ, ◌+◌, ◌<◌, ◌++◌, [], ◌∷◌, List, length, take, drop, map, fold, refl, sym, ap, subst, ◌∙◌, take-append-drop, inl, inr, All}
use Rattle.std.proofs.lemmas.Bool.{cases_lt, false≢true}
use Rattle.std.proofs.lemmas.List.{map-append, map_more, take_all}
use Rattle.std.proofs.lemmas.List.Elements.{All-take}
use Rattle.cell_grid.specs.declared.cell.Cell.{Cell}
use Rattle.cell_grid.specs.Row.{IsWhole}
use Rattle.win_view.specs.declared.layings.Laying.{Laying}
use Rattle.win_view.specs.Greedy.{IsHeld}
use Rattle.win_view.specs.Showing.{passed, shown_of}
use Rattle.win_view.specs.Views.{columns_from}
use Rattle.win_view.proofs.LaidRows.{all-below, passed-inside, shown_of-full, spaces_kept, then_passed}
use Rattle.win_view.proofs.WindowLaws.{held-columns, whole-more}
use Rattle.win_view.proofs.layings.Laying.show_columns.Goals as goal

pub returns-then-is_full-clause-passed : goal.returns-then-is_full-clause-passed
returns-then-is_full-clause-passed c =
    let loop = c.loop-line.invariant in
    let at = c.loop-line.line-index in
    let lines = c.args.lines.now in
    let cut = columns_from c.args.across (length c.args.self.now.spaces.items) in
    let full = c.if-is_full.ensures.0 refl in
    then_passed (c.args.self.now, c.args.grid.now) (c.loop-line.self, c.loop-line.grid) (c.loop-line.self, c.loop-line.grid) (map cut (take at lines)) (map cut (drop at lines)) (map cut lines)
    loop.passed (sym (all-below c.loop-line.self c.loop-line.grid (map cut (drop at lines)) full.0 full.1))
    (sym (map-append cut (take at lines) (drop at lines)) ∙ ap (map cut) (take-append-drop at lines))

pub returns-then-is_full-clause-held : goal.returns-then-is_full-clause-held
returns-then-is_full-clause-held c =
    let loop = c.loop-line.invariant in
    let at = c.loop-line.line-index in
    let lines = c.args.lines.now in
    let self = c.args.self.now in
    let width = length self.spaces.items in
    let cut = columns_from c.args.across width in
    let rows = map cut (take at lines) in
    let full = c.if-is_full.ensures.0 refl in
    let held : All (IsHeld width) (shown_of self 0 rows) = All-take (IsHeld width) _ _ (held-columns c.args.across width (take at lines) loop.whole) in
    let all : shown_of self self.above (rows ++ map cut (drop at lines)) ≡ shown_of self self.above rows =
    shown_of-full self c.loop-line.self c.args.grid.now c.loop-line.grid rows (map cut (drop at lines)) c.requires.room.within c.requires.room.below loop.passed full.0 full.1
    in
    subst (λ (shown : List (List Cell)). All (IsHeld width) shown)
    (sym (subst (λ (above : ℕ). shown_of self above (rows ++ map cut (drop at lines)) ≡ shown_of self above rows) c.requires.inside all)
    ∙ ap (shown_of self 0) (sym (map-append cut (take at lines) (drop at lines)) ∙ ap (map cut) (take-append-drop at lines)))
    held

pub loop-line-preserved : goal.loop-line-preserved
loop-line-preserved c =
    let loop = c.loop-line.invariant in
    let at = c.loop-line.line-index in
    let lines = c.args.lines.now in
    let start = c.args.self.now in
    let across = c.args.across in
    let width = length start.spaces.items in
    let line = c.line-item.result in
    let cells = c.as_slice.result.now in
    let rows = map (columns_from across width) (take at lines) in
    let self = c.loop-line.self in
    let grid = c.loop-line.grid in
    let wide = ap length (spaces_kept start self c.args.grid.now grid rows c.requires.room.within c.requires.room.below loop.passed) in
    let cut = columns_from across (length self.spaces.items) cells in
    let inside : self.row < self.end = elim (cases_lt self.row self.end) [ inl inside ↦ inside | inr full ↦ absurd (false≢true (c.if-is_full.ensures.1 (loop.inside, full))) ] in
    let come : (c.show_cut.new.self, c.show_cut.new.grid) ≡ fold passed (self, grid) (cut ∷ []) =
    (λ i. (c.show_cut.ensures.laying i, c.show_cut.ensures.laid i)) ∙ sym (passed-inside self grid cut loop.inside inside)
    in
    record {
      passed =
          then_passed (start, c.args.grid.now) (self, grid) (c.show_cut.new.self, c.show_cut.new.grid) rows (columns_from across width cells ∷ []) (map (columns_from across width) (take (at + 1) lines)) loop.passed
          (come ∙ ap (λ (n : ℕ). fold passed (self, grid) (columns_from across n cells ∷ [])) wide)
          (ap (λ (those : List Cell). rows ++ columns_from across width those ∷ []) (c.as_slice.ensures.value ∙ c.line-item.is)
          ∙ sym (map_more (columns_from across width) lines at line c.loop-line-test.true));
      whole = whole-more at lines line c.loop-line-test.true c.line-item.is loop.whole (subst IsWhole c.as_slice.ensures.value c.as_slice.ensures.whole);
      inside = ap (λ (l : Laying). l.above) c.show_cut.ensures.laying ∙ loop.inside;
      room = c.show_cut.ensures.room;
      cols = c.show_cut.ensures.cols ∙ loop.cols;
    }

pub returns-clause-passed : goal.returns-clause-passed
returns-clause-passed c =
    c.loop-line.invariant.passed
    ∙ ap (λ (lines : List (List Cell)). fold passed (c.args.self.now, c.args.grid.now) (map (columns_from c.args.across (length c.args.self.now.spaces.items)) lines))
    (take_all c.loop-line.line-index c.args.lines.now c.loop-line-test.false)

pub returns-clause-held : goal.returns-clause-held
returns-clause-held c =
    let width = length c.args.self.now.spaces.items in
    All-take (IsHeld width) _ _ (held-columns c.args.across width c.args.lines.now
    (subst (λ (lines : List (List Cell)). All IsWhole lines) (take_all c.loop-line.line-index c.args.lines.now c.loop-line-test.false) c.loop-line.invariant.whole))
