use Rattle.std.proofs.Common.{◌≡◌, ◌+◌, ◌-◌, ◌++◌, ◌∷◌, [], List, ℕ, min, length, sym, ap, ◌∙◌, arith, append_assoc, append-nil}
use Rattle.std.proofs.lemmas.List.{replicate_more}
use Rattle.cell_grid.specs.declared.cell.Cell.{Cell}
use Rattle.cell_grid.specs.Cell.{blank, spread}
use Rattle.cell_grid.specs.Row.{blank_row}
use Rattle.term_model.proofs.fitting.pad_row.Goals as goal

pub loop-init : goal.loop-init
loop-init c =
    let row = c.args.row.now in
    let none : min c.len-counter.result c.args.cols - length row ≡ 0 = omega (arith, c.len-counter.ensures) in
    sym (ap (λ (n : ℕ). row ++ blank_row n) none ∙ append-nil row)

pub loop-preserved : goal.loop-preserved
loop-preserved c =
    let row = c.args.row.now in
    let count = min c.loop.counter c.args.cols - length row in
    let next : count + 1 ≡ min (c.loop.counter + 1) c.args.cols - length row = omega (arith, c.len-counter.ensures) in
    c.in_ok-push.ensures.ok
    ∙ ap (λ (cell : Cell). c.loop.row ++ spread cell) c.blank.ensures
    ∙ ap (λ (cells : List Cell). cells ++ blank ∷ []) c.loop.invariant
    ∙ append_assoc row (blank_row count) (blank ∷ [])
    ∙ ap (λ cells. row ++ cells) (replicate_more count blank)
    ∙ ap (λ (n : ℕ). row ++ blank_row n) next

pub returns : goal.returns
returns c =
    let row = c.args.row.now in
    let all : min c.loop.counter c.args.cols ≡ c.args.cols = omega arith in
    c.loop.invariant ∙ ap (λ (n : ℕ). row ++ blank_row (n - length row)) all
