use Rattle.std.proofs.Common.{ℕ, List, ◌∙◌, ap, take, drop}
use Rattle.cell_grid.specs.declared.attrs.Attrs.{Attrs}
use Rattle.cell_grid.specs.declared.cell.Cell.{Cell}
use Rattle.cell_grid.specs.Attrs.{plain}
use Rattle.cell_grid.specs.TextCells.{with_chars}
use Rattle.text_rows.proofs.LineCells.{line_of_parts}
use Rattle.text_rows.proofs.lines.with_line.Goals as goal

pub returns : goal.returns
returns c =
    let looks = c.args.looks.now in
    let before = c.args.before.now in
    let line = c.args.line.now in
    let front = c.split_at.result.0.now in
    let back = c.split_at-2.result.1.now in
    let rest = c.split_at.result.1.now in
    line_of_parts looks c.args.from c.args.to before c.push_chars.new.self c.push_chars-2.new.self c.push_chars-3.new.self line _ _ _ _ c.requires
    (c.split_at.ensures.front ∙ ap (λ (n : ℕ). take n line) c.min.ensures) (c.split_at.ensures.back ∙ ap (λ (n : ℕ). drop n line) c.min.ensures)
    (c.split_at-2.ensures.front ∙ ap (λ (n : ℕ). take n rest) c.min-2.ensures) (c.split_at-2.ensures.back ∙ ap (λ (n : ℕ). drop n rest) c.min-2.ensures)
    (c.in_ok-push_chars.ensures ∙ ap (λ (attrs : Attrs). with_chars attrs looks.control c.in_ok-cells.cells front) c.plain.ensures ∙ ap (λ (cells : List Cell). with_chars plain looks.control cells front) c.in_ok-cells.ensures)
    c.in_ok-push_chars-2.ensures
    (c.in_ok-push_chars-3.ensures ∙ ap (λ (attrs : Attrs). with_chars attrs looks.control c.push_chars-2.new.self back) c.plain-2.ensures)
