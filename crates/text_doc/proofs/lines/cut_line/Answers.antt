use Rattle.std.proofs.Common.{◌≡◌, ◌+◌, ◌-◌, ◌∷◌, length, take, drop, ap, sym, ◌∙◌, arith, take_all, length-drop}
use Rattle.std.specs.List.{slice_split}
use Rattle.text_doc.proofs.LineCuts.{cut_at_feed}
use Rattle.text_doc.proofs.lines.cut_line.Goals as goal

pub returns-then-is_line_feed-clause-lines : goal.returns-then-is_line_feed-clause-lines
returns-then-is_line_feed-clause-lines g c =
    let ends = g.T.TextUnit.ends_line in
    let text = c.args.text.now in
    let at = c.loop-at.at in
    let d = c.index-text-at.result in
    let here = ap ends (sym c.index-text-at.is) ∙ sym c.is_line_feed.ensures ∙ c.if-is_line_feed.true in
    let rest : take (length text - (at + 1)) (drop (at + 1) text) ≡ drop (at + 1) text = take_all (length text - (at + 1)) (drop (at + 1) text) (omega (arith, length-drop (at + 1) text)) in
    cut_at_feed ends text d at (omega (arith, c.loop-at-test.true)) c.loop-at.invariant here ∙ ap (λ t. take at text ∷ slice_split ends t) (sym rest)
