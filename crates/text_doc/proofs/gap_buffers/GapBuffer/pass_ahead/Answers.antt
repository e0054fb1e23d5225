use Rattle.std.proofs.Common.{◌<◌, [], ◌∷◌, ◌++◌, length, drop, ap, sym, subst, ◌∙◌, arith, length-drop}
use Rattle.text_doc.specs.Gap.{Gap}
use Rattle.text_doc.proofs.GapLemmas.{passed_ahead}
use Rattle.text_doc.proofs.gap_buffers.GapBuffer.pass_ahead.Goals as goal

pub returns : goal.returns
returns g c =
    let xs = c.self.inside.items.items in
    let start = c.self.inside.start in
    let end = c.self.inside.end in
    let item = c.args.item in
    let P : Gap g.row.T.Denot → Type 0 = λ gap. 0 < length gap.back in
    let some : 0 < length (drop end xs) = subst P (sym c.self.view_is) c.requires in
    let Q : Gap g.row.T.Denot → Gap g.row.T.Denot = λ gap. record { front = gap.front ++ item ∷ []; back = drop 1 gap.back; room = gap.room } in
    passed_ahead xs item start end (omega arith) (omega (arith, length-drop end xs)) ∙ ap Q c.self.view_is
