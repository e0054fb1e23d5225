use Rattle.std.proofs.Common.{◌-◌, ◌≤◌, ◌++◌, length, sym, ap, subst, ◌∙◌, arith}
use Rattle.text_doc.specs.Gap.{Gap}
use Rattle.text_doc.proofs.GapLemmas.{pushed}
use Rattle.text_doc.proofs.gap_buffers.GapBuffer.push.Goals as goal

pub returns : goal.returns
returns g c =
    let items = c.args.items.now in
    let P : Gap g.row.T.Denot → Type 0 = λ gap. length items ≤ gap.room in
    let room : length items ≤ c.self.inside.end - c.self.inside.start = subst P (sym c.self.view_is) c.requires in
    let Q : Gap g.row.T.Denot → Gap g.row.T.Denot = λ gap. record { front = gap.front ++ items; back = gap.back; room = gap.room - length items } in
    pushed c.self.inside.items.items c.overwrite.new.all.items items c.self.inside.start c.self.inside.end (omega arith) (omega arith) c.overwrite.ensures
    ∙ ap Q c.self.view_is
