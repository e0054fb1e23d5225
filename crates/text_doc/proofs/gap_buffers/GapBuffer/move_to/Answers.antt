use Rattle.std.proofs.Common.{take, drop, ap, ◌∙◌, arith}
use Rattle.text_doc.specs.Gap.{Gap, joined}
use Rattle.text_doc.proofs.GapLemmas.{moved_front, moved_back}
use Rattle.text_doc.proofs.gap_buffers.GapBuffer.move_to.Goals as goal

pub returns-else-at-self-clause-front : goal.returns-else-at-self-clause-front
returns-else-at-self-clause-front g c =
    moved_front c.self.inside.items.items c.shift_down.new.all.items c.self.inside.start c.self.inside.end c.args.at (omega arith) (omega arith) c.shift_down.ensures.front
    ∙ ap (λ (gap : Gap g.row.T.Denot). take c.args.at (joined gap)) c.self.view_is

pub returns-else-at-self-clause-back : goal.returns-else-at-self-clause-back
returns-else-at-self-clause-back g c =
    moved_back c.self.inside.items.items c.shift_down.new.all.items c.self.inside.start c.self.inside.end c.args.at (omega arith) (omega arith) c.shift_down.ensures.back
    ∙ ap (λ (gap : Gap g.row.T.Denot). drop c.args.at (joined gap)) c.self.view_is
