-- The second of several clips comes first, and a single one stays.
use Rattle.std.proofs.Common.{◌≡◌, sym, ◌∙◌, arith}
use Rattle.std.specs.Prelude.{slice_get}
use Rattle.edit_buffer.specs.Rings.{rotated}
use Rattle.edit_buffer.proofs.Turning.{second_of_many, second_of_one}
use Rattle.edit_buffer.proofs.rings.Ring.second.Goals as goal

pub returns-then-len-gt1 : goal.returns-then-len-gt1
returns-then-len-gt1 c =
    let clips = c.self.inside.clips.items in
    let e : slice_get (rotated c.args.self.now) 0 ≡ slice_get clips 1 = rw (← c.self.view_is) (second_of_many clips (omega arith)) in
    c.nth_front.ensures ∙ sym e

pub returns-else-len-gt1 : goal.returns-else-len-gt1
returns-else-len-gt1 c =
    let clips = c.self.inside.clips.items in
    let e : slice_get (rotated c.args.self.now) 0 ≡ slice_get clips 0 = rw (← c.self.view_is) (second_of_one clips (omega arith)) in
    c.front.ensures ∙ sym e
