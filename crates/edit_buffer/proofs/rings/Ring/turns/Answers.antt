-- A rotation changes the ring where a clip is not as the first one.
use Rattle.edit_buffer.proofs.Turning.{turns_not}
use Rattle.edit_buffer.proofs.rings.Ring.turns.Goals as goal

pub returns-in-Some : goal.returns-in-Some
returns-in-Some c =
    let t = turns_not c.self.inside.clips.items c.in-Some.first.now (cc (c.in-Some.ensures)) in
    rw (c.count_same.ensures, c.len.ensures.len, ← c.self.view_is) t
