use Rattle.key_proc.proofs.Presses.{keys-held}
use Rattle.key_proc.proofs.held.Held.keys.Goals as goal

pub returns : goal.returns
returns c =
    rw (c.key_or_any.ensures, c.key_or_any-2.ensures, c.key_or_any-3.ensures, ← c.self.view_is) (keys-held c.self.inside.first c.self.inside.second c.self.inside.third c.self.invariant)
