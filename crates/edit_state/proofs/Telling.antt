-- When an answer tells what an effect did.
use Rattle.std.proofs.Common.{◌≡◌, ◌↔◌, Bool, true, false, arith}
use Rattle.edit_state.specs.declared.states.EditState.{EditState}
use Rattle.edit_state.specs.Answers.{done_of, Answers}

-- the answer of what rings no bell tells whether something differs
pub told : (changed : Bool) (before after : EditState) → ((changed ≡ false) ↔ (after ≡ before)) → Answers ⊥ (done_of changed) before after
told true before after tells = grind arith
told false before after tells = grind arith
