-- What the answer of a command tells.
use Rattle.std.specs.Prelude.{◌≡◌, ◌≢◌, ◌↔◌, Bool, true, false}
use Rattle.edit_state.specs.declared.states.EditState.{EditState}
use Rattle.edit_state.specs.declared.states.Done.{Done}
use Rattle.edit_state.specs.declared.states.Done.TheVariants.{Changed, Same, Bell, StartComplete, Accept, Interrupt, EndOfFile}

-- the answer of what rings no bell
abbrev pub done_of : Bool → Done
done_of true = Changed
done_of false = Same

-- `Changed` is told exactly where something differs, and `Same` where nothing does
abbrev pub Tells : Done → EditState → EditState → Type 0
Tells Changed before after = after ≢ before
Tells Same before after = after ≡ before
Tells Bell before after = Unit {0}
Tells StartComplete before after = ⊥
Tells Accept before after = ⊥
Tells Interrupt before after = ⊥
Tells EndOfFile before after = ⊥

-- the bell rings exactly where it is to, and any other answer tells whether something differs
pub record Answers (rings : Type 0) (done : Done) (before after : EditState) : Type 0 where
  pub bell : (done ≡ Bell) ↔ rings
  pub tells : Tells done before after
