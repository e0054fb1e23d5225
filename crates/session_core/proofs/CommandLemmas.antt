-- What is saved before a command keeps the place where a search began, and how a command ends the prompt is told by its answer.
use Rattle.std.proofs.Common.{◌≡◌, Bool, true, false, List, ℕ, refl, ap, if◌then◌else◌}
use Rattle.std.specs.Prelude.{Option, None, Some}
use Rattle.edit_state.specs.declared.states.Done.{Done}
use Rattle.edit_state.specs.declared.states.Done.TheVariants.{Changed, Same, Bell, StartComplete, Accept, Interrupt, EndOfFile}
use Rattle.edit_state.specs.declared.states.EditState.{EditState}
use Rattle.edit_state.specs.Answers.{Answers, Tells}
use Rattle.edit_state.specs.Searches.{HasOrigin}
use Rattle.edit_buffer.specs.Undo.{saved}
use Rattle.key_proc.specs.declared.bindings.Save.{Save}
use Rattle.edit_cmds.specs.Running.{AnswersAs}
use Rattle.session_core.specs.declared.outcomes.Outcome.{Outcome}
use Rattle.session_core.specs.Typing.{ending_named, ending_of, saved_for, saves}

pub saved_origin : (save : Save) (number : ℕ) (e : EditState) → HasOrigin e → HasOrigin (saved_for save number e)
saved_origin save number e has = by (saves save e.previous number)
  where
    by : (b : Bool) → HasOrigin (if b then record e { buffer = saved e.buffer } else e)
    by true = has
    by false = has

-- an answer that rings no bell and tells what differs ends nothing
ends_nothing : (done : Done) (before after : EditState) (text : List ℕ) → Tells done before after → ending_of done text ≡ None
ends_nothing Changed before after text tells = refl
ends_nothing Same before after text tells = refl
ends_nothing Bell before after text tells = refl
ends_nothing StartComplete before after text tells = absurd tells
ends_nothing Accept before after text tells = absurd tells
ends_nothing Interrupt before after text tells = absurd tells
ends_nothing EndOfFile before after text tells = absurd tells

pub ending_is : (named : Option Done) (rings : Type 0) (done : Done) (before after : EditState) (text : List ℕ)
    → AnswersAs named rings done before after → ending_of done text ≡ ending_named named text
ending_is None rings done before after text answers = ends_nothing done before after text answers.tells
ending_is (Some named) rings done before after text answers = ap (λ d. ending_of d text) answers
