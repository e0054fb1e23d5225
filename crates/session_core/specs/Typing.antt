-- What keys change at once, and what happens where a binding of held keys fires.
use Rattle.std.specs.Prelude.{ℕ, zero, suc, Bool, true, false, ◌==◌, ◌||◌, List, length, drop, Option, None, Some, is_some, if◌then◌else◌}
use Rattle.key_names.specs.declared.key.KeyPress.{KeyPress}
use Rattle.key_proc.specs.declared.bindings.Save.{Save}
use Rattle.key_proc.specs.declared.bindings.Save.TheVariants.{Always, Never, UnlessRepeat}
use Rattle.key_proc.specs.declared.facts.Fact.{Fact}
use Rattle.key_proc.specs.declared.facts.Fact.TheVariants.{Emacs}
use Rattle.key_proc.specs.declared.held.Fired.{Fired}
use Rattle.key_proc.specs.declared.held.Fired.TheVariants.{Fire, Dropped, Wait, Nothing}
use Rattle.key_proc.specs.Facts.{is_same_fact}
use Rattle.key_proc.specs.Firing.{fires, taken}
use Rattle.edit_buffer.specs.Undo.{saved}
use Rattle.edit_state.specs.declared.commands.Command.{Command}
use Rattle.edit_state.specs.declared.states.Done.{Done}
use Rattle.edit_state.specs.declared.states.Done.TheVariants.{Changed, Same, Bell, StartComplete, Accept, Interrupt, EndOfFile}
use Rattle.edit_state.specs.declared.states.EditState.{EditState}
use Rattle.edit_state.specs.CommandNumbers.{command_of}
use Rattle.edit_state.specs.StateFacts.{holds_in}
use Rattle.edit_cmds.specs.EmacsTable.{emacs_table}
use Rattle.edit_cmds.specs.Running.{ran, answer_named}
use Rattle.session_core.specs.declared.outcomes.Outcome.{Outcome}
use Rattle.session_core.specs.declared.outcomes.Outcome.TheVariants as ends

-- what is edited, the keys that are held, and how the prompt ended if it has
pub record Typing : Type 0 where
  pub edit : EditState
  pub held : List KeyPress
  pub outcome : Option Outcome

-- ---- one command

-- the command that fired last was this one
abbrev pub is_repeat : Option ℕ → ℕ → Bool
is_repeat None number = false
is_repeat (Some previous) number = previous == number

-- whether text and cursor are kept for undo before a command
abbrev pub saves : Save → Option ℕ → ℕ → Bool
saves Always previous number = true
saves Never previous number = false
saves UnlessRepeat previous number = if is_repeat previous number then false else true

abbrev pub saved_for : Save → ℕ → EditState → EditState
saved_for save number e = if saves save e.previous number then record e { buffer = saved e.buffer } else e

-- how the prompt ends where a command answers so
abbrev pub ending_of : Done → List ℕ → Option Outcome
ending_of Changed text = None
ending_of Same text = None
ending_of Bell text = None
ending_of StartComplete text = None
ending_of Accept text = Some (ends.Accepted text)
ending_of Interrupt text = Some ends.Interrupted
ending_of EndOfFile text = Some ends.EndOfFile

abbrev pub ending_named : Option Done → List ℕ → Option Outcome
ending_named None text = None
ending_named (Some done) text = ending_of done text

-- what a command makes of what is edited, behind what is saved for it
abbrev pub edited_by : Option Command → Save → ℕ → KeyPress → EditState → EditState
edited_by None save number key e = e
edited_by (Some command) save number key e = ran command key (saved_for save number e)

-- and how it ends the prompt, if it does
abbrev pub ended_by : Option Command → Save → ℕ → KeyPress → EditState → Option Outcome
ended_by None save number key e = None
ended_by (Some command) save number key e =
    ending_named (answer_named command (saved_for save number e)) (ran command key (saved_for save number e)).buffer.doc.text

-- the command with this number was run on this key
unfoldable pub did : ℕ → Save → KeyPress → Typing → Typing
did number save key t = record t {
  edit = edited_by (command_of number) save number key t.edit;
  outcome = ended_by (command_of number) save number key t.edit;
}

-- ---- held keys

-- which facts hold: keys are read as Emacs reads them
abbrev pub facts_of : EditState → Fact → Bool
facts_of e fact = is_same_fact fact Emacs || holds_in e fact

-- what happens to the held keys
abbrev pub fired : Bool → Typing → Fired
fired flush t = fires emacs_table (facts_of t.edit) t.held flush

-- without the keys that an answer takes
abbrev pub without : Fired → Typing → Typing
without answer t = record t { held = drop (taken answer) t.held }

-- an answer is done, and then what follows on it; keys that wait are left alone
abbrev pub went : Fired → Typing → (Typing → Typing) → Typing
went (Fire command save last used) t rest = rest (did command save last (without (Fire command save last used) t))
went (Dropped press) t rest = rest (without (Dropped press) t)
went Wait t rest = t
went Nothing t rest = t

-- at most so many answers are done, until keys wait, none is held, or the prompt has ended
abbrev pub drained_times : ℕ → Bool → Typing → Typing
drained_times zero flush t = t
drained_times (suc n) flush t =
    if is_some t.outcome then t else went (fired flush t) t (λ next. drained_times n flush next)

-- all answers are done: each but the last takes a key
unfoldable pub drained : Bool → Typing → Typing
drained flush t = drained_times (length t.held) flush t
