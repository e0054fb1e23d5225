-- What prompts do to their outside, by the events that their inbox gives: up to the end of their run, or to its first fault.
use Rattle.std.specs.Prelude.{◌≡◌, ◌⊎◌, ℕ, Bool, true, false, List, [], ◌∷◌, Option, None, Some, Result, Ok, Err, flat_map}
use Rattle.std.specs.Io.KnownBytes.{Appends}
use Rattle.std.specs.Option.{ForSome}
use Rattle.causes.specs.Chain.{Chain}
use Rattle.command_words.specs.Asked.{AskedFor}
use Rattle.diff_render.specs.declared.shown.OnScreen.TheVariants.{Nothing}
use Rattle.events.specs.declared.events.Event.{Event}
use Rattle.events.specs.declared.events.Event.TheVariants.{Start}
use Rattle.events.specs.declared.inboxes.InboxFault.{InboxFault}
use Rattle.line_history.specs.History.{entries_of}
use Rattle.ports.specs.Entries.{Entries, after_entry}
use Rattle.ports.specs.declared.ttys.Entered.{Entered}
use Rattle.prompt_settings.specs.Settings.{repeat_of}
use Rattle.session_core.specs.State.{State, has_ended, opened}
use Rattle.session_core.specs.Wishes.{wanted}
use Rattle.prompt_run.specs.Course.{AppendsFront, Around, IsBetween, StoppedAt, TookFrames}
use Rattle.prompt_run.specs.Play.{Play, done, waiting_in}
use Rattle.prompt_run.specs.Runs.{first_status, line_row}
use Rattle.prompt_run.specs.Script.{status_of}
use Rattle.prompt_run.specs.Showing.{anew}
use Rattle.prompt_run.specs.declared.runners.RunFault.{RunFault}
use Rattle.prompt_run.specs.Wishes.{HoldWanted}
use Rattle.prompt_run.specs.declared.runners.Runner.{Runner}

-- ---- the run over the events of an inbox

-- the events among the answers of an inbox
abbrev pub given_in : List (Result Event InboxFault) → List Event
given_in [] = []
given_in (Ok event ∷ answers) = event ∷ given_in answers
given_in (Err fault ∷ answers) = given_in answers

-- some events of an inbox, one after the other, with the prompts that follow each
abbrev pub done_all : Play → List Event → Play
done_all p [] = p
done_all p (event ∷ events) = done_all (done p event) events

-- the run that begins in this state, behind the first prompt's beginning and some events of an inbox
abbrev pub run_over : State → List Event → Play
run_over s events = done_all (done (waiting_in s) Start) events

-- the inbox was asked for each of these answers by a run that had not ended
abbrev pub IsAskedWhileGoing : Play → List (Result Event InboxFault) → Type 0
IsAskedWhileGoing p [] = Unit {0}
IsAskedWhileGoing p (Ok event ∷ answers) = (has_ended p.run.state ≡ false) × IsAskedWhileGoing (done p event) answers
IsAskedWhileGoing p (Err fault ∷ answers) = (has_ended p.run.state ≡ false) × IsAskedWhileGoing p answers

-- a run that began in this state ended without a fault: on each terminal of the size at its beginning the frames that the screen took, one for each of its
-- events, show it; lines, entries and status are those of the run, and jobs were told what it wants
pub record RanThrough {S : Type 0} (took : S → List ℕ → S → Type 0) (s : State) (p : Play) (first now : Around S) (answers : List (List ℕ))
    (number : ℕ) : Type 0 where
  pub ended : has_ended p.run.state ≡ true
  pub status : number ≡ status_of p.run.state.outcome
  pub frames : TookFrames took (anew s) p.events first.screen now.screen
  pub lines : answers ≡ p.answers
  pub kept : Appends first.kept now.kept p.kept
  pub told : HoldWanted now.jobs (wanted p.run.state)

-- a run ended, or it stopped for a fault on the way
abbrev pub EndsAt : {S : Type 0} → (S → List ℕ → S → Type 0) → (S → List ℕ → S → Type 0) → Type 0 → Play → Play → Around S → Around S
    → List (List ℕ) → Result ℕ RunFault → Type 0
EndsAt took missed stands p whole first now lines (Ok status) = RanThrough took p.first.state whole first now lines status
EndsAt took missed stands p whole first now lines (Err fault) =
    (q : Play) × IsBetween p q whole × StoppedAt took missed (anew p.first.state) fault stands lines q first now

-- a run that begins in this state took events of the inbox until it ended or stopped
pub record RanOver {I S : Type 0} (hears : I → Result Event InboxFault → I → Type 0) (took missed : S → List ℕ → S → Type 0) (stands : Type 0) (s : State)
    (inbox_first inbox : I) (first now : Around S) (lines : List (List ℕ)) (end : Result ℕ RunFault) : Type 0 where
  pub answers : List (Result Event InboxFault)
  pub heard : Chain hears inbox_first answers inbox
  pub asked : IsAskedWhileGoing (done (waiting_in s) Start) answers
  pub ends : EndsAt took missed stands (waiting_in s) (run_over s (given_in answers)) first now lines end

-- a runner that has done no event
pub record IsBegun (runner : Runner) : Type 0 where
  pub shown : runner.shown ≡ Nothing
  pub repeat : runner.repeat ≡ repeat_of runner.session.settings
  pub answers : runner.answers ≡ []
  pub going : has_ended runner.session ≡ false
  pub told : (runner.told.complete ≡ None) × (runner.told.suggest ≡ None) × (runner.told.check ≡ None)

-- ---- from the words to the status

-- the lines were put, or a part of them from the front
abbrev pub PutsLines : Option (List ℕ) → Option (List ℕ) → List (List ℕ) → Result (Unit {0}) ℕ → Type 0
PutsLines old new lines (Ok done) = Appends old new (flat_map line_row lines)
PutsLines old new lines (Err status) = ((status ≡ 5) ⊎ (status ≡ 8)) × AppendsFront old new (flat_map line_row lines)

-- the terminal was entered: what a run then did, whether the terminal could not be left, how the lines were put, and the status of the
-- first of these that failed
pub record RunsPrompts {I S : Type 0} (heard : I → Result Event InboxFault → I → Type 0) (took missed : S → List ℕ → S → Type 0) (stands : Type 0)
    (asked : AskedFor) (entries_first entries : Entries) (inbox_first inbox : I) (first now : Around S) (taken_first taken : Option (List ℕ)) (status : ℕ)
    : Type 0 where
  pub bytes : List ℕ
  pub loaded : ForSome first.kept (λ told. bytes ≡ told)
  pub entered : Entered
  pub entry : entries ≡ after_entry entries_first entered
  pub lines : List (List ℕ)
  pub end : Result ℕ RunFault
  pub ran : RanOver heard took missed stands (opened asked.settings (entries_of bytes) entered.size entered.moment) inbox_first inbox first now lines end
  pub raw : Bool
  pub put : Result (Unit {0}) ℕ
  pub puts : PutsLines taken_first taken lines put
  pub is_first : status ≡ first_status end raw put

-- no prompt began: the history was not loaded, or the terminal not entered, and no object took or gave anything
pub record NoPrompt {I S : Type 0} (entries_first entries_now : Entries) (inbox_first inbox_now : I) (first now : Around S)
    (taken_first taken_now : Option (List ℕ)) (number : ℕ) : Type 0 where
  pub status : (number ≡ 6) ⊎ (number ≡ 7) ⊎ (number ≡ 8)
  pub entries : entries_now ≡ entries_first
  pub inbox : inbox_now ≡ inbox_first
  pub around : now ≡ first
  pub taken : taken_now ≡ taken_first

-- what words of the command do
abbrev pub Prompts : {I S : Type 0} → (I → Result Event InboxFault → I → Type 0) → (S → List ℕ → S → Type 0) → (S → List ℕ → S → Type 0) → Type 0
    → Option AskedFor → Entries → Entries → I → I → Around S → Around S → Option (List ℕ) → Option (List ℕ) → ℕ → Type 0
Prompts heard took missed stands None entries_first entries inbox_first inbox first now taken_first taken status = Unit {0}
Prompts heard took missed stands (Some asked) entries_first entries inbox_first inbox first now taken_first taken status =
    NoPrompt entries_first entries inbox_first inbox first now taken_first taken status
    ⊎ RunsPrompts heard took missed stands asked entries_first entries inbox_first inbox first now taken_first taken status
