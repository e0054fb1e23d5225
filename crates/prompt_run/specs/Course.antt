-- What a run of prompts has done to its outside: the frames that the screen took, the accepted lines, the entries that were kept, and
-- the requests that jobs were told of.
use Rattle.std.specs.Prelude.{◌≡◌, ◌<◌, ℕ, List, [], ◌∷◌, ◌++◌, length, Option}
use Rattle.std.specs.Io.KnownBytes.{Appends}
use Rattle.causes.specs.Chain.{Chain}
use Rattle.events.specs.Jobs.{Wanted}
use Rattle.events.specs.declared.events.Event.{Event}
use Rattle.prompt_settings.specs.Settings.{repeat_of}
use Rattle.session_core.specs.State.{State}
use Rattle.session_core.specs.Wishes.{wanted}
use Rattle.prompt_run.specs.Play.{Play, with_event}
use Rattle.prompt_run.specs.Run.{reopened}
use Rattle.prompt_run.specs.Showing.{Beginning, LeadOnEach, ShowOnEach}
use Rattle.prompt_run.specs.declared.runners.RunFault.{RunFault}
use Rattle.prompt_run.specs.declared.runners.RunFault.TheVariants.{Inbox, Screen, Keeper, NoMemory}
use Rattle.prompt_run.specs.declared.runners.Runner.{Runner}
use Rattle.prompt_run.specs.Wishes.{AreHeld, HoldWanted}

-- a part of a list, from its front on
abbrev pub IsFront : {A : Type 0} → List A → List A → Type 0
IsFront {A} part whole = (rest : List A) × (whole ≡ part ++ rest)

-- ---- from play to play

-- some events of a run, one after the other
abbrev pub with_events : Play → List Event → Play
with_events p [] = p
with_events p (event ∷ events) = with_events (with_event p event) events

-- some events lead from one play to the other
abbrev pub LeadsTo : Play → Play → Type 0
LeadsTo p q = (events : List Event) × (q ≡ with_events p events)

-- a play on the way from one play to another
pub record IsBetween (p q end : Play) : Type 0 where
  pub from : LeadsTo p q
  pub to : LeadsTo q end

-- ---- a run that goes on

-- what is around a run at a moment: the screen, the bytes on the keeper, and the requests that jobs hold
pub record Around (S : Type 0) : Type 0 where
  pub screen : S
  pub kept : Option (List ℕ)
  pub jobs : Option Wanted

abbrev pub around : {S : Type 0} → S → Option (List ℕ) → Option Wanted → Around S
around screen kept jobs = record { screen = screen; kept = kept; jobs = jobs }

-- at least one turn was made
abbrev pub HasTurned : Play → Type 0
HasTurned p = 0 < length p.events

-- the screen took one frame for each event of the play, and wherever the events begin they show the run, also where it is what
-- the next frame begins with
pub record HasShown {S : Type 0} (took : S → List ℕ → S → Type 0) (from : Beginning) (p : Play) (runner : Runner) (first now : S) : Type 0 where
  pub frames : List (List ℕ)
  pub taken : Chain took first frames now
  pub show : LeadOnEach from p.events frames runner.shown p.run.state

-- the runner came to this play, or from there to this state: the screen took the play's frames, and the keeper its entries; jobs hold all
-- that they were told, and of each kind the request that is wanted behind the last turn
pub record CameTo {S : Type 0} (took : S → List ℕ → S → Type 0) (from : Beginning) (runner : Runner) (s : State) (p : Play)
    (first now : Around S) : Type 0 where
  pub state : runner.session ≡ s
  pub repeat : runner.repeat ≡ repeat_of p.first.state.settings
  pub answers : runner.answers ≡ p.answers
  pub shown : HasShown took from p runner first.screen now.screen
  pub kept : Appends first.kept now.kept p.kept
  pub held : AreHeld runner.told now.jobs
  pub told : HasTurned p → HoldWanted now.jobs (wanted p.run.state)

-- the state in which the next event of a run finds it
abbrev pub reopened_state : Play → State
reopened_state p = (reopened p.run).state

abbrev pub present_state : Play → State
present_state p = p.run.state

-- wherever a run came to a play, and to the state `found` there, it now came from it to the play `next` of that one
abbrev pub GoesOn : {S : Type 0} → (S → List ℕ → S → Type 0) → (Play → State) → (Play → Play) → Runner → Around S → Runner → Around S → Type 0
GoesOn {S} took found next old before new now =
    (from : Beginning) (p : Play) (first : Around S) → CameTo took from old (found p) p first before
    → CameTo took from new (present_state (next p)) (next p) first now

-- ---- a run that stopped for a fault

-- what a fault leaves of the screen: one of its own missed one frame more, and at others nothing was given to it
abbrev pub LeavesScreen : {S : Type 0} → (S → List ℕ → S → Type 0) → RunFault → S → S → Type 0
LeavesScreen missed Screen old new = (frame : List ℕ) × missed old frame new
LeavesScreen missed Inbox old new = new ≡ old
LeavesScreen missed Keeper old new = new ≡ old
LeavesScreen missed NoMemory old new = new ≡ old

-- what it leaves of the accepted lines: all, but where there was no memory maybe some from the front
abbrev pub LeavesLines : RunFault → List (List ℕ) → List (List ℕ) → Type 0
LeavesLines NoMemory lines accepted = IsFront lines accepted
LeavesLines Inbox lines accepted = lines ≡ accepted
LeavesLines Screen lines accepted = lines ≡ accepted
LeavesLines Keeper lines accepted = lines ≡ accepted

-- some of the bytes, from the front on, were put behind those that were there
abbrev pub AppendsFront : Option (List ℕ) → Option (List ℕ) → List ℕ → Type 0
AppendsFront old new bytes = (part : List ℕ) × IsFront part bytes × Appends old new part

-- what it leaves of the keeper: all entries, but of the last one maybe a part where the keeper failed or there was no memory
abbrev pub LeavesKept : RunFault → Option (List ℕ) → Option (List ℕ) → List ℕ → Type 0
LeavesKept Inbox old new bytes = Appends old new bytes
LeavesKept Screen old new bytes = Appends old new bytes
LeavesKept Keeper old new bytes = AppendsFront old new bytes
LeavesKept NoMemory old new bytes = AppendsFront old new bytes

-- the screen took one frame for each of the events, and wherever these begin they show the run
pub record TookFrames {S : Type 0} (took : S → List ℕ → S → Type 0) (from : Beginning) (events : List Event) (first now : S) : Type 0 where
  pub frames : List (List ℕ)
  pub taken : Chain took first frames now
  pub show : ShowOnEach from events frames

-- a run stopped for a fault behind the events of this play. What jobs were told last is what is wanted behind its last turn, where
-- their own count of faults stands
pub record StoppedAt {S : Type 0} (took missed : S → List ℕ → S → Type 0) (from : Beginning) (fault : RunFault) (stands : Type 0)
    (answers : List (List ℕ)) (p : Play) (first now : Around S) : Type 0 where
  pub before : S
  pub frames : TookFrames took from p.events first.screen before
  pub screen : LeavesScreen missed fault before now.screen
  pub lines : LeavesLines fault answers p.answers
  pub kept : LeavesKept fault first.kept now.kept p.kept
  pub told : stands → HasTurned p → HoldWanted now.jobs (wanted p.run.state)

-- wherever a run came to a play, and to the state `found` there, it stopped for a fault on the way to the play `next` of that one
abbrev pub Stops : {S : Type 0} → (S → List ℕ → S → Type 0) → (S → List ℕ → S → Type 0) → (Play → State) → (Play → Play) → Runner → Around S
    → RunFault → Type 0 → Runner → Around S → Type 0
Stops {S} took missed found next old before fault stands new now =
    (from : Beginning) (p : Play) (first : Around S) → CameTo took from old (found p) p first before
    → (q : Play) × IsBetween p q (next p) × StoppedAt took missed from fault stands new.answers q first now
