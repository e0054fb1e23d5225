-- How a run over an outside comes from play to play, and where it stops.
use Rattle.std.proofs.Common.{◌≡◌, ℕ, ◌+◌, ◌-◌, ◌<◌, zero, suc, Bool, true, false, List, [], ◌∷◌, ◌++◌, length, drop, is_some, Option, if◌then◌else◌, refl, ap, sym, ◌∙◌, subst, arith, append-nil, append_assoc}
use Rattle.std.proofs.KnownBytes.{Appends-nil, Appends-trans}
use Rattle.std.specs.Io.{StartsWith}
use Rattle.std.specs.Io.KnownBytes.{Appends}
use Rattle.std.proofs.lemmas.List.{take-append-drop}
use Rattle.causes.specs.Chain.{Chain}
use Rattle.cell_grid.specs.Size.{IsScreen}
use Rattle.diff_render.specs.Frames.{screen_after}
use Rattle.events.specs.Jobs.{Wanted}
use Rattle.events.specs.declared.events.Event.{Event}
use Rattle.events.specs.declared.events.Event.TheVariants.{Start}
use Rattle.prompt_settings.specs.Settings.{repeat_of}
use Rattle.session_core.specs.Draw.{draw}
use Rattle.session_core.specs.Next.{again, is_accepted, next}
use Rattle.session_core.specs.State.{State, has_ended}
use Rattle.session_core.specs.Wishes.{wanted}
use Rattle.term_model.specs.Obeying.{obeyed_bytes}
use Rattle.term_model.specs.Term.{Term}
use Rattle.prompt_run.specs.Course.{AppendsFront, Around, CameTo, GoesOn, HasShown, HasTurned, IsFront, LeadsTo, LeavesKept, LeavesLines, LeavesScreen, StoppedAt, Stops, around, present_state, reopened_state, with_events}
use Rattle.prompt_run.specs.FramesShown.{FramesShow, obeying}
use Rattle.prompt_run.specs.Play.{Play, accepted, done, done_by, followed, lines_left, new_entry, with_event}
use Rattle.prompt_run.specs.Run.{Run, ran_on, reopened, shown_at, terminal_at}
use Rattle.prompt_run.specs.Showing.{Beginning, LeadOnEach, ShowOnEach, ShowsRun}
use Rattle.prompt_run.specs.Turn.{GivesState, ShowsState}
use Rattle.prompt_run.specs.Wishes.{AreHeld, HoldWanted}
use Rattle.prompt_run.specs.declared.runners.RunFault.{RunFault}
use Rattle.prompt_run.specs.declared.runners.RunFault.TheVariants.{Inbox, Screen, Keeper, NoMemory}
use Rattle.prompt_run.specs.declared.runners.Runner.{Runner}
use Rattle.prompt_run.proofs.PlayLemmas.{followed_more, followed_none, frames-more}
use Rattle.prompt_run.proofs.RunLemmas.{reopened_accepted, reopened_going, same_reopened, shows_event, shows_reopened, sized_keeps}

-- ---- from play to play

with_events-append : (p : Play) (first second : List Event) → with_events p (first ++ second) ≡ with_events (with_events p first) second
with_events-append p [] second = refl
with_events-append p (event ∷ first) second = with_events-append (with_event p event) first second

pub leads_nowhere : (p : Play) → LeadsTo p p
leads_nowhere p = ([], refl)

pub leads_once : (p : Play) (event : Event) → LeadsTo p (with_event p event)
leads_once p event = (event ∷ [], refl)

pub leads_on : (p q r : Play) → LeadsTo p q → LeadsTo q r → LeadsTo p r
leads_on p q r one two =
    (one.0 ++ two.0, two.1 ∙ ap (λ x. with_events x two.0) one.1 ∙ sym (with_events-append p one.0 two.0))

pub leads_same : (p q r : Play) → LeadsTo p q → q ≡ r → LeadsTo p r
leads_same p q r leads same = (leads.0, sym same ∙ leads.1)

-- the prompts that follow are events of the run
pub leads_followed : (left : ℕ) (p : Play) → LeadsTo p (followed left p)
leads_followed zero p = ([], refl)
leads_followed (suc more) p = by (is_accepted p.run.state.outcome) (leads_followed more (with_event p Start))
  where
    by : (b : Bool) → LeadsTo (with_event p Start) (followed more (with_event p Start)) → LeadsTo p (if b then followed more (with_event p Start) else p)
    by true rest = (Start ∷ rest.0, rest.1)
    by false rest = ([], refl)

-- an event of a prompt that goes on is one of the run
pub done_on : (p : Play) (event : Event) → has_ended p.run.state ≡ false
    → followed (lines_left (with_event p event)) (with_event p event) ≡ done p event
done_on p event on = ap (λ b. done_by b p event) (sym on)

pub leads_done : (p : Play) (event : Event) → has_ended p.run.state ≡ false → LeadsTo (with_event p event) (done p event)
leads_done p event on =
    leads_same (with_event p event) _ (done p event) (leads_followed (lines_left (with_event p event)) (with_event p event)) (done_on p event on)

-- the events so far, and those that led on
pub events_behind : (p : Play) (events : List Event) → (with_events p events).events ≡ p.events ++ events
events_behind p [] = sym (append-nil p.events)
events_behind p (event ∷ events) = events_behind (with_event p event) events ∙ append_assoc p.events (event ∷ []) events

-- behind an event at least one turn was made
pub turned_behind : (p q : Play) (event : Event) → LeadsTo (with_event p event) q → HasTurned q
turned_behind p q event leads =
    let all : q.events ≡ p.events ++ event ∷ leads.0 =
    ap (λ (x : Play). x.events) leads.1 ∙ events_behind (with_event p event) leads.0 ∙ append_assoc p.events (event ∷ []) leads.0 in
    subst (λ (events : List Event). 0 < length events) (sym all) (some_more p.events event leads.0)
  where
    some_more : (before : List Event) (event : Event) (behind : List Event) → 0 < length (before ++ event ∷ behind)
    some_more [] event behind = omega arith
    some_more (first ∷ before) event behind = omega arith

-- ---- frames

pub chain_more : {S A : Type 0} (took : S → A → S → Type 0) (first : S) (things : List A) (before : S) (thing : A) (now : S)
    → Chain took first things before → took before thing now → Chain took first (things ++ thing ∷ []) now
chain_more took first [] before thing now chain step = (now, subst (λ s. took s thing now) chain step, refl)
chain_more took first (one ∷ things) before thing now chain step =
    (chain.0, chain.1, chain_more took chain.0 things before thing now chain.2 step)

-- what a turn did to a runner and its screen
pub record DidTurn {S : Type 0} (took : S → List ℕ → S → Type 0) (event : Event) (old new : Runner) (before now : S) : Type 0 where
  pub going : has_ended old.session ≡ false
  pub state : new.session ≡ next old.session event
  pub size : IsScreen new.session.size.rows new.session.size.cols
  pub gives : GivesState took before now old.session.size old.shown new.session
  pub shown : new.shown ≡ screen_after (is_some new.session.outcome) (draw new.session) new.session.size

-- the terminal that showed the run shows it behind the event
pub record ShowsOn (p : Play) (event : Event) (told : Runner) (t : Term) (r : Run) (frames : List (List ℕ)) : Type 0 where
  pub end : Term
  pub last : Run
  pub show : FramesShow t r (p.events ++ event ∷ []) frames end last
  pub shows : ShowsRun told.shown end last
  pub same : last.state ≡ next (reopened_state p) event

shows_on : {S : Type 0} (took : S → List ℕ → S → Type 0) (p : Play) (event : Event) (old new : Runner) (before now : S) (frames : List (List ℕ))
    → old.session ≡ reopened_state p → (did : DidTurn took event old new before now) → (t : Term) (first : Run) (end : Term) (last : Run)
    → FramesShow t first p.events frames end last → ShowsRun old.shown end last → last.state ≡ p.run.state
    → ShowsOn p event new t first (frames ++ did.gives.0 ∷ [])
shows_on took p event old new before now frames found did t first end last show shows same =
    let r : Run = reopened last in
    let frame : List ℕ = did.gives.0 in
    let met : r.state ≡ reopened_state p = same_reopened last p.run same in
    let here : old.session ≡ r.state = found ∙ sym met in
    let S : State = next r.state event in
    let is : new.session ≡ S = did.state ∙ ap (λ s. next s event) here in
    let u : Term = terminal_at r.state.size S.size end in
    let size : IsScreen S.size.rows S.size.cols = subst (λ (s : State). IsScreen s.size.rows s.size.cols) is did.size in
    let drawn : ShowsState (shown_at r.state.size S.size old.shown) S frame =
    subst (λ (s : State). ShowsState (shown_at r.state.size s.size old.shown) s frame) is
    (subst (λ (s : State). ShowsState (shown_at s.size new.session.size old.shown) new.session frame) here did.gives.2) in
    let kept : new.shown ≡ screen_after (is_some S.outcome) (draw S) S.size = did.shown ∙ ap (λ (s : State). screen_after (is_some s.outcome) (draw s) s.size) is in
    let on : ShowsRun new.shown (obeyed_bytes u frame) (ran_on last event) =
    shows_event r event old.shown new.shown end frame (shows_reopened old.shown end last shows) (ap has_ended (sym here) ∙ did.going)
    (sized_keeps r.state.size S.size end size shows.terminal) size.0 drawn kept in
    record {
      end = obeying end last event frame;
      last = ran_on last event;
      show = frames-more t first p.events frames end last event frame show drawn.ends on.agrees;
      shows = on;
      same = ap (λ s. next s event) met;
    }

-- so one frame more was taken and shown
pub shown_more : {S : Type 0} (took : S → List ℕ → S → Type 0) (from : Beginning) (p : Play) (event : Event) (old new : Runner) (first before now : S)
    → HasShown took from p old first before → old.session ≡ reopened_state p → DidTurn took event old new before now
    → HasShown took from (with_event p event) new first now
shown_more took from p event old new first before now had found did = record {
  frames = had.frames ++ did.gives.0 ∷ [];
  taken = chain_more took first had.frames before did.gives.0 now had.taken did.gives.1;
  show = λ t r here.
      let was = had.show t r here in
      let on = shows_on took p event old new before now had.frames found did t r was.0 was.1 was.2 was.3 was.4 in
      (on.end, on.last, on.show, on.shows, on.same);
}

-- ---- a run that goes on

-- what an event did to a runner and what is around it
pub record DidEvent {S : Type 0} (took : S → List ℕ → S → Type 0) (event : Event) (old new : Runner) (before now : Around S) : Type 0 where
  pub turn : DidTurn took event old new before.screen now.screen
  pub repeat : new.repeat ≡ old.repeat
  pub answers : new.answers ≡ old.answers ++ accepted new.session.outcome
  pub kept : Appends before.kept now.kept (new_entry new.session)
  pub held : AreHeld old.told before.jobs → AreHeld new.told now.jobs
  pub told : AreHeld old.told before.jobs → HoldWanted now.jobs (wanted new.session)

pub came_more : {S : Type 0} (took : S → List ℕ → S → Type 0) (event : Event) (old new : Runner) (before now : Around S)
    → DidEvent took event old new before now → GoesOn took reopened_state (λ p. with_event p event) old before new now
came_more took event old new before now did = λ from p first came.
    let is : new.session ≡ next (reopened_state p) event = did.turn.state ∙ ap (λ s. next s event) came.state in
    record {
      state = is;
      repeat = did.repeat ∙ came.repeat;
      answers = did.answers ∙ ap (λ lines. lines ++ accepted new.session.outcome) came.answers ∙ ap (λ (s : State). p.answers ++ accepted s.outcome) is;
      shown = shown_more took from p event old new first.screen before.screen now.screen came.shown came.state did.turn;
      kept = subst (λ (s : State). Appends first.kept now.kept (p.kept ++ new_entry s)) is
          (Appends-trans first.kept before.kept now.kept p.kept (new_entry new.session) came.kept did.kept);
      held = did.held came.held;
      told = λ turned. subst (λ (s : State). HoldWanted now.jobs (wanted s)) is (did.told came.held);
    }

-- the next event finds a prompt that goes on as it is
pub came_going : {S : Type 0} (took : S → List ℕ → S → Type 0) (from : Beginning) (p : Play) (runner : Runner) (first now : Around S)
    → CameTo took from runner (present_state p) p first now → has_ended runner.session ≡ false → CameTo took from runner (reopened_state p) p first now
came_going took from p runner first now came on =
    let same : reopened_state p ≡ present_state p = reopened_going p.run (ap has_ended (sym came.state) ∙ on) in
    subst (λ s. CameTo took from runner s p first now) (sym same) came

-- the next prompt was opened, and all else is as before
pub record GoesAgain (old new : Runner) : Type 0 where
  pub state : new.session ≡ again old.session
  pub shown : new.shown ≡ old.shown
  pub repeat : new.repeat ≡ old.repeat
  pub answers : new.answers ≡ old.answers
  pub told : new.told ≡ old.told

-- and behind an accepted text it finds the next prompt
pub came_again : {S : Type 0} (took : S → List ℕ → S → Type 0) (from : Beginning) (p : Play) (old new : Runner) (first now : Around S)
    → CameTo took from old (present_state p) p first now → is_accepted old.session.outcome ≡ true → GoesAgain old new
    → CameTo took from new (reopened_state p) p first now
came_again took from p old new first now came is goes =
    let accepts : is_accepted p.run.state.outcome ≡ true = ap (λ (s : State). is_accepted s.outcome) (sym came.state) ∙ is in
    record {
      state = goes.state ∙ ap again came.state ∙ sym (reopened_accepted p.run accepts);
      repeat = goes.repeat ∙ came.repeat;
      answers = goes.answers ∙ came.answers;
      shown = record {
        frames = came.shown.frames;
        taken = came.shown.taken;
        show = subst (λ x. LeadOnEach from p.events came.shown.frames x p.run.state) (sym goes.shown) came.shown.show;
      };
      kept = came.kept;
      held = subst (λ told. AreHeld told now.jobs) (sym goes.told) came.held;
      told = came.told;
    }

-- ---- a run that stops

pub lines_whole : (fault : RunFault) (lines accepted : List (List ℕ)) → lines ≡ accepted → LeavesLines fault lines accepted
lines_whole Inbox lines accepted same = same
lines_whole Screen lines accepted same = same
lines_whole Keeper lines accepted same = same
lines_whole NoMemory lines accepted same = ([], sym same ∙ sym (append-nil lines))

pub kept_whole : (fault : RunFault) (old new : Option (List ℕ)) (bytes : List ℕ) → Appends old new bytes → LeavesKept fault old new bytes
kept_whole Inbox old new bytes all = all
kept_whole Screen old new bytes all = all
kept_whole Keeper old new bytes all = (bytes, ([], sym (append-nil bytes)), all)
kept_whole NoMemory old new bytes all = (bytes, ([], sym (append-nil bytes)), all)

front_more : (first before now : Option (List ℕ)) (bytes more : List ℕ) → Appends first before bytes → AppendsFront before now more
    → AppendsFront first now (bytes ++ more)
front_more first before now bytes more all front = (
  bytes ++ front.0,
  (front.1.0, ap (λ xs. bytes ++ xs) front.1.1 ∙ sym (append_assoc bytes front.0 front.1.0)),
  Appends-trans first before now bytes front.0 all front.2,
)

kept_more : (fault : RunFault) (first before now : Option (List ℕ)) (bytes more : List ℕ) → Appends first before bytes → LeavesKept fault before now more
    → LeavesKept fault first now (bytes ++ more)
kept_more Inbox first before now bytes more all rest = Appends-trans first before now bytes more all rest
kept_more Screen first before now bytes more all rest = Appends-trans first before now bytes more all rest
kept_more Keeper first before now bytes more all rest = front_more first before now bytes more all rest
kept_more NoMemory first before now bytes more all rest = front_more first before now bytes more all rest

pub shown_to : {S : Type 0} (took : S → List ℕ → S → Type 0) (from : Beginning) (p : Play) (runner : Runner) (first now : S)
    (had : HasShown took from p runner first now) → ShowOnEach from p.events had.frames
shown_to took from p runner first now had = λ t r here. let was = had.show t r here in (was.0, was.1, was.2)

-- at a play, where nothing of a further event was kept
pub stopped_there : {S : Type 0} (took missed : S → List ℕ → S → Type 0) (from : Beginning) (fault : RunFault) (stands : Type 0) (p : Play)
    (runner : Runner) (s : State) (lines : List (List ℕ)) (first before now : Around S) → CameTo took from runner s p first before
    → LeavesScreen missed fault before.screen now.screen → now.kept ≡ before.kept → now.jobs ≡ before.jobs → lines ≡ runner.answers
    → StoppedAt took missed from fault stands lines p first now
stopped_there took missed from fault stands p runner s lines first before now came leaves kept jobs same = record {
  before = before.screen;
  frames = record {
    frames = came.shown.frames;
    taken = came.shown.taken;
    show = shown_to took from p runner first.screen before.screen came.shown;
  };
  screen = leaves;
  lines = lines_whole fault lines p.answers (same ∙ came.answers);
  kept = kept_whole fault first.kept now.kept p.kept (subst (λ x. Appends first.kept x p.kept) (sym kept) came.kept);
  told = λ still turned. subst (λ x. HoldWanted x (wanted p.run.state)) (sym jobs) (came.told turned);
}

-- what a turn did, and what followed it up to a fault
pub record StopsBehind {S : Type 0} (took missed : S → List ℕ → S → Type 0) (event : Event) (fault : RunFault) (stands : Type 0) (old new : Runner)
    (left : List (List ℕ)) (before now : Around S) : Type 0 where
  pub turn : DidTurn took event old new before.screen now.screen
  pub screen : LeavesScreen missed fault now.screen now.screen
  pub lines : LeavesLines fault left (old.answers ++ accepted new.session.outcome)
  pub kept : LeavesKept fault before.kept now.kept (new_entry new.session)
  pub told : stands → AreHeld old.told before.jobs → HoldWanted now.jobs (wanted new.session)

-- behind the turn of an event
stopped_behind : {S : Type 0} (took missed : S → List ℕ → S → Type 0) (from : Beginning) (fault : RunFault) (stands : Type 0) (p : Play)
    (event : Event) (old new : Runner) (lines : List (List ℕ)) (first before now : Around S) → CameTo took from old (reopened_state p) p first before
    → StopsBehind took missed event fault stands old new lines before now → StoppedAt took missed from fault stands lines (with_event p event) first now
stopped_behind took missed from fault stands p event old new lines first before now came did =
    let is : new.session ≡ next (reopened_state p) event = did.turn.state ∙ ap (λ s. next s event) came.state in
    let had : HasShown took from (with_event p event) new first.screen now.screen =
    shown_more took from p event old new first.screen before.screen now.screen came.shown came.state did.turn in
    let all : old.answers ++ accepted new.session.outcome ≡ (with_event p event).answers =
    ap (λ xs. xs ++ accepted new.session.outcome) came.answers ∙ ap (λ (s : State). p.answers ++ accepted s.outcome) is in
    record {
      before = now.screen;
      frames = record {
        frames = had.frames;
        taken = had.taken;
        show = shown_to took from (with_event p event) new first.screen now.screen had;
      };
      screen = did.screen;
      lines = subst (λ xs. LeavesLines fault lines xs) all did.lines;
      kept = subst (λ (s : State). LeavesKept fault first.kept now.kept (p.kept ++ new_entry s)) is
          (kept_more fault first.kept before.kept now.kept p.kept (new_entry new.session) came.kept did.kept);
      told = λ still turned. subst (λ (s : State). HoldWanted now.jobs (wanted s)) is (did.told still came.held);
    }

-- a turn was not made
pub event_stops_before : {S : Type 0} (took missed : S → List ℕ → S → Type 0) (fault : RunFault) (stands : Type 0) (event : Event) (old new : Runner)
    (before now : Around S) → LeavesScreen missed fault before.screen now.screen → now.kept ≡ before.kept → now.jobs ≡ before.jobs
    → new.answers ≡ old.answers → Stops took missed reopened_state (λ p. with_event p event) old before fault stands new now
event_stops_before took missed fault stands event old new before now leaves kept jobs same = λ from p first came. (
  p,
  record { from = leads_nowhere p; to = leads_once p event },
  stopped_there took missed from fault stands p old (reopened_state p) new.answers first before now came leaves kept jobs same,
)

-- it was made, but not all that follows it
pub event_stops_behind : {S : Type 0} (took missed : S → List ℕ → S → Type 0) (fault : RunFault) (stands : Type 0) (event : Event) (old new : Runner)
    (before now : Around S) → StopsBehind took missed event fault stands old new new.answers before now
    → Stops took missed reopened_state (λ p. with_event p event) old before fault stands new now
event_stops_behind took missed fault stands event old new before now did = λ from p first came. (
  with_event p event,
  record { from = leads_once p event; to = leads_nowhere (with_event p event) },
  stopped_behind took missed from fault stands p event old new new.answers first before now came did,
)

-- ---- what a fault leaves

-- at a fault that is not the screen's nothing more was given to it
pub screen_left : {S : Type 0} (missed : S → List ℕ → S → Type 0) (fault : RunFault) (now : S) → (fault ≡ Screen → ⊥) → LeavesScreen missed fault now now
screen_left missed Inbox now other = refl
screen_left missed Screen now other = absurd (other refl)
screen_left missed Keeper now other = refl
screen_left missed NoMemory now other = refl

-- where an entry could not be kept, a part of it may have been
pub entry_left : (fault : RunFault) (old new : Option (List ℕ)) (bytes : List ℕ) → (fault ≡ Inbox → ⊥) → (fault ≡ Screen → ⊥) → AppendsFront old new bytes
    → LeavesKept fault old new bytes
entry_left Inbox old new bytes inbox screen front = absurd (inbox refl)
entry_left Screen old new bytes inbox screen front = absurd (screen refl)
entry_left Keeper old new bytes inbox screen front = front
entry_left NoMemory old new bytes inbox screen front = front

-- what was put of some bytes is a part of them
pub front_put : (old new : Option (List ℕ)) (put bytes part : List ℕ) → put ≡ bytes → StartsWith put part → Appends old new part → AppendsFront old new bytes
front_put old new put bytes part is starts appends =
    (part, (drop (length part) put, sym is ∙ sym (take-append-drop (length part) put) ∙ ap (λ xs. xs ++ drop (length part) put) starts), appends)

-- nothing of it is a part
pub no_entry_left : (kept : Option (List ℕ)) (bytes : List ℕ) → AppendsFront kept kept bytes
no_entry_left kept bytes = ([], (bytes, refl), Appends-nil kept)

pub no_line_left : (lines old accepted : List (List ℕ)) → lines ≡ old → IsFront lines (old ++ accepted)
no_line_left lines old accepted same = (accepted, ap (λ xs. xs ++ accepted) (sym same))

-- ---- the prompts that follow

-- wherever a runner came to a play, it now came from it to one from which there are so many prompts left to follow
abbrev pub HasFollowed : {S : Type 0} → (S → List ℕ → S → Type 0) → Runner → Around S → ℕ → Runner → Around S → Type 0
HasFollowed {S} took old before left new now =
    (from : Beginning) (p : Play) (first : Around S) → CameTo took from old (present_state p) p first before
    → (q : Play) × CameTo took from new (present_state q) q first now × LeadsTo p q × (followed left q ≡ followed (lines_left p) p)

-- before the first of them
pub followed_first : {S : Type 0} (took : S → List ℕ → S → Type 0) (runner : Runner) (now : Around S) (left : ℕ)
    → left ≡ runner.repeat - length runner.answers → HasFollowed took runner now left runner now
followed_first took runner now left is = λ from p first came. (
  p,
  came,
  leads_nowhere p,
  ap (λ n. followed n p) (is ∙ ap (λ n. n - length runner.answers) came.repeat ∙ ap (λ (xs : List (List ℕ)). repeat_of p.first.state.settings - length xs) came.answers),
)

-- behind one of them
pub followed_on : {S : Type 0} (took : S → List ℕ → S → Type 0) (old here again new : Runner) (before between now : Around S) (left more : ℕ)
    → HasFollowed took old before left here between → left ≡ more + 1 → is_accepted here.session.outcome ≡ true → GoesAgain here again
    → GoesOn took reopened_state (λ p. with_event p Start) again between new now → HasFollowed took old before more new now
followed_on took old here again new before between now left more so_far is accepts goes on = λ from p first came.
    let run = so_far from p first came in
    let q : Play = run.0 in (
      with_event q Start,
      on from q first (came_again took from q here again first between run.1 accepts goes),
      leads_on p q (with_event q Start) run.2 (leads_once q Start),
      sym (followed_more q left more is (ap (λ (s : State). is_accepted s.outcome) (sym run.1.state) ∙ accepts)) ∙ run.3,
    )

-- behind the last of them
pub followed_all : {S : Type 0} (took : S → List ℕ → S → Type 0) (old new : Runner) (before now : Around S) (left : ℕ)
    → HasFollowed took old before left new now → (0 < left → is_accepted new.session.outcome ≡ false)
    → GoesOn took present_state (λ p. followed (lines_left p) p) old before new now
followed_all took old new before now left so_far none = λ from p first came.
    let run = so_far from p first came in
    let here : run.0 ≡ followed (lines_left p) p =
    sym (followed_none run.0 left (λ some. ap (λ (s : State). is_accepted s.outcome) (sym run.1.state) ∙ none some)) ∙ run.3 in
    subst (λ q. CameTo took from new (present_state q) q first now) here run.1

-- one of them could not be opened
pub followed_stop : {S : Type 0} (took missed : S → List ℕ → S → Type 0) (fault : RunFault) (stands : Type 0) (old here new : Runner) (before now : Around S)
    (left : ℕ) → HasFollowed took old before left here now → LeavesScreen missed fault now.screen now.screen → new.answers ≡ here.answers
    → Stops took missed present_state (λ p. followed (lines_left p) p) old before fault stands new now
followed_stop took missed fault stands old here new before now left so_far leaves same = λ from p first came.
    let run = so_far from p first came in (
      run.0,
      record { from = run.2; to = leads_same run.0 (followed left run.0) (followed (lines_left p) p) (leads_followed left run.0) run.3 },
      stopped_there took missed from fault stands run.0 here (present_state run.0) new.answers first now now run.1 leaves refl refl same,
    )

-- a count that stands over the whole stands over its last part
pub stopped_in : {S : Type 0} (took missed : S → List ℕ → S → Type 0) (from : Beginning) (fault : RunFault) (part whole : Type 0)
    (lines : List (List ℕ)) (q : Play) (first now : Around S) → (whole → part) → StoppedAt took missed from fault part lines q first now
    → StoppedAt took missed from fault whole lines q first now
stopped_in took missed from fault part whole lines q first now within stop =
    record {
      before = stop.before;
      frames = stop.frames;
      screen = stop.screen;
      lines = stop.lines;
      kept = stop.kept;
      told = λ still turned. stop.told (within still) turned;
    }

-- or its first event could not be done
pub followed_fault : {S : Type 0} (took missed : S → List ℕ → S → Type 0) (fault : RunFault) (part whole : Type 0) (old here again new : Runner)
    (before between now : Around S) (left more : ℕ) → HasFollowed took old before left here between → left ≡ more + 1
    → is_accepted here.session.outcome ≡ true → GoesAgain here again → (whole → part)
    → Stops took missed reopened_state (λ p. with_event p Start) again between fault part new now
    → Stops took missed present_state (λ p. followed (lines_left p) p) old before fault whole new now
followed_fault took missed fault part whole old here again new before between now left more so_far is accepts goes within stops = λ from p first came.
    let run = so_far from p first came in
    let q : Play = run.0 in
    let stop = stops from q first (came_again took from q here again first between run.1 accepts goes) in
    let all : followed more (with_event q Start) ≡ followed (lines_left p) p =
    sym (followed_more q left more is (ap (λ (s : State). is_accepted s.outcome) (sym run.1.state) ∙ accepts)) ∙ run.3 in (
      stop.0,
      record {
        from = leads_on p q stop.0 run.2 stop.1.from;
        to = leads_on stop.0 (with_event q Start) (followed (lines_left p) p) stop.1.to
            (leads_same (with_event q Start) (followed more (with_event q Start)) (followed (lines_left p) p) (leads_followed more (with_event q Start)) all);
      },
      stopped_in took missed from fault part whole new.answers stop.0 first now within stop.2,
    )

-- ---- an event of an inbox

pub done_goes : {S : Type 0} (took : S → List ℕ → S → Type 0) (event : Event) (old mid new : Runner) (before between now : Around S)
    → has_ended old.session ≡ false → GoesOn took reopened_state (λ p. with_event p event) old before mid between
    → GoesOn took present_state (λ p. followed (lines_left p) p) mid between new now → GoesOn took present_state (λ p. done p event) old before new now
done_goes took event old mid new before between now on one rest = λ from p first came.
    let here : has_ended p.run.state ≡ false = ap has_ended (sym came.state) ∙ on in
    let mid_came = one from p first (came_going took from p old first before came on) in
    subst (λ q. CameTo took from new (present_state q) q first now) (done_on p event here) (rest from (with_event p event) first mid_came)

pub done_stops_first : {S : Type 0} (took missed : S → List ℕ → S → Type 0) (fault : RunFault) (stands : Type 0) (event : Event) (old new : Runner)
    (before now : Around S) → has_ended old.session ≡ false
    → Stops took missed reopened_state (λ p. with_event p event) old before fault stands new now
    → Stops took missed present_state (λ p. done p event) old before fault stands new now
done_stops_first took missed fault stands event old new before now on stops = λ from p first came.
    let here : has_ended p.run.state ≡ false = ap has_ended (sym came.state) ∙ on in
    let stop = stops from p first (came_going took from p old first before came on) in (
      stop.0,
      record { from = stop.1.from; to = leads_on stop.0 (with_event p event) (done p event) stop.1.to (leads_done p event here) },
      stop.2,
    )

pub done_stops_behind : {S : Type 0} (took missed : S → List ℕ → S → Type 0) (fault : RunFault) (part whole : Type 0) (event : Event)
    (old mid new : Runner) (before between now : Around S) → has_ended old.session ≡ false → (whole → part)
    → GoesOn took reopened_state (λ p. with_event p event) old before mid between
    → Stops took missed present_state (λ p. followed (lines_left p) p) mid between fault part new now
    → Stops took missed present_state (λ p. done p event) old before fault whole new now
done_stops_behind took missed fault part whole event old mid new before between now on within one stops = λ from p first came.
    let here : has_ended p.run.state ≡ false = ap has_ended (sym came.state) ∙ on in
    let stop = stops from (with_event p event) first (one from p first (came_going took from p old first before came on)) in (
      stop.0,
      record {
        from = leads_on p (with_event p event) stop.0 (leads_once p event) stop.1.from;
        to = leads_same stop.0 _ (done p event) stop.1.to (done_on p event here);
      },
      stopped_in took missed from fault part whole new.answers stop.0 first now within stop.2,
    )
