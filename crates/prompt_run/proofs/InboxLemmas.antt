-- How a run takes the events of its inbox, from its beginning to its end.
use Rattle.std.proofs.Common.{◌≡◌, ℕ, true, false, List, [], ◌∷◌, ◌++◌, Option, Result, Ok, Err, refl, ap, sym, ◌∙◌, subst, arith}
use Rattle.std.proofs.KnownBytes.{Appends-nil}
use Rattle.causes.specs.Chain.{Chain}
use Rattle.diff_render.specs.declared.shown.OnScreen.{OnScreen}
use Rattle.diff_render.specs.declared.shown.OnScreen.TheVariants.{Nothing}
use Rattle.events.specs.declared.events.Event.{Event}
use Rattle.events.specs.declared.events.Event.TheVariants.{Start}
use Rattle.events.specs.Jobs.{Wanted}
use Rattle.events.specs.declared.inboxes.InboxFault.{InboxFault}
use Rattle.events.specs.declared.inboxes.InboxFault.TheVariants as inbox
use Rattle.requests.specs.declared.requests.Kind.TheVariants.{Complete, Suggest, Check}
use Rattle.session_core.specs.State.{State, has_ended}
use Rattle.term_model.specs.Term.{Term, IsTerminal}
use Rattle.prompt_run.specs.Course.{Around, CameTo, GoesOn, HasTurned, LeadsTo, LeavesScreen, Stops, present_state}
use Rattle.prompt_run.specs.Faults.{inbox_fault}
use Rattle.prompt_run.specs.Play.{Play, done, waiting_in, with_event}
use Rattle.prompt_run.specs.Prompts.{EndsAt, IsAskedWhileGoing, IsBegun, RanOver, RanThrough, done_all, given_in, run_over}
use Rattle.prompt_run.specs.Run.{Run, waiting_run}
use Rattle.prompt_run.specs.Script.{status_of}
use Rattle.prompt_run.specs.Showing.{LeadOnEach, ShowsRun, anew}
use Rattle.prompt_run.specs.Wishes.{AreHeld, IsHeld}
use Rattle.prompt_run.specs.declared.runners.RunFault.{RunFault}
use Rattle.prompt_run.specs.declared.runners.RunFault.TheVariants.{NoMemory}
use Rattle.prompt_run.specs.declared.runners.Runner.{Runner}
use Rattle.prompt_run.proofs.CourseLemmas.{chain_more, leads_done, leads_nowhere, leads_on, leads_once, shown_to, stopped_in, stopped_there, turned_behind}

-- ---- answers

done_all-append : (p : Play) (first second : List Event) → done_all p (first ++ second) ≡ done_all (done_all p first) second
done_all-append p [] second = refl
done_all-append p (event ∷ first) second = done_all-append (done p event) first second

given_in-append : (first second : List (Result Event InboxFault)) → given_in (first ++ second) ≡ given_in first ++ given_in second
given_in-append [] second = refl
given_in-append (Ok event ∷ first) second = ap (λ events. event ∷ events) (given_in-append first second)
given_in-append (Err fault ∷ first) second = given_in-append first second

-- the run behind one event more
run_more : (s : State) (answers : List (Result Event InboxFault)) (event : Event)
    → run_over s (given_in (answers ++ Ok event ∷ [])) ≡ done (run_over s (given_in answers)) event
run_more s answers event =
    ap (run_over s) (given_in-append answers (Ok event ∷ [])) ∙ done_all-append (done (waiting_in s) Start) (given_in answers) (event ∷ [])

run_refused : (s : State) (answers : List (Result Event InboxFault)) (fault : InboxFault)
    → run_over s (given_in (answers ++ Err fault ∷ [])) ≡ run_over s (given_in answers)
run_refused s answers fault =
    ap (run_over s) (given_in-append answers (Err fault ∷ [])) ∙ done_all-append (done (waiting_in s) Start) (given_in answers) []

asked_more : (p : Play) (answers : List (Result Event InboxFault)) (answer : Result Event InboxFault) → IsAskedWhileGoing p answers
    → has_ended (done_all p (given_in answers)).run.state ≡ false → IsAskedWhileGoing p (answers ++ answer ∷ [])
asked_more p [] (Ok event) asked on = (on, tt)
asked_more p [] (Err fault) asked on = (on, tt)
asked_more p (Ok event ∷ answers) answer asked on = (asked.0, asked_more (done p event) answers answer asked.1 on)
asked_more p (Err fault ∷ answers) answer asked on = (asked.0, asked_more p answers answer asked.1 on)

-- ---- the way of a run

leads_all : (p : Play) (answers : List (Result Event InboxFault)) → IsAskedWhileGoing p answers → LeadsTo p (done_all p (given_in answers))
leads_all p [] asked = leads_nowhere p
leads_all p (Ok event ∷ answers) asked =
    leads_on p (with_event p event) (done_all (done p event) (given_in answers)) (leads_once p event)
    (leads_on (with_event p event) (done p event) (done_all (done p event) (given_in answers)) (leads_done p event asked.0) (leads_all (done p event) answers asked.1))
leads_all p (Err fault ∷ answers) asked = leads_all p answers asked.1

leads_first : (p : Play) → has_ended p.run.state ≡ false → LeadsTo p (done p Start)
leads_first p on = leads_on p (with_event p Start) (done p Start) (leads_once p Start) (leads_done p Start on)

leads_over : (s : State) (answers : List (Result Event InboxFault)) → has_ended s ≡ false → IsAskedWhileGoing (done (waiting_in s) Start) answers
    → LeadsTo (waiting_in s) (run_over s (given_in answers))
leads_over s answers on asked =
    leads_on (waiting_in s) (done (waiting_in s) Start) (run_over s (given_in answers)) (leads_first (waiting_in s) on)
    (leads_all (done (waiting_in s) Start) answers asked)

-- ---- the beginning

-- before its first event a run shows nothing
pub shows_nothing : (s : State) (t : Term) → IsTerminal t → t.rows ≡ s.size.rows → t.cols ≡ s.size.cols → ShowsRun Nothing t (waiting_run s t)
shows_nothing s t terminal tall wide = record {
  terminal = terminal;
  agrees = refl;
  begins = λ going. record { terminal = terminal; tall = tall; wide = wide; base_line = refl };
  ended = λ done. (refl, record { terminal = terminal; tall = tall; wide = wide; base_line = refl });
}

lead_nowhere : (s : State) → LeadOnEach (anew s) [] [] Nothing s
lead_nowhere s t r from = (
  t,
  r,
  (refl, refl),
  subst (ShowsRun Nothing t) (sym from.run) (shows_nothing s t from.terminal from.tall from.wide),
  ap (λ (x : Run). x.state) from.run,
)

-- jobs that were told nothing hold all of it
held_first : (runner : Runner) (jobs : Option Wanted) → IsBegun runner → AreHeld runner.told jobs
held_first runner jobs begun = record {
  complete = subst (λ told. IsHeld told jobs Complete) (sym begun.told.0) tt;
  suggest = subst (λ told. IsHeld told jobs Suggest) (sym begun.told.1) tt;
  check = subst (λ told. IsHeld told jobs Check) (sym begun.told.2) tt;
}

-- wherever what is shown on a terminal stands for the run of a play without events, a runner from there
pub came_first : {S : Type 0} (took : S → List ℕ → S → Type 0) (runner : Runner) (first : Around S) → IsBegun runner
    → CameTo took (anew runner.session) runner (present_state (waiting_in runner.session)) (waiting_in runner.session) first first
came_first took runner first begun = record {
  state = refl;
  repeat = begun.repeat;
  answers = begun.answers;
  shown = record {
    frames = [];
    taken = refl;
    show = subst (λ (x : OnScreen). LeadOnEach (anew runner.session) [] [] x runner.session) (sym begun.shown) (lead_nowhere runner.session);
  };
  kept = Appends-nil first.kept;
  held = held_first runner first.jobs begun;
  told = λ turned. absurd (omega (arith, turned));
}

-- ---- a run between two events of its inbox

-- what it took so far, and where it came to
pub record HasRun {I S : Type 0} (hears : I → Result Event InboxFault → I → Type 0) (took : S → List ℕ → S → Type 0) (s : State) (runner : Runner)
    (inbox_first inbox : I) (first now : Around S) : Type 0 where
  pub answers : List (Result Event InboxFault)
  pub heard : Chain hears inbox_first answers inbox
  pub asked : IsAskedWhileGoing (done (waiting_in s) Start) answers
  pub came : CameTo took (anew s) runner (present_state (run_over s (given_in answers))) (run_over s (given_in answers)) first now
  pub turned : HasTurned (run_over s (given_in answers))

-- behind the first event
pub has_run_first : {I S : Type 0} (heard : I → Result Event InboxFault → I → Type 0) (took : S → List ℕ → S → Type 0) (old new : Runner) (inbox : I)
    (first now : Around S) → IsBegun old → GoesOn took present_state (λ p. done p Start) old first new now
    → HasRun heard took old.session new inbox inbox first now
has_run_first heard took old new inbox first now begun goes =
    let p : Play = waiting_in old.session in
    record {
      answers = [];
      heard = refl;
      asked = tt;
      came = goes (anew old.session) p first (came_first took old first begun);
      turned = turned_behind p (done p Start) Start (leads_done p Start begun.going);
    }

-- behind a further one
pub has_run_more : {I S : Type 0} (heard : I → Result Event InboxFault → I → Type 0) (took : S → List ℕ → S → Type 0) (s : State) (old new : Runner)
    (event : Event) (inbox_first before inbox : I) (first between now : Around S) → HasRun heard took s old inbox_first before first between
    → has_ended old.session ≡ false → heard before (Ok event) inbox → GoesOn took present_state (λ p. done p event) old between new now
    → HasRun heard took s new inbox_first inbox first now
has_run_more heard took s old new event inbox_first before inbox first between now ran on gave goes =
    let p : Play = run_over s (given_in ran.answers) in
    let going : has_ended p.run.state ≡ false = ap has_ended (sym ran.came.state) ∙ on in
    let came : CameTo took (anew s) new (present_state (done p event)) (done p event) first now = goes (anew s) p first ran.came in
    let more = sym (run_more s ran.answers event) in
    record {
      answers = ran.answers ++ Ok event ∷ [];
      heard = chain_more heard inbox_first ran.answers before (Ok event) inbox ran.heard gave;
      asked = asked_more (done (waiting_in s) Start) ran.answers (Ok event) ran.asked going;
      came = subst (λ q. CameTo took (anew s) new (present_state q) q first now) more came;
      turned = subst HasTurned more (turned_behind p (done p event) event (leads_done p event going));
    }

-- ---- the end

-- the run has ended by itself
pub ran_through : {I S : Type 0} (heard : I → Result Event InboxFault → I → Type 0) (took missed : S → List ℕ → S → Type 0) (stands : Type 0) (s : State)
    (runner : Runner) (inbox_first inbox : I) (first now : Around S) (status : ℕ) → HasRun heard took s runner inbox_first inbox first now
    → has_ended runner.session ≡ true → status ≡ status_of runner.session.outcome
    → RanOver heard took missed stands s inbox_first inbox first now runner.answers (Ok status)
ran_through heard took missed stands s runner inbox_first inbox first now status ran over is =
    let p : Play = run_over s (given_in ran.answers) in
    record {
      answers = ran.answers;
      heard = ran.heard;
      asked = ran.asked;
      ends = record {
        ended = ap has_ended (sym ran.came.state) ∙ over;
        status = is ∙ ap (λ (x : State). status_of x.outcome) ran.came.state;
        frames = record {
          frames = ran.came.shown.frames;
          taken = ran.came.shown.taken;
          show = shown_to took (anew s) p runner first.screen now.screen ran.came.shown;
        };
        lines = ran.came.answers;
        kept = ran.came.kept;
        told = ran.came.told ran.turned;
      };
    }

-- the first event was not done
pub stopped_first : {I S : Type 0} (heard : I → Result Event InboxFault → I → Type 0) (took missed : S → List ℕ → S → Type 0) (stands : Type 0)
    (old new : Runner) (inbox : I) (first now : Around S) (fault : RunFault) → IsBegun old
    → Stops took missed present_state (λ p. done p Start) old first fault stands new now
    → RanOver heard took missed stands old.session inbox inbox first now new.answers (Err fault)
stopped_first heard took missed stands old new inbox first now fault begun stops = record {
  answers = [];
  heard = refl;
  asked = tt;
  ends = stops (anew old.session) (waiting_in old.session) first (came_first took old first begun);
}

-- the inbox gave none
pub refused_event : {I S : Type 0} (heard : I → Result Event InboxFault → I → Type 0) (took missed : S → List ℕ → S → Type 0) (stands : Type 0) (s : State)
    (runner : Runner) (refusal : InboxFault) (inbox_first before inbox : I) (first now : Around S) (fault : RunFault) → has_ended s ≡ false
    → HasRun heard took s runner inbox_first before first now → has_ended runner.session ≡ false → heard before (Err refusal) inbox
    → LeavesScreen missed fault now.screen now.screen → RanOver heard took missed stands s inbox_first inbox first now runner.answers (Err fault)
refused_event heard took missed stands s runner refusal inbox_first before inbox first now fault going ran on gave leaves =
    let p : Play = run_over s (given_in ran.answers) in
    let E : Play → Type 0 = λ whole. EndsAt took missed stands (waiting_in s) whole first now runner.answers (Err fault) in
    record {
      answers = ran.answers ++ Err refusal ∷ [];
      heard = chain_more heard inbox_first ran.answers before (Err refusal) inbox ran.heard gave;
      asked = asked_more (done (waiting_in s) Start) ran.answers (Err refusal) ran.asked (ap has_ended (sym ran.came.state) ∙ on);
      ends = subst E (sym (run_refused s ran.answers refusal)) (
        p,
        record { from = leads_over s ran.answers going ran.asked; to = leads_nowhere p },
        stopped_there took missed (anew s) fault stands p runner (present_state p) runner.answers first now now ran.came leaves refl refl refl,
      );
    }

-- and nothing was given to the screen
pub inbox_left : {S : Type 0} (missed : S → List ℕ → S → Type 0) (refusal : InboxFault) (now : S) → LeavesScreen missed (inbox_fault refusal) now now
inbox_left missed inbox.Failed now = refl
inbox_left missed inbox.NoMemory now = refl

-- its event was not done
pub stopped_event : {I S : Type 0} (heard : I → Result Event InboxFault → I → Type 0) (took missed : S → List ℕ → S → Type 0) (part whole : Type 0)
    (s : State) (old new : Runner) (event : Event) (inbox_first before inbox : I) (first between now : Around S) (fault : RunFault)
    → has_ended s ≡ false → HasRun heard took s old inbox_first before first between → has_ended old.session ≡ false
    → heard before (Ok event) inbox → (whole → part) → Stops took missed present_state (λ p. done p event) old between fault part new now
    → RanOver heard took missed whole s inbox_first inbox first now new.answers (Err fault)
stopped_event heard took missed part whole s old new event inbox_first before inbox first between now fault going ran on gave within stops =
    let p : Play = run_over s (given_in ran.answers) in
    let stop = stops (anew s) p first ran.came in
    let E : Play → Type 0 = λ q. EndsAt took missed whole (waiting_in s) q first now new.answers (Err fault) in
    record {
      answers = ran.answers ++ Ok event ∷ [];
      heard = chain_more heard inbox_first ran.answers before (Ok event) inbox ran.heard gave;
      asked = asked_more (done (waiting_in s) Start) ran.answers (Ok event) ran.asked (ap has_ended (sym ran.came.state) ∙ on);
      ends = subst E (sym (run_more s ran.answers event)) (
        stop.0,
        record { from = leads_on (waiting_in s) p stop.0 (leads_over s ran.answers going ran.asked) stop.1.from; to = stop.1.to },
        stopped_in took missed (anew s) fault part whole new.answers stop.0 first now within stop.2,
      );
    }

-- there was no memory for the run
pub no_run : {I S : Type 0} (heard : I → Result Event InboxFault → I → Type 0) (took missed : S → List ℕ → S → Type 0) (stands : Type 0) (s : State) (inbox : I)
    (first : Around S) → has_ended s ≡ false → RanOver heard took missed stands s inbox inbox first first [] (Err NoMemory)
no_run heard took missed stands s inbox first going = record {
  answers = [];
  heard = refl;
  asked = tt;
  ends = (
    waiting_in s,
    record { from = leads_nowhere (waiting_in s); to = leads_first (waiting_in s) going },
    record {
      before = first.screen;
      frames = record { frames = []; taken = refl; show = λ t r begins. (t, r, (refl, refl)) };
      screen = refl;
      lines = ([], refl);
      kept = ([], ([], refl), Appends-nil first.kept);
      told = λ still turned. absurd (omega (arith, turned));
    },
  );
}
