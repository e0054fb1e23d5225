-- How a player keeps up with a play: its run takes the event, and its terminal the frames.
use Rattle.std.proofs.Common.{◌≡◌, ℕ, nat_eq, ◌&&◌, Bool, true, false, List, [], ◌∷◌, ◌++◌, Option, Some, None, is_some, zero, suc, if◌then◌else◌, refl, ap, sym, ◌∙◌, subst, arith, append-nil, append_assoc}
use Rattle.std.proofs.lemmas.Bool.Decides.{nat_tests}
use Rattle.std.proofs.lemmas.List.Folds.{concat-append}
use Rattle.std.specs.List.{concat}
use Rattle.causes.specs.Chain.{Chain}
use Rattle.cell_grid.specs.Size.{Extent}
use Rattle.events.specs.declared.events.Event.{Event}
use Rattle.events.specs.declared.events.Event.TheVariants.{Start}
use Rattle.diff_render.specs.declared.shown.OnScreen.TheVariants.{Nothing}
use Rattle.prompt_settings.specs.Settings.{repeat_of}
use Rattle.requests.specs.declared.requests.Kind.{Kind}
use Rattle.requests.specs.declared.requests.Kind.TheVariants.{Complete, Suggest, Check}
use Rattle.session_core.proofs.StateLemmas.{next_size}
use Rattle.session_core.specs.Next.{is_accepted, next, size_after}
use Rattle.session_core.specs.State.{State, has_ended}
use Rattle.term_model.specs.Obeying.{obeyed_bytes}
use Rattle.term_model.specs.Resizing.{resized}
use Rattle.term_model.specs.Term.{Term, IsTerminal, start_of}
use Rattle.prompt_run.specs.Course.{CameTo, GoesOn, around, present_state, with_events}
use Rattle.prompt_run.specs.FramesShown.{FramesShow, obeying}
use Rattle.prompt_run.specs.Given.{Given}
use Rattle.prompt_run.specs.Play.{Play, done, done_by, followed, lines_left, waiting, with_event}
use Rattle.prompt_run.specs.Playing.{Holds, KeepsFrames}
use Rattle.prompt_run.specs.Run.{Run, ran_on, reopened, same_size, terminal_at}
use Rattle.prompt_run.specs.Prompts.{IsBegun}
use Rattle.prompt_run.specs.Runs.{MayGoOn}
use Rattle.prompt_run.specs.Showing.{ShowsRun, amid}
use Rattle.prompt_run.specs.Terminals.{Keeps, Takes}
use Rattle.prompt_run.specs.Wishes.{IsHeld}
use Rattle.prompt_run.specs.declared.players.Player.{Player}
use Rattle.prompt_run.specs.declared.runners.Runner.{Runner}
use Rattle.prompt_run.specs.declared.terminals.TerminalScreen.{TerminalScreen}
use Rattle.prompt_run.proofs.CourseLemmas.{events_behind}
use Rattle.prompt_run.proofs.InboxLemmas.{shows_nothing}
use Rattle.prompt_run.proofs.RunLemmas.{reopened_going}

-- ---- a play without the events before

-- a play with these events before its own
abbrev pub behind : List Event → Play → Play
behind before p = record p { events = before ++ p.events }

-- a play as one that begins here
abbrev pub from_here : Play → Play
from_here p = record p { events = [] }

with_event_behind : (before : List Event) (p : Play) (event : Event) → with_event (behind before p) event ≡ behind before (with_event p event)
with_event_behind before p event = ap (λ events. record (with_event p event) { events = events }) (append_assoc before p.events (event ∷ []))

followed_behind : (left : ℕ) (before : List Event) (p : Play) → followed left (behind before p) ≡ behind before (followed left p)
followed_behind zero before p = refl
followed_behind (suc more) before p =
    by (is_accepted p.run.state.outcome) (ap (followed more) (with_event_behind before p Start) ∙ followed_behind more before (with_event p Start))
  where
    by : (b : Bool) → followed more (with_event (behind before p) Start) ≡ behind before (followed more (with_event p Start))
        → (if b then followed more (with_event (behind before p) Start) else behind before p) ≡ behind before (if b then followed more (with_event p Start) else p)
    by true rest = rest
    by false rest = refl

done_behind : (before : List Event) (p : Play) (event : Event) → done (behind before p) event ≡ behind before (done p event)
done_behind before p event = by (has_ended p.run.state)
  where
    by : (b : Bool) → done_by b (behind before p) event ≡ behind before (done_by b p event)
    by true = refl
    by false =
        ap (followed (lines_left (with_event p event))) (with_event_behind before p event) ∙ followed_behind (lines_left (with_event p event)) before (with_event p event)

-- so what is done to a play is done to the one that begins here
done_from_here : (p : Play) (event : Event) → done p event ≡ behind p.events (done (from_here p) event)
done_from_here p event =
    ap (λ events. done (record p { events = events }) event) (sym (append-nil p.events)) ∙ done_behind p.events (from_here p) event

-- ---- the events of one that was done

-- they are all beginnings
abbrev pub AllStarts : List Event → Type 0
AllStarts [] = Unit {0}
AllStarts (event ∷ events) = (event ≡ Start) × AllStarts events

starts_of : (left : ℕ) (p : Play) → (starts : List Event) × AllStarts starts × (followed left p ≡ with_events p starts)
starts_of zero p = ([], tt, refl)
starts_of (suc more) p = by (is_accepted p.run.state.outcome) (starts_of more (with_event p Start))
  where
    by : (b : Bool) → (starts : List Event) × AllStarts starts × (followed more (with_event p Start) ≡ with_events (with_event p Start) starts)
        → (starts : List Event) × AllStarts starts × ((if b then followed more (with_event p Start) else p) ≡ with_events p starts)
    by true rest = (Start ∷ rest.0, (refl, rest.1), rest.2)
    by false rest = ([], tt, refl)

-- an event of a prompt that goes on, and the beginnings that follow it
pub record DoneBy (p : Play) (event : Event) : Type 0 where
  pub starts : List Event
  pub all : AllStarts starts
  pub same : done p event ≡ with_events p (event ∷ starts)

done_events : (p : Play) (event : Event) → has_ended p.run.state ≡ false → DoneBy p event
done_events p event on =
    let rest = starts_of (lines_left (with_event p event)) (with_event p event) in
    record { starts = rest.0; all = rest.1; same = ap (λ b. done_by b p event) on ∙ rest.2 }

-- ---- the run behind some events

ran_all : Run → List Event → Run
ran_all r [] = r
ran_all r (event ∷ events) = ran_all (ran_on r event) events

run_behind : (p : Play) (events : List Event) → (with_events p events).run ≡ ran_all p.run events
unfolding ran_all
run_behind p [] = refl
run_behind p (event ∷ events) = run_behind (with_event p event) events

last_run : (t : Term) (r : Run) (events : List Event) (frames : List (List ℕ)) (end : Term) (last : Run) → FramesShow t r events frames end last
    → last ≡ ran_all r events
unfolding ran_all
last_run t r [] [] end last show = show.1
last_run t r [] (frame ∷ frames) end last show = absurd show
last_run t r (event ∷ events) [] end last show = absurd show
last_run t r (event ∷ events) (frame ∷ frames) end last show = last_run (obeying t r event frame) (ran_on r event) events frames end last show.2

first_stays : (p : Play) (events : List Event) → (with_events p events).first ≡ p.first
first_stays p [] = refl
first_stays p (event ∷ events) = first_stays (with_event p event) events

reports_stay : (p : Play) (events : List Event) → (with_events p events).reports ≡ p.reports
reports_stay p [] = refl
reports_stay p (event ∷ events) = reports_stay (with_event p event) events

-- frames behind frames
show_append : (t : Term) (r : Run) (events more : List Event) (frames others : List (List ℕ)) (mid : Term) (here : Run) (end : Term) (last : Run)
    → FramesShow t r events frames mid here → FramesShow mid here more others end last → FramesShow t r (events ++ more) (frames ++ others) end last
show_append t r [] more [] others mid here end last show rest =
    subst (λ u. FramesShow u r more others end last) show.0 (subst (λ q. FramesShow mid q more others end last) show.1 rest)
show_append t r [] more (frame ∷ frames) others mid here end last show rest = absurd show
show_append t r (event ∷ events) more [] others mid here end last show rest = absurd show
show_append t r (event ∷ events) more (frame ∷ frames) others mid here end last show rest =
    (show.0, show.1, show_append (obeying t r event frame) (ran_on r event) events more frames others mid here end last show.2 rest)

-- ---- the terminal that takes the frames

same_number : (n : ℕ) → nat_eq n n ≡ true
same_number n = grind (arith, nat_tests)

same_size_refl : (size : Extent) → same_size size size ≡ true
same_size_refl size = ap (λ b. b && nat_eq size.cols size.cols) (same_number size.rows) ∙ same_number size.cols

stays_at : (size : Extent) (t : Term) → terminal_at size size t ≡ t
stays_at size t = ap (λ b. if b then t else resized t size) (same_size_refl size)

-- a beginning changes no size
start_size : (r : Run) (event : Event) → event ≡ Start → (ran_on r event).state.size ≡ (reopened r).state.size
start_size r event is = next_size (reopened r).state event ∙ ap (λ e. size_after e (reopened r).state.size) is

-- the terminal took the resize of the first of these events, if there is one
abbrev pub Sized : Term → Run → List Event → Term → Type 0
Sized t r [] sized = sized ≡ t
Sized t r (event ∷ events) sized = sized ≡ terminal_at (reopened r).state.size (ran_on r event).state.size t

sized_starts : (t : Term) (r : Run) (events : List Event) (sized : Term) → AllStarts events → sized ≡ t → Sized t r events sized
sized_starts t r [] sized starts is = is
sized_starts t r (event ∷ events) sized starts is =
    is ∙ sym (ap (λ size. terminal_at (reopened r).state.size size t) (start_size r event starts.0) ∙ stays_at (reopened r).state.size t)

-- frames that were taken one by one lead where they show the run
takes_end : (t : Term) (r : Run) (event : Event) (starts : List Event) (frames : List (List ℕ)) (end : Term) (last : Run) (screen now : TerminalScreen)
    → FramesShow t r (event ∷ starts) frames end last → AllStarts starts → Sized t r (event ∷ starts) screen.terminal → Chain Takes screen frames now
    → end ≡ now.terminal
takes_end t r event starts [] end last screen now show all sized taken = absurd show
takes_end t r event [] (frame ∷ []) end last screen now show all sized taken =
    show.2.0 ∙ ap (λ u. obeyed_bytes u frame) (sym sized) ∙ sym taken.1.0.obeyed ∙ ap (λ (s : TerminalScreen). s.terminal) (sym taken.2)
takes_end t r event [] (frame ∷ next ∷ frames) end last screen now show all sized taken = absurd show.2
takes_end t r event (start ∷ starts) (frame ∷ frames) end last screen now show all sized taken =
    let u : Term = obeying t r event frame in
    let here : taken.0.terminal ≡ u = taken.1.0.obeyed ∙ ap (λ x. obeyed_bytes x frame) sized in
    takes_end u (ran_on r event) start starts frames end last taken.0 now show.2 all.1
    (sized_starts u (ran_on r event) (start ∷ starts) taken.0.terminal all here) taken.2

-- and their bytes stand behind those of the frames before, where they are kept
abbrev pub KeepsAll : Option (List ℕ) → List (List ℕ) → Option (List ℕ) → Type 0
KeepsAll None frames new = new ≡ None
KeepsAll (Some bytes) frames new = new ≡ Some (bytes ++ concat frames)

keeps_all : (old : Option (List ℕ)) (frames : List (List ℕ)) (screen now : TerminalScreen) → screen.frames ≡ old → Chain Takes screen frames now
    → KeepsAll old frames now.frames
keeps_all None [] screen now is taken = ap (λ (s : TerminalScreen). s.frames) taken ∙ is
keeps_all (Some bytes) [] screen now is taken =
    ap (λ (s : TerminalScreen). s.frames) taken ∙ is ∙ ap (λ xs. Some xs) (sym (append-nil bytes))
keeps_all None (frame ∷ frames) screen now is taken =
    keeps_all None frames taken.0 now (kept_none screen.frames taken.0.frames frame is taken.1.1) taken.2
  where
    kept_none : (a b : Option (List ℕ)) (frame : List ℕ) → a ≡ None → Keeps a frame b → b ≡ None
    kept_none None b frame is keeps = keeps
    kept_none (Some bytes) b frame is keeps = absurd (none_some (sym is))
      where
        none_some : None ≡ Some bytes → ⊥
        none_some e = cc
keeps_all (Some bytes) (frame ∷ frames) screen now is taken =
    let mid : taken.0.frames ≡ Some (bytes ++ frame) = subst (λ (x : Option (List ℕ)). Keeps x frame taken.0.frames) is taken.1.1 in
    keeps_all (Some (bytes ++ frame)) frames taken.0 now mid taken.2 ∙ ap (λ xs. Some xs) (append_assoc bytes frame (concat frames))

keeps_some : (old now : Option (List ℕ)) (frames : List (List ℕ)) → KeepsAll old frames now → is_some now ≡ is_some old
keeps_some None now frames keeps = ap is_some keeps
keeps_some (Some bytes) now frames keeps = ap is_some keeps

-- the frames that are kept are those of the play behind what was done
keeps_play : (old now : Option (List ℕ)) (p q : Play) (t end : Term) (frames : List (List ℕ)) → KeepsFrames old p t → KeepsAll old frames now
    → FramesShow t p.run q.events frames end q.run → q.first ≡ p.first → KeepsFrames now (behind p.events q) end
keeps_play None now p q t end frames kept keeps show first =
    subst (λ (x : Option (List ℕ)). KeepsFrames x (behind p.events q) end) (sym keeps) tt
keeps_play (Some bytes) now p q t end frames kept keeps show first =
    subst (λ (x : Option (List ℕ)). KeepsFrames x (behind p.events q) end) (sym keeps) (
      kept.0 ++ frames,
      subst (λ (r : Run). FramesShow r.screen r (p.events ++ q.events) (kept.0 ++ frames) end q.run) (sym first)
          (show_append p.first.screen p.first p.events q.events kept.0 frames t p.run end q.run kept.1 show),
      ap (λ xs. xs ++ concat frames) kept.2 ∙ sym (concat-append kept.0 frames),
    )

-- ---- an event

-- what an event did to a player whose prompt goes on
pub record Advances (old : Player) (event : Event) (new : Player) : Type 0 where
  pub sized : TerminalScreen
  pub resize : sized.terminal ≡ terminal_at old.runner.session.size (size_after event old.runner.session.size) old.screen.terminal
  pub kept : sized.frames ≡ old.screen.frames
  pub going : has_ended old.runner.session ≡ false
  pub goes : GoesOn Takes present_state (λ p. done p event) old.runner (around sized None None) new.runner (around new.screen None None)
  pub may : MayGoOn new.runner
  pub reports : new.reports.items ≡ old.reports.items

held_none : (told : Option (Option ℕ)) (kind : Kind) → IsHeld told None kind
held_none None kind = tt
held_none (Some number) kind = tt

-- the run of a player, as one that begins in the middle of its play
came_here : (player : Player) (p : Play) (sized : TerminalScreen) → Holds player p
    → CameTo Takes (amid player.screen.terminal p.run) player.runner p.run.state (from_here p) (around sized None None) (around sized None None)
came_here player p sized holds = record {
  state = holds.state;
  repeat = holds.repeat;
  answers = holds.answers;
  shown = record {
    frames = [];
    taken = refl;
    show = λ t r at. (
      t,
      r,
      (refl, refl),
      subst (λ q. ShowsRun player.runner.shown t q) (sym at.1) (subst (λ u. ShowsRun player.runner.shown u p.run) (sym at.0) holds.shows),
      ap (λ (q : Run). q.state) at.1,
    );
  };
  kept = tt;
  held = record {
    complete = held_none player.runner.told.complete Complete;
    suggest = held_none player.runner.told.suggest Suggest;
    check = held_none player.runner.told.check Check;
  };
  told = λ turned. absurd (omega (arith, turned));
}

-- where its run goes on, the player holds the play that was done
pub held_event : (old new : Player) (p : Play) (event : Event) → Holds old p → Advances old event new
    → Holds new (done p event) × (is_some new.screen.frames ≡ is_some old.screen.frames)
held_event old new p event holds did =
    let here : Play = from_here p in
    let t : Term = old.screen.terminal in
    let on : has_ended p.run.state ≡ false = ap has_ended (sym holds.state) ∙ did.going in
    let q : Play = done here event in
    let by : DoneBy here event = done_events here event on in
    let came : CameTo Takes (amid t p.run) new.runner q.run.state q (around did.sized None None) (around new.screen None None) =
    did.goes (amid t p.run) here (around did.sized None None) (came_here old p did.sized holds) in
    let frames : List (List ℕ) = came.shown.frames in
    let show = came.shown.show t p.run (refl, refl) in
    let end : Term = show.0 in
    let last : Run = show.1 in
    let events : q.events ≡ event ∷ by.starts = ap (λ (x : Play). x.events) by.same ∙ events_behind here (event ∷ by.starts) in
    let told : FramesShow t p.run (event ∷ by.starts) frames end last = subst (λ es. FramesShow t p.run es frames end last) events show.2 in
    let is_last : last ≡ q.run =
    last_run t p.run (event ∷ by.starts) frames end last told ∙ sym (run_behind here (event ∷ by.starts)) ∙ ap (λ (x : Play). x.run) (sym by.same) in
    let found : (reopened p.run).state ≡ p.run.state = reopened_going p.run on in
    let sized : Sized t p.run (event ∷ by.starts) did.sized.terminal =
    did.resize
    ∙ ap (λ (s : State). terminal_at s.size (size_after event s.size) t) (holds.state ∙ sym found)
    ∙ ap (λ size. terminal_at (reopened p.run).state.size size t) (sym (next_size (reopened p.run).state event)) in
    let is_end : end ≡ new.screen.terminal = takes_end t p.run event by.starts frames end last did.sized new.screen told by.all sized came.shown.taken in
    let keeps : KeepsAll old.screen.frames frames new.screen.frames = keeps_all old.screen.frames frames did.sized new.screen did.kept came.shown.taken in
    let shows : ShowsRun new.runner.shown new.screen.terminal q.run =
    subst (λ u. ShowsRun new.runner.shown u q.run) is_end (subst (λ r. ShowsRun new.runner.shown end r) is_last show.3) in
    let shown : FramesShow t p.run q.events frames new.screen.terminal q.run =
    subst (λ u. FramesShow t p.run q.events frames u q.run) is_end (subst (λ r. FramesShow t p.run q.events frames end r) is_last show.2) in
    let first : q.first ≡ p.first = ap (λ (x : Play). x.first) by.same ∙ first_stays here (event ∷ by.starts) in
    let reports : q.reports ≡ p.reports = ap (λ (x : Play). x.reports) by.same ∙ reports_stay here (event ∷ by.starts) in (
      subst (Holds new) (sym (done_from_here p event)) (record {
        state = came.state;
        shows = shows;
        may = did.may;
        repeat = came.repeat;
        answers = came.answers;
        reports = did.reports ∙ holds.reports ∙ sym reports;
        frames = keeps_play old.screen.frames new.screen.frames p q t new.screen.terminal frames holds.frames keeps shown first;
      }),
      keeps_some old.screen.frames new.screen.frames frames keeps,
    )

-- ---- the beginning

keeps_first : (asked : Bool) (kept : Option (List ℕ)) (p : Play) (t : Term) → kept ≡ (if asked then Some [] else None) → p.events ≡ [] → t ≡ p.first.screen
    → p.run ≡ p.first → KeepsFrames kept p t
keeps_first false kept p t is none blank first = subst (λ (x : Option (List ℕ)). KeepsFrames x p t) (sym is) tt
keeps_first true kept p t is none blank first =
    subst (λ (x : Option (List ℕ)). KeepsFrames x p t) (sym is)
    ([], subst (λ events. FramesShow p.first.screen p.first events [] t p.run) (sym none) (blank, first), refl)

-- a runner that has done no event, and a blank terminal, stand for the play before its first
pub held_first : (asked : Bool) (player : Player) (given : Given) → player.runner.session ≡ (waiting given).run.state → IsBegun player.runner
    → MayGoOn player.runner → player.screen.terminal ≡ start_of (waiting given).run.state.size → IsTerminal player.screen.terminal
    → player.reports.items ≡ [] → player.screen.frames ≡ (if asked then Some [] else None) → Holds player (waiting given)
held_first asked player given state begun may blank terminal none frames =
    let s : State = (waiting given).run.state in
    record {
      state = state;
      shows = subst (λ x. ShowsRun x player.screen.terminal (waiting given).run) (sym begun.shown)
          (subst (λ u. ShowsRun Nothing u (waiting given).run) (sym blank)
          (shows_nothing s (start_of s.size) (subst IsTerminal blank terminal) refl refl));
      may = may;
      repeat = begun.repeat ∙ ap (λ (x : State). repeat_of x.settings) state;
      answers = begun.answers;
      reports = none;
      frames = keeps_first asked player.screen.frames (waiting given) player.screen.terminal frames refl blank refl;
    }
