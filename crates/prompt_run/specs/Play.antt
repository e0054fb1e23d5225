-- What playing a script does: the run of its events, the lines that it accepts, and the reports that it asks for.
use Rattle.std.specs.Prelude.{ℕ, ◌+◌, ◌-◌, zero, suc, length, Bool, true, false, List, [], ◌∷◌, ◌++◌, Option, Some, None, unwrap_or, if◌then◌else◌}
use Rattle.cell_grid.specs.Size.{Extent}
use Rattle.events.specs.declared.events.Event.{Event}
use Rattle.events.specs.declared.events.Event.TheVariants as event
use Rattle.line_history.specs.History.{entry_bytes}
use Rattle.prompt_settings.specs.Settings.{Settings, repeat_of}
use Rattle.script_lines.specs.declared.script_line.ScriptLine.{ScriptLine}
use Rattle.script_lines.specs.declared.script_line.ScriptLine.TheVariants as line
use Rattle.script_lines.specs.ScriptLine.{script_line}
use Rattle.session_core.specs.declared.outcomes.Outcome.{Outcome}
use Rattle.session_core.specs.declared.outcomes.Outcome.TheVariants.{Accepted, EndOfFile, Interrupted}
use Rattle.session_core.specs.History.{entry_of}
use Rattle.session_core.specs.Next.{is_accepted}
use Rattle.session_core.specs.State.{State, has_ended, opened}
use Rattle.term_model.specs.Term.{start_of}
use Rattle.prompt_run.specs.Given.{Given}
use Rattle.prompt_run.specs.Report.{report_of}
use Rattle.prompt_run.specs.Run.{Run, ran_on, waiting_run}

-- the run before its first event and now, the accepted lines, the bytes of the entries that these add to a history file, the
-- reports so far, and the events so far
pub record Play : Type 0 where
  pub first : Run
  pub run : Run
  pub answers : List (List ℕ)
  pub kept : List ℕ
  pub reports : List ℕ
  pub events : List Event

-- the line that an outcome accepts, if it does
abbrev pub accepted : Option Outcome → List (List ℕ)
accepted None = []
accepted (Some (Accepted text)) = text ∷ []
accepted (Some EndOfFile) = []
accepted (Some Interrupted) = []

-- the bytes of an entry at this moment, where there is one
abbrev pub bytes_of_entry : Option (List ℕ) → ℕ → List ℕ
bytes_of_entry None moment = []
bytes_of_entry (Some entry) moment = entry_bytes entry moment

-- the bytes of the entry that a state adds to a history file, if it adds one, at its present moment
abbrev pub new_entry : State → List ℕ
new_entry s = bytes_of_entry (entry_of s.history s.outcome) s.moment

-- one event more, and the line and the entry that it gives, if it does
abbrev pub with_event : Play → Event → Play
with_event p event = record p {
  run = ran_on p.run event;
  answers = p.answers ++ accepted (ran_on p.run event).state.outcome;
  kept = p.kept ++ new_entry (ran_on p.run event).state;
  events = p.events ++ event ∷ [];
}

-- behind an accepted line the next prompt begins at once, as long as there are to be so many more lines; the keys that were kept
-- may accept its line too
abbrev pub followed : ℕ → Play → Play
followed zero p = p
followed (suc more) p = if is_accepted p.run.state.outcome then followed more (with_event p event.Start) else p

-- how many more lines the run accepts
abbrev pub lines_left : Play → ℕ
lines_left p = repeat_of p.first.state.settings - length p.answers

-- an event behind the end of the run does nothing
abbrev pub done_by : Bool → Play → Event → Play
done_by true p event = p
done_by false p event = followed (lines_left (with_event p event)) (with_event p event)

abbrev pub done : Play → Event → Play
done p event = done_by (has_ended p.run.state) p event

-- a report of the screen
abbrev pub reporting : Play → Play
reporting p = record p { reports = p.reports ++ report_of p.run.screen }

-- the terminal of a script that sets no size
abbrev pub usual_size : Extent
usual_size = record { rows = 24; cols = 80 }

abbrev pub terminal_size : Settings → Extent
terminal_size settings = unwrap_or settings.size usual_size

-- a run that begins in this state and on a blank terminal, before its first event
abbrev pub waiting_in : State → Play
waiting_in s = record {
  first = waiting_run s (start_of s.size);
  run = waiting_run s (start_of s.size);
  answers = [];
  kept = [];
  reports = [];
  events = [];
}

-- the run of a script before its first event
abbrev pub waiting : Given → Play
waiting given = waiting_in (opened given.settings given.entries (terminal_size given.settings) 0)

-- the first prompt begins
abbrev pub begun : Given → Play
begun given = done (waiting given) event.Start

-- what a line says, before these lines: the last line of a script that is too long says nothing, since it holds the byte behind the
-- most bytes of a script
abbrev pub line_in : Bool → List ℕ → List (List ℕ) → Option ScriptLine
line_in true text [] = None
line_in true text (next ∷ rest) = script_line text
line_in false text lines = script_line text

-- a play, and the number of the line that was refused, if one was
abbrev pub Played : Type 0
Played = Play × Option ℕ

-- a line of the second part, where `rest` plays those behind it: one that sets or says nothing is refused
abbrev pub went : Play → ℕ → Option ScriptLine → (Play → Played) → Played
went p number None rest = (p, Some number)
went p number (Some (line.Set name value)) rest = (p, Some number)
went p number (Some (line.Piece bytes)) rest = rest (done p (event.Piece bytes))
went p number (Some (line.Resize size)) rest = rest (done p (event.Resize size))
went p number (Some (line.Tick moment)) rest = rest (done p (event.Tick moment))
went p number (Some line.Show) rest = rest (reporting p)
went p number (Some line.End) rest = rest (done p event.End)

-- the lines from this number on, of a script that is too long or not
abbrev pub played : Bool → List (List ℕ) → Play → ℕ → Played
played long [] p number = (p, None)
played long (text ∷ texts) p number = went p number (line_in long text texts) (λ q. played long texts q (number + 1))
