-- What a script does as a whole: its settings, then its events and reports, and what it prints.
use Rattle.std.specs.Prelude.{ℕ, ◌+◌, Bool, nat_lt, List, [], length, ◌∷◌, ◌++◌, flat_map, Option, Some, None, codes, decimal, encode_utf8_all}
use Rattle.events.specs.declared.events.Event.TheVariants as event
use Rattle.prompt_settings.specs.Refusal.{refusal_of, with_setting}
use Rattle.prompt_settings.specs.declared.configs.SetFault.{SetFault}
use Rattle.script_lines.specs.declared.script_line.ScriptLine.{ScriptLine}
use Rattle.script_lines.specs.declared.script_line.ScriptLine.TheVariants as line
use Rattle.script_lines.specs.Lines.{script_lines}
use Rattle.script_lines.specs.Spelling.{spelling}
use Rattle.session_core.specs.declared.outcomes.Outcome.{Outcome}
use Rattle.session_core.specs.declared.outcomes.Outcome.TheVariants.{Accepted, EndOfFile, Interrupted}
use Rattle.prompt_run.specs.Given.{Given, entries_in, nothing_given}
use Rattle.prompt_run.specs.Play.{Play, Played, begun, done, line_in, played}
use Rattle.prompt_run.specs.Report.{report_of}

-- what is given with this besides, where it is not refused
abbrev pub unless_refused : Option SetFault → Given → Option Given
unless_refused None given = Some given
unless_refused (Some fault) given = None

-- with this value of this name
abbrev pub set_in : Given → List ℕ → List ℕ → Option Given
set_in given name value = unless_refused (refusal_of given.settings name value) (record {
  settings = with_setting given.settings name value;
  entries = given.entries ++ entries_in name value;
})

-- what a line of the first part says: what is given from there on, or none where the line is refused or begins the second part
abbrev pub given_by : Given → Option ScriptLine → Option Given
given_by given None = None
given_by given (Some (line.Set name value)) = set_in given name value
given_by given (Some (line.Piece bytes)) = None
given_by given (Some (line.Resize size)) = None
given_by given (Some (line.Tick moment)) = None
given_by given (Some line.Show) = None
given_by given (Some line.End) = None

-- the first part goes on with what is given, or the first prompt begins; the second part refuses a line that sets
abbrev pub set_or_begun : Option Given → (Given → Played) → Played → Played
set_or_begun (Some given) more second = more given
set_or_begun None more second = second

-- the lines from this number on, where each before them has set something
abbrev pub configured : Bool → List (List ℕ) → Given → ℕ → Played
configured long [] given number = (begun given, None)
configured long (text ∷ texts) given number =
    set_or_begun (given_by given (line_in long text texts))
    (λ more. configured long texts more (number + 1))
    (played long (text ∷ texts) (begun given) number)

-- the whole script, which is too long above 67,108,864 bytes
abbrev pub whole_play : List ℕ → Played
whole_play script = configured (nat_lt 67108864 (length script)) (script_lines script) nothing_given 1

-- the status of a prompt that has ended
abbrev pub status_of : Option Outcome → ℕ
status_of None = 1
status_of (Some (Accepted text)) = 0
status_of (Some EndOfFile) = 1
status_of (Some Interrupted) = 130

-- `answer `, the line as it is spelled, and a line feed
abbrev pub answer_row : List ℕ → List ℕ
answer_row text = codes "answer " ++ spelling (encode_utf8_all text) ++ codes "\n"

abbrev pub status_row : ℕ → List ℕ
status_row status = codes "status " ++ decimal status ++ codes "\n"

-- what is printed behind the reports of a play: the last report, the accepted lines and the status
abbrev pub closing : Play → List ℕ
closing p = report_of p.run.screen ++ flat_map answer_row p.answers ++ status_row (status_of p.run.state.outcome)

-- what is printed behind the reports where the line of this number is refused
abbrev pub refusal : ℕ → List ℕ
refusal number = codes "refused " ++ decimal number ++ codes "\n" ++ status_row 9

-- at its end the script gives the end of the input
abbrev pub ended : Play → Play
ended p = done p event.End

-- the play behind the last event of a script
abbrev pub final_by : Play → Option ℕ → Play
final_by p None = ended p
final_by p (Some number) = p

abbrev pub final_play : List ℕ → Play
final_play script = final_by (whole_play script).0 (whole_play script).1

-- what is printed behind a play, and its status, by the number of the line that was refused, if one was
abbrev pub ended_by : Play → Option ℕ → List ℕ × ℕ
ended_by p None = ((ended p).reports ++ closing (ended p), status_of (ended p).run.state.outcome)
ended_by p (Some number) = (p.reports ++ refusal number, 9)

-- what a script prints, and its status
abbrev pub output : List ℕ → List ℕ × ℕ
output script = ended_by (whole_play script).0 (whole_play script).1
