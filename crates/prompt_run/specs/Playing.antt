-- How a player stands for a play.
use Rattle.std.specs.Prelude.{◌≡◌, ℕ, Bool, true, false, List, Option, Some, None}
use Rattle.std.specs.List.{concat}
use Rattle.prompt_settings.specs.Settings.{repeat_of}
use Rattle.script_lines.specs.declared.script_line.ScriptLine.{ScriptLine}
use Rattle.term_model.specs.Term.{Term}
use Rattle.prompt_run.specs.FramesShown.{FramesShow}
use Rattle.prompt_run.specs.Given.{Given}
use Rattle.prompt_run.specs.Play.{Play, Played, played, went}
use Rattle.prompt_run.specs.Runs.{MayGoOn}
use Rattle.prompt_run.specs.Script.{ended_by, final_by, given_by}
use Rattle.prompt_run.specs.Showing.{ShowsRun}
use Rattle.prompt_run.specs.declared.players.Player.{Player}

-- the frames that were kept, joined, are those of the play's events: the terminal that obeyed them is this one
abbrev pub KeepsFrames : Option (List ℕ) → Play → Term → Type 0
KeepsFrames None p t = Unit {0}
KeepsFrames (Some bytes) p t =
    (frames : List (List ℕ)) × FramesShow p.first.screen p.first p.events frames t p.run × (bytes ≡ concat frames)

-- the player has what the play has, and its terminal, with what is on its screen, stands for the play's run
pub record Holds (player : Player) (p : Play) : Type 0 where
  pub state : player.runner.session ≡ p.run.state
  pub shows : ShowsRun player.runner.shown player.screen.terminal p.run
  pub may : MayGoOn player.runner
  pub repeat : player.runner.repeat ≡ repeat_of p.first.state.settings
  pub answers : player.runner.answers ≡ p.answers
  pub reports : player.reports.items ≡ p.reports
  pub frames : KeepsFrames player.screen.frames p player.screen.terminal

-- a line was played: the player goes on from the play behind it, or it is where the script is refused
abbrev pub PlaysLine : Bool → Play → Option ScriptLine → Player → Type 0
PlaysLine true p said player =
    (q : Play) × Holds player q × ((number : ℕ) (rest : Play → Played) → went p number said rest ≡ rest q)
PlaysLine false p said player = Holds player p × ((number : ℕ) (rest : Play → Played) → went p number said rest ≡ (p, Some number))

-- something was set, or it is refused and all is as before
abbrev pub SetsTo : Bool → Given → Option Given → Given → Type 0
SetsTo true old set new = set ≡ Some new
SetsTo false old set new = (set ≡ None) × (new ≡ old)

-- a line set something, or the first part of the script ends before it
abbrev pub SetsLine : Bool → Given → Option ScriptLine → Given → Type 0
SetsLine sets old said new = SetsTo sets old (given_by old said) new

-- the lines of a text were played to their end, or to one that is refused
abbrev pub PlaysLines : Bool → List (List ℕ) → ℕ → Play → Option ℕ → Player → Type 0
PlaysLines long texts number p refused player = (q : Play) × Holds player q × (played long texts p number ≡ (q, refused))

-- a play was ended: its last report was put behind the others, or the refusal, and the frames are those of all its events
pub record Finishes (p : Play) (refused : Option ℕ) (player : Player) (number : ℕ) : Type 0 where
  pub reports : player.reports.items ≡ (ended_by p refused).0
  pub status : number ≡ (ended_by p refused).1
  pub frames : KeepsFrames player.screen.frames (final_by p refused) player.screen.terminal
