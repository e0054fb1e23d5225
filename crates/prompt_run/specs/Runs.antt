-- What a contract sees of a run of prompts over an outside.
use Rattle.std.specs.Prelude.{◌≡◌, ◌⊎◌, ℕ, Bool, true, false, List, ◌++◌, codes, encode_utf8_all, is_some, Result, Ok, Err}
use Rattle.diff_render.specs.declared.shown.OnScreen.TheVariants.{Nothing}
use Rattle.prompt_run.specs.Turn.{MayTurn}
use Rattle.prompt_run.specs.declared.runners.RunFault.{RunFault}
use Rattle.prompt_run.specs.declared.runners.RunFault.TheVariants.{Inbox, Screen, Keeper, NoMemory}
use Rattle.prompt_run.specs.declared.runners.Runner.{Runner}

-- what is on the screen may be used in the next turn, and behind an outcome nothing is
pub record MayGoOn (runner : Runner) : Type 0 where
  pub drawn : MayTurn runner.session runner.shown
  pub ended : is_some runner.session.outcome ≡ true → runner.shown ≡ Nothing

-- an accepted line as it is put: in UTF-8, and a line feed behind it
abbrev pub line_row : List ℕ → List ℕ
line_row line = encode_utf8_all line ++ codes "\n"

-- the status of a run without a fault
abbrev pub IsRunStatus : ℕ → Type 0
IsRunStatus status = (status ≡ 0) ⊎ (status ≡ 1) ⊎ (status ≡ 130)

-- the status of a fault of a run
abbrev pub fault_status : RunFault → ℕ
fault_status Inbox = 3
fault_status Screen = 4
fault_status Keeper = 6
fault_status NoMemory = 8

-- what the lines were put with, by the status of a fault that it had
abbrev pub put_status : Result (Unit {0}) ℕ → ℕ → ℕ
put_status (Ok done) status = status
put_status (Err fault) status = fault

-- the terminal could not be left, or the lines were put
abbrev pub left_status : Bool → Result (Unit {0}) ℕ → ℕ → ℕ
left_status true put status = 7
left_status false put status = put_status put status

-- the status of the first fault in time: of the run, of leaving the terminal, of putting the lines; else that of the run
abbrev pub first_status : Result ℕ RunFault → Bool → Result (Unit {0}) ℕ → ℕ
first_status (Err fault) raw put = fault_status fault
first_status (Ok status) raw put = left_status raw put status
