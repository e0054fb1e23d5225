-- What a contract sees of a replay.
use Rattle.std.specs.List.{concat}
use Rattle.std.specs.Prelude.{◌≡◌, ℕ, Bool, true, false, List, [], ◌∷◌, Option, Some, None, codes}
use Rattle.std.specs.Str.{bytes_eq}
use Rattle.std.specs.Io.{StartsWith}
use Rattle.std.specs.Io.KnownBytes.{Appends}
use Rattle.term_model.specs.Term.{Term}
use Rattle.term_model.specs.Obeying.{obeyed_bytes}
use Rattle.prompt_run.specs.FramesShown.{FramesShow, obeyed_each}
use Rattle.prompt_run.specs.Play.{Play}
use Rattle.prompt_run.specs.Script.{ended_by, final_by, final_play, output}
use Rattle.prompt_run.specs.Source.{ReadsScript}

-- the word that asks for the frames in place of the reports
abbrev pub frames_word : List ℕ
frames_word = codes "--frames"

-- whether the words ask for frames, where they are words of the command: none, or that one
abbrev pub asks_frames : List (List ℕ) → Option Bool
asks_frames [] = Some false
asks_frames (word ∷ []) = asked_by (bytes_eq word frames_word)
  where
    asked_by : Bool → Option Bool
    asked_by true = Some true
    asked_by false = None
asks_frames (word ∷ next ∷ words) = None

-- the bytes of the frames of a play: there is one frame for each event, and the terminal that obeys them, and takes each resize with
-- the run, shows the run's screen after each; any terminal that obeys the joined frames at once does what it does by each of them
pub record IsFramesOf (p : Play) (bytes : List ℕ) : Type 0 where
  pub frames : List (List ℕ)
  pub last : Term
  pub show : FramesShow p.first.screen p.first p.events frames last p.run
  pub joined : bytes ≡ concat frames
  pub at_once : (t : Term) → obeyed_bytes t bytes ≡ obeyed_each t frames

-- what a replay puts on its sink
abbrev pub IsOutput : Bool → List ℕ → List ℕ → Type 0
IsOutput false script bytes = bytes ≡ (output script).0
IsOutput true script bytes = IsFramesOf (final_play script) bytes

-- what is put on the sink behind a play, by the number of the line that was refused, if one was, and the status
abbrev pub Closes : Bool → Play → Option ℕ → List ℕ → ℕ → Type 0
Closes false p refused bytes status = (bytes ≡ (ended_by p refused).0) × (status ≡ (ended_by p refused).1)
Closes true p refused bytes status = IsFramesOf (final_by p refused) bytes × (status ≡ (ended_by p refused).1)

-- the script that was read of a source was played to its status, and all that it prints was put on the sink
abbrev pub PrintsOutput : Bool → Option (List ℕ) → Option (List ℕ) → Option (List ℕ) → Option (List ℕ) → ℕ → Type 0
PrintsOutput frames source left before now status =
    (script bytes : List ℕ) × ReadsScript source left script × IsOutput frames script bytes × Appends before now bytes × (status ≡ (output script).1)

-- some bytes from the front of what the script prints were put on the sink
abbrev pub PrintsPart : Bool → Option (List ℕ) → Option (List ℕ) → Option (List ℕ) → Option (List ℕ) → Type 0
PrintsPart frames source left before now =
    (script bytes : List ℕ) × ReadsScript source left script × IsOutput frames script bytes
    × ((part : List ℕ) × StartsWith bytes part × Appends before now part)

-- what each status says of the bytes that were put on the sink: nothing for words that are not known, for a source that failed and where
-- there was no memory, a part where the sink failed, and else the whole output
pub record ReplaysTo (frames : Bool) (source left before now : Option (List ℕ)) (status : ℕ) : Type 0 where
  pub whole : (status ≡ 2 → ⊥) → (status ≡ 3 → ⊥) → (status ≡ 5 → ⊥) → (status ≡ 8 → ⊥) → PrintsOutput frames source left before now status
  pub part : status ≡ 5 → PrintsPart frames source left before now

-- words of the command replay; others are told by the status alone
abbrev pub Replays : Option Bool → Option (List ℕ) → Option (List ℕ) → Option (List ℕ) → Option (List ℕ) → ℕ → Type 0
Replays None source left before now status = Unit {0}
Replays (Some frames) source left before now status = ReplaysTo frames source left before now status
