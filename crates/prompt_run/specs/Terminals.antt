-- What a contract sees of a terminal that obeyed a frame, and of the frames that are kept.
use Rattle.std.specs.Prelude.{◌≡◌, ℕ, ◌++◌, List, Option, Some, None}
use Rattle.term_model.specs.Obeying.{obeyed_bytes}
use Rattle.term_model.specs.Term.{Term, IsTerminal}
use Rattle.prompt_run.specs.declared.terminals.TerminalScreen.{TerminalScreen}

-- the new terminal is the old one behind the bytes of the frame
pub record Obeys (old : Term) (frame : List ℕ) (new : Term) : Type 0 where
  pub obeyed : new ≡ obeyed_bytes old frame
  pub terminal : IsTerminal new

-- the bytes of the frame stand behind those of the frames before, where they are kept
abbrev pub Keeps : Option (List ℕ) → List ℕ → Option (List ℕ) → Type 0
Keeps None frame new = new ≡ None
Keeps (Some bytes) frame new = new ≡ Some (bytes ++ frame)

-- a terminal took a frame: it obeyed its bytes, and keeps them
abbrev pub Takes : TerminalScreen → List ℕ → TerminalScreen → Type 0
Takes old frame new = Obeys old.terminal frame new.terminal × Keeps old.frames frame new.frames
