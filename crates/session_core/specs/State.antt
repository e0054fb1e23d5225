-- What a contract sees of a session: the state of its prompt.
use Rattle.std.specs.Prelude.{ℕ, Bool, true, false, ◌||◌, List, [], Option, None, is_some, ◌≡◌, IsTrue}
use Rattle.cell_grid.specs.Size.{Extent}
use Rattle.key_names.specs.declared.key.KeyPress.{KeyPress}
use Rattle.vt_input.specs.Inputs.{Parsing, stands_for}
use Rattle.vt_input.specs.StandardRows.{standard_rows}
use Rattle.edit_buffer.specs.Moves as lines
use Rattle.edit_buffer.specs.declared.rings.Clip.{Clip}
use Rattle.edit_state.specs.declared.states.EditState.{EditState}
use Rattle.edit_state.specs.States as edits
use Rattle.prompt_settings.specs.Settings.{Settings, default_of}
use Rattle.win_view.specs.declared.scrolls.Scroll.{Scroll}
use Rattle.session_core.specs.declared.outcomes.Outcome.{Outcome}

-- what is edited, the rest of the input that is no key yet, the keys that are held, the present moment, that of the last piece and that
-- of the last key, all in milliseconds, the terminal's size, how far the buffer's window is scrolled, the settings, the history with its
-- oldest entry first, how the prompt ended if it has, the keys that were left behind the one that ended it, and whether the session
-- ended for a fault
pub record State : Type 0 where
  pub edit : EditState
  pub input : Parsing
  pub held : List KeyPress
  pub moment : ℕ
  pub piece_moment : ℕ
  pub key_moment : ℕ
  pub size : Extent
  pub scroll : Scroll
  pub settings : Settings
  pub history : List (List ℕ)
  pub outcome : Option Outcome
  pub kept : List KeyPress
  pub failed : Bool

-- no further event is taken
abbrev pub has_ended : State → Bool
has_ended s = s.failed || is_some s.outcome

-- the text that each prompt begins with, behind the entries of the history, and a ring
abbrev pub new_line : Settings → List (List ℕ) → List Clip → EditState
new_line settings history ring = edits.opened (lines.opened history (default_of settings)) ring settings.multiline

-- a window that is not scrolled
abbrev pub unscrolled : Scroll
unscrolled = record { down = 0; across = 0 }

-- no bytes of the terminal were read
abbrev pub no_input : Parsing
no_input = stands_for standard_rows []

-- the state before a first prompt
abbrev pub opened : Settings → List (List ℕ) → Extent → ℕ → State
opened settings history size moment = record {
  edit = new_line settings history [];
  input = no_input;
  held = [];
  moment = moment;
  piece_moment = moment;
  key_moment = moment;
  size = size;
  scroll = unscrolled;
  settings = settings;
  history = lines.newest history;
  outcome = None;
  kept = [];
  failed = false;
}

-- the session ends without an outcome
abbrev pub failed : State → State
failed s = record s { outcome = None; failed = true }

-- the session has ended for a fault, and has no outcome
pub record HasFailed (s : State) : Type 0 where
  pub failed : IsTrue s.failed
  pub no_outcome : s.outcome ≡ None
