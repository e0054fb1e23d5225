-- How the fields of a session stand for its state, and what holds of them.
use Rattle.std.specs.Prelude.{◌≡◌, ◌<◌, ◌≤◌, List, length, Option}
use Rattle.std.specs.List.{All}
use Rattle.edit_cmds.specs.EmacsTable.{emacs_table}
use Rattle.edit_state.specs.Searches.{HasOrigin}
use Rattle.vt_input.specs.StandardRows.{standard_rows}
use Rattle.session_core.specs.declared.sessions.Session.TheInside.{Inside}
use Rattle.session_core.specs.Outcomes.{IsShortOutcome}
use Rattle.session_core.specs.State.{State}

-- each field but the bindings is a part of the state
abbrev pub state_of : Inside → State
state_of s = record {
  edit = s.edit;
  input = s.parser;
  held = s.held;
  moment = s.moment;
  piece_moment = s.piece_moment;
  key_moment = s.key_moment;
  size = s.size;
  scroll = s.scroll;
  settings = s.config;
  history = s.history.items;
  outcome = s.outcome;
  kept = s.kept;
  failed = s.failed;
}

-- the bindings are those of Emacs keys, another key can be held, a search has begun at a place, and no text is longer than a document's
pub record IsKept (s : Inside) : Type 0 where
  pub table : s.bindings ≡ emacs_table
  pub room : length s.held < 3
  pub origin : HasOrigin s.edit
  pub short : IsShortOutcome s.outcome
  pub entries : All (λ entry. length entry ≤ 32768) s.history.items
