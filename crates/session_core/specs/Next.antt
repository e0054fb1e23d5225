-- What an event makes of the state of a session that has not ended, and how the prompt behind an accepted text begins.
use Rattle.std.specs.Prelude.{ℕ, ◌-◌, max, [], ◌∷◌, Some, None, Option, Bool, true, false, not, ◌&&◌, nat_le, List, is_some, if◌then◌else◌}
use Rattle.cell_grid.specs.Size.{Extent}
use Rattle.key_names.specs.declared.key.KeyPress.{KeyPress}
use Rattle.events.specs.declared.events.Event.{Event}
use Rattle.events.specs.declared.events.Event.TheVariants.{Start, Piece, Tick, Resize, Answer, End}
use Rattle.vt_input.specs.Inputs.{fed_bytes, flushed, has_waiting, parsing_after, parsing_flushed, stands_for}
use Rattle.session_core.specs.declared.outcomes.Outcome.{Outcome}
use Rattle.session_core.specs.declared.outcomes.Outcome.TheVariants.{Accepted, EndOfFile, Interrupted}
use Rattle.session_core.specs.Draw.{settle}
use Rattle.session_core.specs.History.{history_after}
use Rattle.session_core.specs.Keys.{kept_behind, ran_keys, typing_of, with_typing}
use Rattle.session_core.specs.State.{State, new_line, unscrolled}
use Rattle.session_core.specs.Typing.{drained}

-- the keys that were kept are run
unfoldable pub started : State → State
started s = ran_keys (settle (record s { kept = [] })) s.kept

-- bytes are read, and the keys that they end are run
unfoldable pub pieced : State → List ℕ → State
pieced s bytes = ran_keys (record s { input = parsing_after s.input bytes; piece_moment = s.moment }) (fed_bytes s.input bytes).presses

-- ---- the time

-- half a second after the last piece what waits outside a paste is decided
abbrev pub is_input_due : State → Bool
is_input_due s = has_waiting s.input && nat_le 500 (s.moment - s.piece_moment)

unfoldable pub flushed_input : State → State
flushed_input s =
    if is_input_due s then ran_keys (record s { input = parsing_flushed s.input }) (flushed s.input).presses else s

-- there is a key
abbrev pub has_keys : List KeyPress → Bool
has_keys [] = false
has_keys (key ∷ keys) = true

-- a second after the last key those that are held wait for no more
abbrev pub are_keys_due : State → Bool
are_keys_due s = not (is_some s.outcome) && (has_keys s.held && nat_le 1000 (s.moment - s.key_moment))

-- the keys that are held are kept where the prompt has ended
abbrev pub kept_if_ended : State → State
kept_if_ended s = if is_some s.outcome then kept_behind s [] else s

unfoldable pub flushed_keys : State → State
flushed_keys s = if are_keys_due s then kept_if_ended (with_typing s (drained true (typing_of s))) else s

-- the present moment is the later one
abbrev pub timed : State → ℕ → State
timed s moment = record s { moment = max s.moment moment }

abbrev pub ticked : State → ℕ → State
ticked s moment = flushed_keys (flushed_input (timed s moment))

-- ---- events

-- no setting asks for answers yet, so an answer changes nothing; at the end of the input nothing is left to be read
abbrev pub stepped : State → Event → State
stepped s Start = started s
stepped s (Piece bytes) = pieced s bytes
stepped s (Tick moment) = ticked s moment
stepped s (Resize size) = record s { size = size }
stepped s (Answer batch) = s
stepped s End = record s { outcome = Some EndOfFile; input = stands_for s.input.rows [] }

-- and then the window follows the cursor
unfoldable pub next : State → Event → State
next s event = settle (stepped s event)

-- the size behind an event, which was this one before
abbrev pub size_after : Event → Extent → Extent
size_after Start size = size
size_after (Piece bytes) size = size
size_after (Tick moment) size = size
size_after (Resize new) size = new
size_after (Answer batch) size = size
size_after End size = size

-- a text was accepted
abbrev pub is_accepted : Option Outcome → Bool
is_accepted None = false
is_accepted (Some (Accepted text)) = true
is_accepted (Some EndOfFile) = false
is_accepted (Some Interrupted) = false

-- the next prompt behind an accepted text: the text is in the history, the ring stays, and the keys that were kept are there to be run
unfoldable pub again : State → State
again s = record s {
  edit = new_line s.settings (history_after s.history s.outcome) s.edit.ring;
  history = history_after s.history s.outcome;
  scroll = unscrolled;
  outcome = None;
}
