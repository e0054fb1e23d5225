-- What is drawn of a state, and how far its window is scrolled.
use Rattle.std.specs.Prelude.{◌≡◌, ℕ, Bool, true, false, not, List, [], ◌∷◌, ◌++◌, take, Option, None, Some, is_some}
use Rattle.cell_grid.specs.declared.attrs.Attrs.{Attrs}
use Rattle.cell_grid.specs.declared.attrs.Colour.TheVariants.{Ansi}
use Rattle.cell_grid.specs.Attrs.{plain}
use Rattle.cell_grid.specs.Size.{Extent}
use Rattle.cell_grid.specs.declared.drawing.Drawing.{Drawing}
use Rattle.edit_state.specs.declared.arguments.Arg.{Arg}
use Rattle.edit_state.specs.declared.states.EditState.{EditState}
use Rattle.edit_state.specs.declared.states.Search.{Search}
use Rattle.prompt_settings.specs.Settings.{Settings, message_of, right_prompt_of, toolbar_of}
use Rattle.prompt_view.specs.declared.scenes.Direction.{Direction}
use Rattle.prompt_view.specs.declared.scenes.Direction.TheVariants.{Forward, Backward}
use Rattle.prompt_view.specs.declared.scenes.SceneLooks.{SceneLooks}
use Rattle.prompt_view.specs.declared.scenes.Selection.TheVariants.{Exclusive}
use Rattle.prompt_view.specs.Drawing.{drawing_of}
use Rattle.prompt_view.specs.Rooms as rooms
use Rattle.prompt_view.specs.Scene.{SceneFields}
use Rattle.win_view.specs.declared.scrolls.Scroll.{Scroll}
use Rattle.session_core.specs.State.{State}

-- attributes that are plain but for a colour, or two, or in reverse
abbrev pub in_colour : ℕ → Attrs
in_colour number = record plain { fg = Some (Ansi number) }

abbrev pub in_colours : ℕ → ℕ → Attrs
in_colours number back = record plain { fg = Some (Ansi number); bg = Some (Ansi back) }

abbrev pub reversed : Attrs → Attrs
reversed attrs = record attrs { reverse = true }

-- the attributes that each class has where no rule says otherwise
abbrev pub usual_looks : SceneLooks
usual_looks = record {
  prompt = plain;
  continuation = plain;
  control = in_colour 4;
  selected = reversed plain;
  suggestion = in_colour 8;
  right_prompt = plain;
  menu = in_colours 0 7;
  chosen = reversed (in_colours 0 7);
  verdict = in_colours 7 1;
  argument = plain;
  search = plain;
  toolbar = reversed plain;
}

-- an argument as it is drawn: a sign where it is negative, and its digits, of which it keeps no more than eight
abbrev pub signed : Bool → List ℕ → List ℕ
signed true digits = 45 ∷ digits
signed false digits = digits

abbrev pub argument_text : Option Arg → List ℕ
argument_text None = []
argument_text (Some arg) = signed arg.negative (take 8 arg.digits)

-- the way of a search, and the text that is searched for
abbrev pub direction_by : Bool → Direction
direction_by true = Forward
direction_by false = Backward

abbrev pub direction_of : Option Search → Option Direction
direction_of None = None
direction_of (Some search) = Some (direction_by search.forward)

abbrev pub needle_of : Option Search → List ℕ
needle_of None = []
needle_of (Some search) = search.needle

-- what is drawn of what is edited
abbrev pub scene_by : Settings → EditState → Bool → Extent → Scroll → SceneFields
scene_by settings e finished size scroll = record {
  message = message_of settings;
  document = e.buffer.doc;
  multiline = e.multiline;
  password = settings.password;
  wrap = not settings.no_wrap;
  selection = Exclusive;
  suggestion = [];
  items = [];
  chosen = None;
  origin = 0;
  completes = false;
  right_prompt = right_prompt_of settings;
  verdict = [];
  argument = argument_text e.arg;
  search = direction_of e.search;
  needle = needle_of e.search;
  toolbar = toolbar_of settings;
  finished = finished;
  size = size;
  scroll = scroll;
  room = None;
  looks = usual_looks;
}

unfoldable pub scene_of : State → SceneFields
scene_of s = scene_by s.settings s.edit (is_some s.outcome) s.size s.scroll

-- the state with its window scrolled to the cursor
unfoldable pub settle : State → State
settle s = record s { scroll = rooms.settled_scroll (scene_of s) }

-- the window is scrolled to the cursor
abbrev pub IsSettled : State → Type 0
IsSettled s = rooms.settled_scroll (scene_of s) ≡ s.scroll

-- the full drawing of a state
unfoldable pub draw : State → Drawing
draw s = drawing_of (scene_of s)
