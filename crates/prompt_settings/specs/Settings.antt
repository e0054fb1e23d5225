-- What a contract sees of the settings: of each name the value that was set.
use Rattle.std.specs.Prelude.{ℕ, Bool, false, List, [], ◌∷◌, Option, None, unwrap_or}
use Rattle.cell_grid.specs.Size.{Extent}

-- the values that were set, none where nothing was, and what was switched on
pub record Settings : Type 0 where
  pub message : Option (List ℕ)
  pub toolbar : Option (List ℕ)
  pub right_prompt : Option (List ℕ)
  pub default : Option (List ℕ)
  pub multiline : Bool
  pub no_wrap : Bool
  pub password : Bool
  pub size : Option Extent
  pub repeat : Option ℕ

-- no name was set
abbrev pub no_settings : Settings
no_settings = record {
  message = None;
  toolbar = None;
  right_prompt = None;
  default = None;
  multiline = false;
  no_wrap = false;
  password = false;
  size = None;
  repeat = None;
}

-- the message that was set, else `> `
abbrev pub message_of : Settings → List ℕ
message_of settings = unwrap_or settings.message (62 ∷ 32 ∷ [])

-- the texts that were set, else none
abbrev pub toolbar_of : Settings → List ℕ
toolbar_of settings = unwrap_or settings.toolbar []

abbrev pub right_prompt_of : Settings → List ℕ
right_prompt_of settings = unwrap_or settings.right_prompt []

abbrev pub default_of : Settings → List ℕ
default_of settings = unwrap_or settings.default []

-- how many lines a run accepts before it ends: the number that was set, else 1
abbrev pub repeat_of : Settings → ℕ
repeat_of settings = unwrap_or settings.repeat 1
