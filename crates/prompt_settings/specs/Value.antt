-- What a contract sees of the values of settings.
use Rattle.std.specs.Prelude.{ℕ, ◌≤◌, Bool, true, ◌&&◌, not, List, length, codes, Option, Some, nat_le, is_some, IsTrue}
use Rattle.std.specs.Str.{bytes_eq}
use Rattle.std.specs.List.{list_all}
use Rattle.std.specs.Option.{ForSome}
use Rattle.cell_grid.specs.TextCells.{is_control}
use Rattle.prompt_settings.specs.declared.names.Setting.{Setting}
use Rattle.prompt_settings.specs.declared.names.Setting.TheVariants.{Message, Toolbar, RightPrompt, Default, Multiline, NoWrap, Password, Size, Repeat, Entry}
use Rattle.prompt_settings.specs.Number.{number_of, positive}
use Rattle.prompt_settings.specs.Settings.{Settings}
use Rattle.prompt_settings.specs.Size.{size_of}

-- at most 200 characters, none of them a control character
abbrev pub is_short_line : List ℕ → Bool
is_short_line text = nat_le (length text) 200 && list_all (λ c. not (is_control c)) text

-- a number of lines, from 1 to 100
abbrev pub line_count : List ℕ → Option ℕ
line_count text = positive (number_of 100 text)

-- a text of a document has at most 32,768 characters
abbrev pub is_text : List ℕ → Bool
is_text text = nat_le (length text) 32768

-- an entry of a history is such a text, and not empty
abbrev pub is_entry : List ℕ → Bool
is_entry text = nat_le 1 (length text) && is_text text

-- what is drawn in a row of its own is not empty
abbrev pub is_bar : List ℕ → Bool
is_bar text = nat_le 1 (length text) && is_short_line text

-- what is on or off is switched on
abbrev pub is_on : List ℕ → Bool
is_on text = bytes_eq text (codes "on")

-- the setting may have this value: a size is written with an `x` (120), as `24x80`
abbrev pub is_value : Setting → List ℕ → Bool
is_value Message value = is_short_line value
is_value Toolbar value = is_bar value
is_value RightPrompt value = is_bar value
is_value Default value = is_text value
is_value Multiline value = is_on value
is_value NoWrap value = is_on value
is_value Password value = is_on value
is_value Size value = is_some (size_of 120 value)
is_value Repeat value = is_some (line_count value)
is_value Entry value = is_entry value

-- the settings with this value of the setting; who sets an entry keeps it himself
abbrev pub with_value : Setting → List ℕ → Settings → Settings
with_value Message value settings = record settings { message = Some value }
with_value Toolbar value settings = record settings { toolbar = Some value }
with_value RightPrompt value settings = record settings { right_prompt = Some value }
with_value Default value settings = record settings { default = Some value }
with_value Multiline value settings = record settings { multiline = true }
with_value NoWrap value settings = record settings { no_wrap = true }
with_value Password value settings = record settings { password = true }
with_value Size value settings = record settings { size = size_of 120 value }
with_value Repeat value settings = record settings { repeat = line_count value }
with_value Entry value settings = settings

-- the texts that were set may be set, and so may a number of lines
pub record IsSettings (settings : Settings) : Type 0 where
  pub message : ForSome settings.message (λ message. IsTrue (is_short_line message))
  pub toolbar : ForSome settings.toolbar (λ text. IsTrue (is_bar text))
  pub right_prompt : ForSome settings.right_prompt (λ text. IsTrue (is_bar text))
  pub default : ForSome settings.default (λ text. IsTrue (is_text text))
  pub some_lines : ForSome settings.repeat (λ lines. 1 ≤ lines)
  pub few_lines : ForSome settings.repeat (λ lines. lines ≤ 100)
