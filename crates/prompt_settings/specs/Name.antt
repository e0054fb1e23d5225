-- What a contract sees of the names of settings.
use Rattle.std.specs.Prelude.{ℕ, Bool, false, List, Option, Some, None, codes, if◌then◌else◌, is_some}
use Rattle.std.specs.Str.{bytes_eq}
use Rattle.prompt_settings.specs.declared.names.Setting.{Setting}
use Rattle.prompt_settings.specs.declared.names.Setting.TheVariants.{Message, Toolbar, RightPrompt, Default, Multiline, NoWrap, Password, Size, Repeat, Entry}
use Rattle.prompt_settings.specs.Settings.{Settings}

-- the setting that has this name
abbrev pub setting_named : List ℕ → Option Setting
setting_named name =
    if bytes_eq name (codes "message") then Some Message
    else if bytes_eq name (codes "toolbar") then Some Toolbar
    else if bytes_eq name (codes "rprompt") then Some RightPrompt
    else if bytes_eq name (codes "default") then Some Default
    else if bytes_eq name (codes "multiline") then Some Multiline
    else if bytes_eq name (codes "no-wrap") then Some NoWrap
    else if bytes_eq name (codes "password") then Some Password
    else if bytes_eq name (codes "size") then Some Size
    else if bytes_eq name (codes "repeat") then Some Repeat
    else if bytes_eq name (codes "entry") then Some Entry
    else None

-- the setting has a value; of entries there may be many, so none is ever one too many
abbrev pub was_set : Setting → Settings → Bool
was_set Message settings = is_some settings.message
was_set Toolbar settings = is_some settings.toolbar
was_set RightPrompt settings = is_some settings.right_prompt
was_set Default settings = is_some settings.default
was_set Multiline settings = settings.multiline
was_set NoWrap settings = settings.no_wrap
was_set Password settings = settings.password
was_set Size settings = is_some settings.size
was_set Repeat settings = is_some settings.repeat
was_set Entry settings = false
