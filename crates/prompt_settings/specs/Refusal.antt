-- What a contract sees of setting a value by its name: why it is refused, and the settings where it is not.
use Rattle.std.specs.Prelude.{ℕ, List, Option, Some, None, if◌then◌else◌}
use Rattle.prompt_settings.specs.declared.configs.SetFault.{SetFault}
use Rattle.prompt_settings.specs.declared.configs.SetFault.TheVariants.{UnknownName, Repeated, BadValue}
use Rattle.prompt_settings.specs.declared.names.Setting.{Setting}
use Rattle.prompt_settings.specs.Name.{setting_named, was_set}
use Rattle.prompt_settings.specs.Settings.{Settings}
use Rattle.prompt_settings.specs.Value.{is_value, with_value}

-- why a value of the setting that has the name, if one has, is refused: the first of the reasons
abbrev pub refusal_for : Option Setting → Settings → List ℕ → Option SetFault
refusal_for None settings value = Some UnknownName
refusal_for (Some setting) settings value =
    if was_set setting settings then Some Repeated else if is_value setting value then None else Some BadValue

-- why the value of a name is refused, if it is
abbrev pub refusal_of : Settings → List ℕ → List ℕ → Option SetFault
refusal_of settings name value = refusal_for (setting_named name) settings value

-- the settings with the value of the setting that has the name, if one has
abbrev pub with_named : Option Setting → Settings → List ℕ → Settings
with_named None settings value = settings
with_named (Some setting) settings value = with_value setting value settings

-- the settings with this value of this name
abbrev pub with_setting : Settings → List ℕ → List ℕ → Settings
with_setting settings name value = with_named (setting_named name) settings value
