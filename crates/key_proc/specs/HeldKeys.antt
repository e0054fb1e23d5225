-- What a contract sees of held keys: the list of their presses.
use Rattle.std.specs.Prelude.{Option, Some, None}
use Rattle.key_names.specs.declared.key.Key.{Key}
use Rattle.key_names.specs.declared.key.KeyPress.{KeyPress}
use Rattle.key_names.specs.declared.key.Key.TheVariants.{Any}

-- no place is empty before one that holds a press
abbrev pub HasNoGap : Option KeyPress → Option KeyPress → Option KeyPress → Type 0
HasNoGap (Some a) (Some b) third = Unit {0}
HasNoGap (Some a) None (Some c) = ⊥
HasNoGap (Some a) None None = Unit {0}
HasNoGap None (Some b) third = ⊥
HasNoGap None None (Some c) = ⊥
HasNoGap None None None = Unit {0}

-- the key of a press, and `Any` where there is none
abbrev pub key_or_any : Option KeyPress → Key
key_or_any None = Any
key_or_any (Some press) = press.key
