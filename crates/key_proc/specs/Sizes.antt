-- What is true of each table: its bindings have one to three keys.
use Rattle.std.specs.Prelude.{Bool, ◌&&◌, List, length, nat_le, IsTrue}
use Rattle.std.specs.List.{list_all}
use Rattle.key_proc.specs.declared.bindings.Binding.{Binding}

-- whether a binding has one to three keys
abbrev pub has_size : Binding → Bool
has_size binding = nat_le 1 (length binding.keys) && nat_le (length binding.keys) 3

-- each binding has
abbrev pub AllSized : List Binding → Type 0
AllSized bindings = IsTrue (list_all has_size bindings)
