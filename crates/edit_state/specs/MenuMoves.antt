-- What choices in the menu make of an edit state. Before the first item is none, and before none the last.
use Rattle.std.specs.Prelude.{◌≡◌, ℕ, ◌<◌, ◌+◌, ◌-◌, Bool, true, false, ◌==◌, nat_lt, length, Option, None, Some, if◌then◌else◌}
use Rattle.std.specs.Option.{ForSome}
use Prim.Native.Nat.{zero, suc}
use Rattle.edit_buffer.specs.declared.menus.Menu.{Menu}
use Rattle.edit_buffer.specs.Menus.{choice, chosen_in}
use Rattle.edit_state.specs.declared.states.EditState.{EditState}

-- the choice before this one in a menu of `count` items
abbrev pub choice_before : ℕ → Option ℕ → Option ℕ
choice_before count None = if count == 0 then None else Some (count - 1)
choice_before count (Some i) = if i == 0 then None else Some (i - 1)

-- the choice behind this one
abbrev pub choice_behind : ℕ → Option ℕ → Option ℕ
choice_behind count None = if count == 0 then None else Some 0
choice_behind count (Some i) = if nat_lt (i + 1) count then Some (i + 1) else None

abbrev pub choice_beside : Bool → ℕ → Option ℕ → Option ℕ
choice_beside true count which = choice_behind count which
choice_beside false count which = choice_before count which

-- the text of this choice would be too long
abbrev pub is_too_long : Menu → Option ℕ → Bool
is_too_long m which = nat_lt 32768 (length (choice m which).text)

-- the choice so many steps on, or the last one before a text that is too long
abbrev pub choice_after : Bool → Menu → ℕ → Option ℕ → Option ℕ
choice_after forward m zero which = which
choice_after forward m (suc steps) which =
    let next = choice_beside forward (length m.items) which in
    if is_too_long m next then which else choice_after forward m steps next

-- a text that is too long stands in the way
abbrev pub is_stopped : Bool → Menu → ℕ → Option ℕ → Bool
is_stopped forward m zero which = false
is_stopped forward m (suc steps) which =
    let next = choice_beside forward (length m.items) which in
    if is_too_long m next then true else is_stopped forward m steps next

-- at least one step can be made
abbrev pub can_step : Bool → Menu → ℕ → Option ℕ → Bool
can_step forward m zero which = false
can_step forward m (suc steps) which = if is_too_long m (choice_beside forward (length m.items) which) then false else true

-- the state after so many choices, one beside the other; the column is forgotten
abbrev pub chosen_steps : Bool → EditState → ℕ → Option Menu → EditState
chosen_steps forward s steps None = s
chosen_steps forward s steps (Some m) = record s {
  buffer = if can_step forward m steps m.chosen then chosen_in (Some m) s.buffer (choice_after forward m steps m.chosen) else s.buffer;
  column = None;
}

-- the choices of the menu, if there is one
abbrev pub choices : Bool → EditState → ℕ → EditState
choices forward s steps = chosen_steps forward s steps s.buffer.menu

-- a choice whose text would be too long comes up
abbrev pub stops : Bool → ℕ → Option Menu → Bool
stops forward steps None = false
stops forward steps (Some m) = is_stopped forward m steps m.chosen

-- there is a menu, with this choice, whose text is not too long
abbrev pub IsChoice : Option Menu → Option ℕ → Type 0
IsChoice None which = ⊥
IsChoice (Some m) which = ForSome which (λ i. i < length m.items) × (is_too_long m which ≡ false)
