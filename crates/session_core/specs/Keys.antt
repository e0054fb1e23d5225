-- What keys make of a state: each is held with those before it until bindings of them fire, and the window follows the cursor behind each.
use Rattle.std.specs.Prelude.{ℕ, Bool, true, false, List, [], ◌∷◌, ◌++◌, Option, None, Some, is_some, if◌then◌else◌}
use Rattle.key_names.specs.declared.key.KeyPress.{KeyPress}
use Rattle.session_core.specs.Draw.{settle}
use Rattle.session_core.specs.State.{State}
use Rattle.session_core.specs.Typing.{Typing, drained}

-- what keys change of a state
abbrev pub typing_of : State → Typing
typing_of s = record { edit = s.edit; held = s.held; outcome = s.outcome }

abbrev pub with_typing : State → Typing → State
with_typing s t = record s { edit = t.edit; held = t.held; outcome = t.outcome }

-- one more key is held
abbrev pub pressed : KeyPress → Typing → Typing
pressed key t = record t { held = t.held ++ key ∷ [] }

-- a key is run
unfoldable pub ran_key : State → KeyPress → State
ran_key s key = settle (with_typing (record s { key_moment = s.moment }) (drained false (pressed key (typing_of s))))

-- where the prompt has ended, the keys that are held are kept, and these behind them
abbrev pub kept_behind : State → List KeyPress → State
kept_behind s keys = record s { held = []; kept = s.held ++ keys }

-- keys are run in order; one that ends the prompt is the last
abbrev pub ran_keys : State → List KeyPress → State
ran_keys s [] = s
ran_keys s (key ∷ keys) =
    if is_some (ran_key s key).outcome then kept_behind (ran_key s key) keys else ran_keys (ran_key s key) keys
