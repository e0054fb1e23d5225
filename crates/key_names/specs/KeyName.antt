-- What a contract sees of names: the one name of each key that has a name.
use Rattle.std.specs.Prelude.{ℕ, ◌-◌, Bool, List, [], ◌∷◌, ◌++◌, Option, Some, None, codes, slice_get, nat_le, ◌==◌, ◌&&◌, ◌||◌, not, if◌then◌else◌}
use Rattle.key_names.specs.declared.key.Key.{Key}
use Rattle.key_names.specs.declared.key.Key.TheVariants.{Char, Control, Escape, Up, Down, Left, Right, Home, End, Insert, Delete, PageUp, PageDown, BackTab, Function, ShiftUp, ShiftDown, ShiftLeft, ShiftRight, ControlUp, ControlDown, ControlLeft, ControlRight, Paste, Ignored, Any}

-- a character that may be a key by itself: U+0000 to U+001F and U+007F are none
abbrev pub is_plain : ℕ → Bool
is_plain c = nat_le 32 c && not (c == 127)

-- what may be typed with the control key: @, a to z, \, ], ^ and _
abbrev pub is_control_letter : ℕ → Bool
is_control_letter c = c == 64 || (nat_le 97 c && nat_le c 122) || (nat_le 92 c && nat_le c 95)

-- the names of the function keys, from the first on
abbrev pub function_names : List (List ℕ)
function_names =
    codes "f1" ∷ codes "f2" ∷ codes "f3" ∷ codes "f4" ∷ codes "f5" ∷ codes "f6" ∷ codes "f7" ∷ codes "f8" ∷ codes "f9" ∷ codes "f10" ∷ codes "f11" ∷ codes "f12" ∷ []

-- the name of the function key with this number, counted from 1
abbrev pub function_name : ℕ → Option (List ℕ)
function_name n = if n == 0 then None else slice_get function_names (n - 1)

-- the word that names a key: characters but the space, and control keys, have none
abbrev pub word_of : Key → Option (List ℕ)
word_of (Char c) = if c == 32 then Some (codes "space") else None
word_of (Control c) = None
word_of Escape = Some (codes "escape")
word_of Up = Some (codes "up")
word_of Down = Some (codes "down")
word_of Left = Some (codes "left")
word_of Right = Some (codes "right")
word_of Home = Some (codes "home")
word_of End = Some (codes "end")
word_of Insert = Some (codes "insert")
word_of Delete = Some (codes "delete")
word_of PageUp = Some (codes "pageup")
word_of PageDown = Some (codes "pagedown")
word_of BackTab = Some (codes "s-tab")
word_of (Function n) = function_name n
word_of ShiftUp = Some (codes "s-up")
word_of ShiftDown = Some (codes "s-down")
word_of ShiftLeft = Some (codes "s-left")
word_of ShiftRight = Some (codes "s-right")
word_of ControlUp = Some (codes "c-up")
word_of ControlDown = Some (codes "c-down")
word_of ControlLeft = Some (codes "c-left")
word_of ControlRight = Some (codes "c-right")
word_of Paste = Some (codes "paste")
word_of Ignored = Some (codes "ignored")
word_of Any = Some (codes "any")

-- the name of a character: itself, but for the space
abbrev pub char_name : ℕ → Option (List ℕ)
char_name c = if c == 32 then Some (codes "space") else (if is_plain c then Some (c ∷ []) else None)

-- the name of a control key: c- and what is typed with it
abbrev pub control_name : ℕ → Option (List ℕ)
control_name c = if is_control_letter c then Some (codes "c-" ++ c ∷ []) else None

-- the name of a key, if it has one
abbrev pub name_of : Key → Option (List ℕ)
name_of (Char c) = char_name c
name_of (Control c) = control_name c
name_of key = word_of key
