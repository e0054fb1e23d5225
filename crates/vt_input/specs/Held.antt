-- What a contract sees of what waits: the text outside a paste, or an open paste, of which only what may be kept is held.
use Rattle.std.specs.Prelude.{ℕ, ◌+◌, Bool, true, false, List, [], ◌∷◌, ◌++◌, take, drop, length, Option, Some, None, slice_index, nat_lt, ◌==◌, ◌&&◌, if◌then◌else◌}
use Rattle.key_names.specs.declared.key.KeyPress.{KeyPress}
use Rattle.vt_input.specs.declared.pasted.PastedText.{PastedText}
use Rattle.vt_input.specs.declared.row.SeqRow.{SeqRow}
use Rattle.characters.specs.Cut.{Cut}
use Rattle.vt_input.specs.Sequences.{is_prefix}
use Rattle.vt_input.specs.Pressed.{opening, ending, paste_limit, paste_press, keys_of}

-- an open paste: its text so far, and how many characters of the end mark came last
pub record Paste : Type 0 where
  pub text : PastedText
  pub marked : ℕ

-- what waits: characters outside a paste, or the open paste
pub record Held : Type 0 where
  pub text : List ℕ
  pub paste : Option Paste

-- the key presses that more text gives, and what waits then
pub record Fed : Type 0 where
  pub presses : List KeyPress
  pub held : Held

abbrev pub nothing : Held
nothing = record { text = []; paste = None }

-- a paste that has just begun
abbrev pub begun : Paste
begun = record { text = record { kept = []; returned = false }; marked = 0 }

abbrev pub kept_with : List ℕ → ℕ → List ℕ
kept_with kept c = if nat_lt (length kept) paste_limit then kept ++ c ∷ [] else kept

-- a pasted text with one more character: a \r is a line feed at once, and a \n behind it is none
abbrev pub add_by : Bool → Bool → PastedText → ℕ → PastedText
add_by true follows t c = record { kept = kept_with t.kept 10; returned = true }
add_by false true t c = record { kept = t.kept; returned = false }
add_by false false t c = record { kept = kept_with t.kept c; returned = false }

abbrev pub add : PastedText → ℕ → PastedText
add t c = add_by (c == 13) (t.returned && c == 10) t c

abbrev pub add_all : List ℕ → PastedText → PastedText
add_all [] t = t
add_all (c ∷ cs) t = add_all cs (add t c)

-- a paste after a character that does not go on with the end mark: what had come of the mark is text
abbrev pub missed_by : Bool → PastedText → ℕ → Paste
missed_by true t c = record { text = t; marked = 1 }
missed_by false t c = record { text = add t c; marked = 0 }

abbrev pub missed : Paste → ℕ → Paste
missed p c = missed_by (27 == c) (add_all (take p.marked ending) p.text) c

-- a paste after one more character, or none where that completes the end mark
abbrev pub step_by : Bool → Bool → Paste → ℕ → Option Paste
step_by false last p c = Some (missed p c)
step_by true false p c = Some (record { text = p.text; marked = p.marked + 1 })
step_by true true p c = None

abbrev pub step : Paste → ℕ → Option Paste
step p c = step_by (slice_index ending p.marked == c) (p.marked == 5) p c

-- a paste after more text: still open, or over, with its text and what follows the end mark
pub data Went : Type 0 where
  still : Paste → Went
  over : List ℕ → List ℕ → Went

abbrev pub went_by : Option Paste → List ℕ → List ℕ → (Paste → Went) → Went
went_by None kept cs more = over kept cs
went_by (Some p) kept cs more = more p

abbrev pub went : List ℕ → Paste → Went
went [] p = still p
went (c ∷ cs) p = went_by (step p c) p.text.kept cs (λ q. went cs q)

-- what waits where a text begins a paste
abbrev pub held_still : Went → Held
held_still (still p) = record { text = []; paste = Some p }
held_still (over text rest) = nothing

abbrev pub held_by : Bool → List ℕ → Held
held_by false x = record { text = x; paste = None }
held_by true x = held_still (went (drop 6 x) begun)

-- what is held of the rest of a text
abbrev pub held_of : List ℕ → Held
held_of x = held_by (is_prefix opening x) x

abbrev pub fed_cut : Cut KeyPress → Fed
fed_cut cut = record { presses = cut.items; held = held_of cut.rest }

abbrev pub press_first : KeyPress → Fed → Fed
press_first press fed = record { presses = press ∷ fed.presses; held = fed.held }

abbrev pub fed_went : List SeqRow → Bool → Went → Fed
fed_went rows flush (still p) = record { presses = []; held = record { text = []; paste = Some p } }
fed_went rows flush (over text rest) = press_first (paste_press text) (fed_cut (keys_of rows flush rest))

-- what a text gives, outside a paste or in one
abbrev pub fed_by : List SeqRow → Bool → Option Paste → List ℕ → Fed
fed_by rows flush None x = fed_cut (keys_of rows flush x)
fed_by rows flush (Some p) x = fed_went rows flush (went x p)

-- key presses before those of a text
abbrev pub with_presses : List KeyPress → Fed → Fed
with_presses front fed = record { presses = front ++ fed.presses; held = fed.held }
