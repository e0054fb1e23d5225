-- What a contract sees of keys: a whole text, cut into key presses and a rest.
use Rattle.std.specs.Prelude.{ℕ, ◌+◌, ◌-◌, Bool, true, false, List, [], ◌∷◌, ◌++◌, take, drop, Option, Some, None, slice_index, ◌==◌, ◌&&◌, ◌||◌, not, if◌then◌else◌, codes}
use Rattle.std.specs.Option.{option_map}
use Rattle.key_names.specs.declared.key.Key.{Key}
use Rattle.key_names.specs.declared.key.Key.TheVariants.{Char, Ignored, Paste}
use Rattle.key_names.specs.declared.key.KeyPress.{KeyPress}
use Rattle.vt_input.specs.declared.sequence.ControlSequence.{ControlSequence}
use Rattle.vt_input.specs.declared.sequence.ControlSequence.TheVariants.{Unended, Whole, Broken}
use Rattle.vt_input.specs.declared.row.SeqRow.{SeqRow}
use Rattle.characters.specs.Cut.{Cut, First, cut_of}
use Rattle.vt_input.specs.Sequences.{is_prefix, is_proper_prefix, control_sequence, is_begun, is_known, longest_from}

-- ESC [ 200 ~ and ESC [ 201 ~, the marks round a paste (xterm, bracketed paste mode)
abbrev pub opening : List ℕ
opening = 27 ∷ codes "[200~"

abbrev pub ending : List ℕ
ending = 27 ∷ codes "[201~"

-- the most characters of a paste that are kept
abbrev pub paste_limit : ℕ
paste_limit = 32769

-- the place of the first end mark
abbrev pub end_place : List ℕ → Option ℕ
end_place [] = None
end_place (c ∷ cs) = if is_prefix ending (c ∷ cs) then Some 0 else option_map (λ n. n + 1) (end_place cs)

-- each \r\n and each other \r as one \n, behind a \r or not
abbrev pub line_feeds_from : Bool → List ℕ → List ℕ
line_feeds_from returned [] = []
line_feeds_from returned (c ∷ cs) =
    (if c == 13 then 10 ∷ [] else (if returned && c == 10 then [] else c ∷ [])) ++ line_feeds_from (c == 13) cs

-- the text of a paste, from what stands between its marks
abbrev pub pasted : List ℕ → List ℕ
pasted x = take paste_limit (line_feeds_from false x)

abbrev pub paste_press : List ℕ → KeyPress
paste_press text = record { key = Paste; text = text }

-- the text is a proper front of a known sequence, as the opening mark always is, or an open control sequence
abbrev pub is_open : ControlSequence → Bool
is_open Unended = true
is_open (Whole n) = false
is_open Broken = false

abbrev pub waits : List SeqRow → List ℕ → Bool
waits rows x = is_proper_prefix x opening || (is_begun rows x || is_open (control_sequence x))

-- an unknown control sequence is ignored as a whole
abbrev pub chosen_by : List SeqRow → ControlSequence → List ℕ → Key × ℕ → Key × ℕ
chosen_by rows (Whole n) x best = if is_known rows n x then best else (Ignored, n)
chosen_by rows Unended x best = best
chosen_by rows Broken x best = best

-- the key at the front of a text that waits no longer, with the number of its characters
abbrev pub chosen : List SeqRow → List ℕ → Key × ℕ
chosen rows x = chosen_by rows (control_sequence x) x (longest_from rows (Char (slice_index x 0), 1) x)

-- the same, or none where the text waits: in a flush none does
abbrev pub decision : List SeqRow → Bool → List ℕ → Option (Key × ℕ)
decision rows flush x = if not flush && waits rows x then None else Some (chosen rows x)

abbrev pub press_by : List ℕ → Option (Key × ℕ) → Option (KeyPress × ℕ)
press_by x = option_map (λ taken. (record { key = taken.0; text = take taken.1 x }, taken.1 - 1))

-- the paste that begins with this text, once its end mark came: the marks have six characters each
abbrev pub paste_by : List ℕ → Option ℕ → Option (KeyPress × ℕ)
paste_by x = option_map (λ n. (paste_press (pasted (take n x)), n + 11))

-- a flush opens no paste
abbrev pub opens : Bool → List ℕ → Bool
opens flush x = not flush && is_prefix opening x

abbrev pub first_by : Bool → List SeqRow → Bool → List ℕ → Option (KeyPress × ℕ)
first_by true rows flush x = paste_by (drop 6 x) (end_place (drop 6 x))
first_by false rows flush x = press_by x (decision rows flush x)

-- the first key press of a text, and how many characters behind the first one it takes
abbrev pub first_key : List SeqRow → Bool → First KeyPress
first_key rows flush [] = None
first_key rows flush (c ∷ cs) = first_by (opens flush (c ∷ cs)) rows flush (c ∷ cs)

-- the key presses of a whole text, and its rest
abbrev pub keys_of : List SeqRow → Bool → List ℕ → Cut KeyPress
keys_of rows flush x = cut_of (first_key rows flush) x
