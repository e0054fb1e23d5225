-- What a contract sees of a drawn text: the cells of one line, which its fragments give from left to right.
use Rattle.std.specs.Prelude.{ℕ, ◌+◌, ◌/◌, ◌%◌, Bool, true, false, ◌&&◌, ◌||◌, List, [], ◌∷◌, ◌++◌, map, unwrap_or, nat_eq, nat_lt, nat_le, fold, if◌then◌else◌}
use Rattle.unicode_width.specs.Width.{char_width}
use Rattle.cell_grid.specs.declared.attrs.Attrs.{Attrs}
use Rattle.cell_grid.specs.declared.cell.Cell.{Cell}
use Rattle.cell_grid.specs.declared.cell.Cell.TheVariants.{Lead, Tail}
use Rattle.cell_grid.specs.declared.fragment.Fragment.{Fragment}
use Rattle.cell_grid.specs.Cell.{joined, narrow, spread}

-- a control character: U+0000 to U+001F or U+007F to U+009F (Unicode's general category Cc)
abbrev pub is_control : ℕ → Bool
is_control char = nat_lt char 32 || (nat_le 127 char && nat_lt char 160)

-- a hexadecimal digit, in lower case
abbrev pub hex_digit : ℕ → ℕ
hex_digit n = if nat_lt n 10 then 48 + n else 87 + n

-- a control character as it is drawn: ^@ to ^_, ^?, <80> to <9f>
abbrev pub spelled : ℕ → List ℕ
spelled char =
    if nat_lt char 32 then 94 ∷ (64 + char) ∷ []
    else if nat_eq char 127 then 94 ∷ 63 ∷ []
    else 60 ∷ hex_digit (char / 16) ∷ hex_digit (char % 16) ∷ 62 ∷ []

-- some cell is a Lead
abbrev pub has_lead : List Cell → Bool
has_lead [] = false
has_lead (Lead text width attrs ∷ rest) = true
has_lead (Tail ∷ rest) = has_lead rest

-- the cells with a character joined to the last Lead, where there is one and it has room
abbrev pub joined_last : List Cell → ℕ → List Cell
joined_last [] char = []
joined_last (Lead text width attrs ∷ rest) char =
    if has_lead rest then Lead text width attrs ∷ joined_last rest char else joined (Lead text width attrs) char ∷ rest
joined_last (Tail ∷ rest) char = Tail ∷ joined_last rest char

-- the Lead of a character of this width; one of more than two columns is drawn as U+FFFD
abbrev pub lead_of : ℕ → ℕ → Attrs → Cell
lead_of char width attrs = if nat_lt 2 width then narrow 65533 attrs else Lead (char ∷ []) width attrs

-- the cells with one more character behind them, which is no control character
abbrev pub with_char : List Cell → ℕ → ℕ → Attrs → List Cell
with_char cells char width attrs =
    if nat_eq char 160 then cells ++ narrow 32 attrs ∷ []
    else if nat_eq width 0 then joined_last cells char
    else cells ++ spread (lead_of char width attrs)

-- the cells with one more character of a fragment behind them
abbrev pub with_next : Attrs → Attrs → List Cell → ℕ → List Cell
with_next attrs control cells char =
    if is_control char then cells ++ map (λ piece. narrow piece control) (spelled char)
    else with_char cells char (unwrap_or (char_width false char) 0) attrs

-- the cells with those of these characters behind them
abbrev pub with_chars : Attrs → Attrs → List Cell → List ℕ → List Cell
with_chars attrs control cells chars = fold (with_next attrs control) cells chars

-- the cells with those of a fragment behind them
abbrev pub with_fragment : List Cell → Fragment → List Cell
with_fragment cells fragment = with_chars fragment.attrs fragment.control cells fragment.text

-- the cells of a line that is drawn from these fragments
abbrev pub cells_of : List Fragment → List Cell
cells_of fragments = fold with_fragment [] fragments
