-- What a contract sees of sequences: fronts of texts, control sequences (ECMA-48, 5.4), and the rows of a table.
use Rattle.std.specs.Prelude.{◌≡◌, ℕ, ◌+◌, Bool, true, false, List, [], ◌∷◌, length, drop, Option, Some, None, nat_le, nat_lt, ◌==◌, ◌&&◌, ◌||◌, not, if◌then◌else◌}
use Rattle.std.specs.List.{list_any, list_all}
use Rattle.characters.specs.ControlCharacters.{is_parameter, is_intermediate, is_final}
use Rattle.key_names.specs.declared.key.Key.{Key}
use Rattle.key_names.specs.KeyName.{is_plain}
use Rattle.vt_input.specs.declared.sequence.ControlSequence.{ControlSequence}
use Rattle.vt_input.specs.declared.sequence.ControlSequence.TheVariants.{Unended, Whole, Broken}
use Rattle.vt_input.specs.declared.row.SeqRow.{SeqRow}

-- the first list is a front of the second
abbrev pub is_prefix : List ℕ → List ℕ → Bool
is_prefix [] x = true
is_prefix (r ∷ rs) [] = false
is_prefix (r ∷ rs) (c ∷ cs) = r == c && is_prefix rs cs

-- the first list is a front of the second, and shorter
abbrev pub is_proper_prefix : List ℕ → List ℕ → Bool
is_proper_prefix x [] = false
is_proper_prefix [] (r ∷ rs) = true
is_proper_prefix (c ∷ cs) (r ∷ rs) = r == c && is_proper_prefix cs rs

-- the most characters of a control sequence
abbrev pub sequence_limit : ℕ
sequence_limit = 64

-- ESC [, which introduces a control sequence
abbrev pub introducer : List ℕ
introducer = 27 ∷ 91 ∷ []

-- a character before the final one, and whether an intermediate one has come then: behind one no parameter stands
abbrev pub late_after : ℕ → Bool → Option Bool
late_after c late = if is_intermediate c then Some true else (if is_parameter c && not late then Some false else None)

abbrev pub sequence_on : Option Bool → (Bool → ControlSequence) → ControlSequence
sequence_on None more = Broken
sequence_on (Some late) more = more late

-- the same behind n characters of a sequence
abbrev pub sequence_from : List ℕ → ℕ → Bool → ControlSequence
sequence_from [] n late = if nat_lt n sequence_limit then Unended else Broken
sequence_from (c ∷ cs) n late =
    if nat_lt n sequence_limit then (if is_final c then Whole (n + 1) else sequence_on (late_after c late) (λ l. sequence_from cs (n + 1) l)) else Broken

-- whether a text begins with a whole control sequence, or is an open one
abbrev pub control_sequence : List ℕ → ControlSequence
control_sequence x = if is_prefix introducer x then sequence_from (drop 2 x) 2 false else Broken

-- the text is a proper front of a row's
abbrev pub is_begun : List SeqRow → List ℕ → Bool
is_begun rows x = list_any (λ row. is_proper_prefix x row.text) rows

-- the first n characters of the text are a row
abbrev pub is_known : List SeqRow → ℕ → List ℕ → Bool
is_known rows n x = list_any (λ row. is_prefix row.text x && length row.text == n) rows

-- a row that is a front of the text, and no shorter than the best so far, is the best
abbrev pub longer : SeqRow → Key × ℕ → List ℕ → Key × ℕ
longer row best x = if is_prefix row.text x && nat_le best.1 (length row.text) then (row.key, length row.text) else best

-- the key of the longest row that is a front of the text, with its length, or the best so far
abbrev pub longest_from : List SeqRow → Key × ℕ → List ℕ → Key × ℕ
longest_from [] best x = best
longest_from (row ∷ rows) best x = longest_from rows (longer row best x) x

-- the first list comes before the second in the order of characters
abbrev pub is_before : List ℕ → List ℕ → Bool
is_before x [] = false
is_before [] (d ∷ ds) = true
is_before (c ∷ cs) (d ∷ ds) = nat_lt c d || (c == d && is_before cs ds)

abbrev pub is_before_first : List ℕ → List SeqRow → Bool
is_before_first x [] = true
is_before_first x (row ∷ rows) = is_before x row.text

-- each row comes before the next, so that none stands twice
abbrev pub is_sorted : List SeqRow → Bool
is_sorted [] = true
is_sorted (row ∷ rows) = is_before_first row.text rows && is_sorted rows

-- no row is longer than a control sequence may be
abbrev pub is_short : List SeqRow → Bool
is_short rows = list_all (λ row. nat_le (length row.text) sequence_limit) rows

-- the text begins with a character that is no control character
abbrev pub begins_plain : List ℕ → Bool
begins_plain [] = false
begins_plain (c ∷ cs) = is_plain c

-- the text begins with a control character
abbrev pub begins_with_control : List ℕ → Bool
begins_with_control [] = false
begins_with_control (c ∷ cs) = not (is_plain c)

-- each row does, so that a plain character is a key by itself
abbrev pub begin_with_control : List SeqRow → Bool
begin_with_control rows = list_all (λ row. begins_with_control row.text) rows

-- the rows of a table of n rows
pub record IsTable (n : ℕ) (rows : List SeqRow) : Type 0 where
  pub count : length rows ≡ n
  pub sorted : is_sorted rows ≡ true
  pub short : is_short rows ≡ true
  pub control : begin_with_control rows ≡ true
