-- Brackets that pair, over `()`, `[]` and `{}`.
use Rattle.std.specs.Prelude.{ℕ, ◌+◌, Bool, ◌==◌, ◌||◌, ◌&&◌, List, [], ◌∷◌, length, take, fold, Option, None, Some, is_none, if◌then◌else◌}
use Rattle.std.specs.List.{enumerate_from}
use Rattle.completers.specs.declared.brackets.Opened.{Opened}
use Rattle.text_doc.specs.Places.{first, passing}

abbrev pub is_opening : ℕ → Bool
is_opening c = c == 40 || c == 91 || c == 123

abbrev pub is_closing : ℕ → Bool
is_closing c = c == 41 || c == 93 || c == 125

-- whether the two are a pair
abbrev pub are_pair : ℕ → ℕ → Bool
are_pair opening closing =
    if opening == 40 then closing == 41 else (if opening == 91 then closing == 93 else opening == 123 && closing == 125)

-- what a closing bracket leaves of the brackets that stand open, the last one first; None where it doesn't match the last
abbrev pub closed_by : ℕ → List Opened → Option (List Opened)
closed_by closing [] = None
closed_by closing (opened ∷ open_before) = if are_pair opened.bracket closing then Some open_before else None

-- what stands open behind one more character, with its place
abbrev pub after_character : Option (List Opened) → ℕ × ℕ → Option (List Opened)
after_character None placed = None
after_character (Some opened) placed =
    if is_opening placed.1 then Some (record { place = placed.0; bracket = placed.1 } ∷ opened) else (if is_closing placed.1 then closed_by placed.1 opened else Some opened)

-- the opening brackets of a text that have no partner, the last one first; None where a closing one has none
abbrev pub unclosed : List ℕ → Option (List Opened)
unclosed text = fold after_character (Some []) (enumerate_from 0 text)

-- the place of the closing bracket that matches none, if there is one, or else of the last opening one without a partner
abbrev pub fault_of : Option ℕ → Option (List Opened) → Option ℕ
fault_of (Some place) opened = Some place
fault_of None None = None
fault_of None (Some []) = None
fault_of None (Some (last ∷ opened)) = Some last.place

-- where brackets are not balanced; None where they are
abbrev pub bracket_fault : List ℕ → Option ℕ
bracket_fault text =
    fault_of (first (passing (λ i. is_none (unclosed (take (i + 1) text))) 0 (length text))) (unclosed text)
