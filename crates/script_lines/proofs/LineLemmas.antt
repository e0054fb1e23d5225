-- The lines of a script, line by line.
use Rattle.std.proofs.Common.{◌≡◌, ◌==◌, ℕ, ◌<◌, List, [], ◌∷◌, length, refl, sym, ap, ◌∙◌, arith, ⊎_elim}
use Rattle.std.specs.List.{onto_first}
use Rattle.std.proofs.lemmas.Bool.{cases_Bool}
use Rattle.std.proofs.lemmas.List.Splits.{slice_split-cons_yes, slice_split-cons_no}
use Rattle.text_doc.specs.Lines.{lines_of}
use Rattle.script_lines.specs.Lines.{ended, ended_from, script_lines}

-- there is a first line
pub record HasFirst (lines : List (List ℕ)) : Type 0 where
  pub first : List ℕ
  pub others : List (List ℕ)
  pub is : lines ≡ first ∷ others

some_line : (bytes : List ℕ) → HasFirst (lines_of bytes)
some_line [] = record { first = []; others = []; is = refl }
some_line (byte ∷ bytes) =
    ⊎_elim
    (λ yes. record { first = []; others = lines_of bytes; is = slice_split-cons_yes (λ c. c == 10) byte bytes yes })
    (λ no. let later = some_line bytes in record {
      first = byte ∷ later.first;
      others = later.others;
      is = slice_split-cons_no (λ c. c == 10) byte bytes no ∙ ap (onto_first byte) later.is;
    })
    (cases_Bool (byte == 10))

-- a line that others follow ends there
pub line_ends : (text line rest : List ℕ) → lines_of text ≡ line ∷ lines_of rest → script_lines text ≡ line ∷ script_lines rest
line_ends text line rest cut =
    let behind = some_line rest in
    ap ended cut ∙ ap (ended_from line) behind.is ∙ ap (λ lines. line ∷ ended lines) (sym behind.is)

-- a text without a line feed is the last line
pub line_is_last : (text : List ℕ) → 0 < length text → lines_of text ≡ text ∷ [] → script_lines text ≡ text ∷ []
line_is_last [] some one = absurd (omega arith)
line_is_last (byte ∷ bytes) some one = ap ended one

ended_has : (byte : ℕ) (bytes : List ℕ) (lines : List (List ℕ)) → HasFirst (ended_from (byte ∷ bytes) lines)
ended_has byte bytes [] = record { first = byte ∷ bytes; others = []; is = refl }
ended_has byte bytes (next ∷ lines) = record { first = byte ∷ bytes; others = ended_from next lines; is = refl }

-- a text that is not empty has a line
pub has_line : (byte : ℕ) (bytes : List ℕ) → HasFirst (script_lines (byte ∷ bytes))
has_line byte bytes =
    let behind = some_line bytes in
    ⊎_elim
    (λ yes. record {
      first = [];
      others = script_lines bytes;
      is = line_ends (byte ∷ bytes) [] bytes (slice_split-cons_yes (λ c. c == 10) byte bytes yes);
    })
    (λ no. let rest = ended_has byte behind.first behind.others in record {
      first = rest.first;
      others = rest.others;
      is = ap ended (slice_split-cons_no (λ c. c == 10) byte bytes no ∙ ap (onto_first byte) behind.is) ∙ rest.is;
    })
    (cases_Bool (byte == 10))
