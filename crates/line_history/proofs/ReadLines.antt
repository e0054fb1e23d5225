-- Reading line after line gives the entries of the definition.
use Rattle.std.proofs.Common.{◌≡◌, ℕ, Bool, true, false, not, List, [], ◌∷◌, ◌++◌, map, filter, Option, Some, None, refl, sym, ap, ◌∙◌, ⊎_elim, append_assoc}
use Rattle.std.specs.List.{slice_split, onto_first, flat_map}
use Rattle.std.proofs.lemmas.Bool.{cases_Bool, not_from_true, not_from_false}
use Rattle.std.proofs.lemmas.List.{append-nil}
use Rattle.std.proofs.lemmas.List.Elements.{filter-append}
use Rattle.std.proofs.lemmas.List.Splits.{slice_split-cons_yes, slice_split-cons_no}
use Rattle.text_doc.specs.Lines.{lines_of}
use Rattle.line_history.specs.History.{entries_of, has_lines, is_entry_line, is_short, line_text, run_text}
use Rattle.line_history.specs.Reading.{Progress, after_line_if, after_lines, ended, extended, kept}
use Rattle.line_history.proofs.Cuts.{HasFirst-split}
use Rattle.line_history.proofs.Fronts.{kept_front}

-- a line that is none of an entry
abbrev pub parts_entries : List ℕ → Bool
parts_entries line = not (is_entry_line line)

-- the entries of the runs among some parts
abbrev pub texts_of : List (List (List ℕ)) → List (List ℕ)
texts_of parts = filter is_short (map run_text (filter has_lines parts))

-- what the lines of a run add to a text before them
abbrev pub tail_text : List (List ℕ) → List ℕ
tail_text run = flat_map (λ line. 10 ∷ line_text line) run

-- the entries of some parts, of which the first goes on with an unfinished text, if there is one
abbrev pub texts_from : Option (List ℕ) → List (List (List ℕ)) → List (List ℕ)
texts_from None parts = texts_of parts
texts_from (Some text) [] = kept (Some text)
texts_from (Some text) (part ∷ parts) = kept (Some (text ++ tail_text part)) ++ texts_of parts

run_text-cons : (line : List ℕ) (run : List (List ℕ)) → run_text (line ∷ run) ≡ line_text line ++ tail_text run
run_text-cons line [] = sym (append-nil (line_text line))
run_text-cons line (next ∷ run) = ap (λ t. line_text line ++ 10 ∷ t) (run_text-cons next run)

-- the first of the entries apart from the others
texts_of-cons : (line : List ℕ) (run : List (List ℕ)) (parts : List (List (List ℕ)))
    → texts_of ((line ∷ run) ∷ parts) ≡ kept (Some (line_text line ++ tail_text run)) ++ texts_of parts
texts_of-cons line run parts =
    filter-append is_short (run_text (line ∷ run) ∷ []) (map run_text (filter has_lines parts))
    ∙ ap (λ t. kept (Some t) ++ texts_of parts) (run_text-cons line run)

-- a line of an entry goes on with the text
texts_from-onto_first : (unfinished : Option (List ℕ)) (line : List ℕ) (first : List (List ℕ)) (rest : List (List (List ℕ)))
    → texts_from unfinished ((line ∷ first) ∷ rest) ≡ texts_from (Some (extended unfinished (line_text line))) (first ∷ rest)
texts_from-onto_first None line first rest =
    texts_of-cons line first rest ∙ ap (λ ts. ts ++ texts_of rest) (sym (kept_front (line_text line) (tail_text first)))
texts_from-onto_first (Some text) line first rest =
    let chars = line_text line in
    let before = text ++ 10 ∷ [] in
    let regrouped : (before ++ chars) ++ tail_text first ≡ text ++ 10 ∷ (chars ++ tail_text first) =
    append_assoc before chars (tail_text first) ∙ append_assoc text (10 ∷ []) (chars ++ tail_text first) in
    ap (λ t. kept (Some t) ++ texts_of rest) (sym regrouped)
    ∙ ap (λ ts. ts ++ texts_of rest) (sym (kept_front (before ++ chars) (tail_text first)))

-- another line ends the text
texts_from-ended : (unfinished : Option (List ℕ)) (parts : List (List (List ℕ)))
    → texts_from unfinished ([] ∷ parts) ≡ kept unfinished ++ texts_of parts
texts_from-ended None parts = refl
texts_from-ended (Some text) parts = ap (λ t. kept (Some t) ++ texts_of parts) (append-nil text)

pub read_on : (p : Progress) (lines : List (List ℕ))
    → ended (after_lines p lines) ≡ p.entries ++ texts_from p.unfinished (slice_split parts_entries lines)
read_on p [] = ap (λ ts. p.entries ++ ts) (sym (texts_from-ended p.unfinished [] ∙ append-nil (kept p.unfinished)))
read_on p (line ∷ lines) =
    let parts = slice_split parts_entries lines in
    let next = λ (b : Bool). ended (after_lines (after_line_if b p line) lines) in
    ⊎_elim
    (λ yes.
    let has = HasFirst-split parts_entries lines in
    let text = Some (extended p.unfinished (line_text line)) in
    let cut : slice_split parts_entries (line ∷ lines) ≡ (line ∷ has.first) ∷ has.rest =
    slice_split-cons_no parts_entries line lines (not_from_true (is_entry_line line) yes) ∙ ap (onto_first line) has.is in
    ap next yes ∙ read_on (after_line_if true p line) lines
    ∙ ap (λ ps. p.entries ++ texts_from text ps) has.is
    ∙ ap (λ ts. p.entries ++ ts) (sym (texts_from-onto_first p.unfinished line has.first has.rest))
    ∙ ap (λ ps. p.entries ++ texts_from p.unfinished ps) (sym cut))
    (λ no.
    let cut = slice_split-cons_yes parts_entries line lines (not_from_false (is_entry_line line) no) in
    ap next no ∙ read_on (after_line_if false p line) lines
    ∙ append_assoc p.entries (kept p.unfinished) (texts_of parts)
    ∙ ap (λ ts. p.entries ++ ts) (sym (texts_from-ended p.unfinished parts))
    ∙ ap (λ ps. p.entries ++ texts_from p.unfinished ps) (sym cut))
    (cases_Bool (is_entry_line line))

-- before the first line
abbrev pub opening : Progress
opening = record { entries = []; unfinished = None }

pub read_all : (bytes : List ℕ) → ended (after_lines opening (lines_of bytes)) ≡ entries_of bytes
unfolding entries_of
read_all bytes = read_on opening (lines_of bytes)
