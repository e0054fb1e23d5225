-- How the lines of a terminal's window lie in its lines.
use Rattle.std.proofs.Common.{◌≡◌, ℕ, zero, suc, ◌+◌, List, [], ◌∷◌, drop, Some, slice_get, ap, sym, ◌∙◌, add-one, append_assoc, ◌++◌}
use Rattle.prompt_run.specs.Report.{row_texts, trimmed, text_of}
use Rattle.cell_grid.specs.declared.cell.Cell.{Cell}

-- the lines from one on are that one and those behind it
pub drop_at : {A : Type 0} → (items : List A) (at : ℕ) (item : A) → slice_get items at ≡ Some item → drop at items ≡ item ∷ drop (at + 1) items
drop_at {A} items at item is = rw add-one (from items at item is)
  where
    from : (items : List A) (at : ℕ) (item : A) → slice_get items at ≡ Some item → drop at items ≡ item ∷ drop (suc at) items
    from [] at item is = cc
    from (first ∷ items) zero item is = let same : first ≡ item = cc in ap (λ x. x ∷ items) same
    from (first ∷ items) (suc at) item is = from items at item is

-- the text of one more line
pub texts_more : (lines : List (List Cell)) (at : ℕ) (line : List Cell) (texts : List (List ℕ)) (text : List ℕ) (all : List (List ℕ))
    → slice_get lines at ≡ Some line → text ≡ trimmed (text_of line) → texts ++ row_texts (drop at lines) ≡ all
    → (texts ++ text ∷ []) ++ row_texts (drop (at + 1) lines) ≡ all
texts_more lines at line texts text all is made so_far =
    let rest : List (List ℕ) = row_texts (drop (at + 1) lines) in
    append_assoc texts (text ∷ []) rest ∙ ap (λ first. texts ++ first ∷ rest) made ∙ ap (λ these. texts ++ row_texts these) (sym (drop_at lines at line is)) ∙ so_far
