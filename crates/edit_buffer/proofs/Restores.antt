-- A save puts the present pair first, and an undo takes the first pair of another text.
use Rattle.std.proofs.Common.{◌≡◌, ◌≢◌, ◌<◌, Bool, true, false, cond, List, [], ◌∷◌, length, take, sym, ap, ◌∙◌, refl, subst, arith}
use Rattle.std.proofs.lemmas.Bool.{false_from_ne_true}
use Rattle.std.proofs.lemmas.Slice.Eq.{bytes_eq-Decides}
use Rattle.text_doc.specs.Document.{Document, SameTextAndCursor}
use Rattle.edit_buffer.specs.BufferState.{BufferState, Pair, document_of, pair_of, with_document}
use Rattle.edit_buffer.specs.Undo.{has_text, first_has_text, differing, with_present, saved, undone_to, undone, redone}
use Rattle.edit_buffer.specs.Laws.{UndoesTo}

-- the first pair, where the test of its text came out so
first_by_test : (d : Document) (p : Pair) (rest : List Pair) (same : Bool) → has_text d.text p ≡ same → (others : List Pair) × (cond same (record p { cursor = d.cursor } ∷ rest) (pair_of d ∷ p ∷ rest) ≡ pair_of d ∷ others)
first_by_test d p rest true h =
    (rest, ap (λ text. record { text = text; cursor = d.cursor } ∷ rest) ((bytes_eq-Decides p.text d.text).0 h))
first_by_test d p rest false h = (p ∷ rest, refl)

-- the present pair is first
pub first-with_present : (d : Document) (pairs : List Pair) → (others : List Pair) × (with_present d pairs ≡ pair_of d ∷ others)
first-with_present d [] = ([], refl)
first-with_present d (p ∷ rest) = first_by_test d p rest (has_text d.text p) refl

pub first-saved : (b : BufferState) → (others : List Pair) × ((saved b).undo ≡ pair_of b.doc ∷ others)
first-saved b =
    let present = first-with_present b.doc b.undo in
    (take 999 present.0, ap (take 1000) present.1)

pub undoes_to : (kept changed : BufferState) (others : List Pair) → changed.undo ≡ pair_of kept.doc ∷ others → changed.doc.text ≢ kept.doc.text → UndoesTo kept changed
undoes_to kept changed others pairs other =
    let tested : has_text changed.doc.text (pair_of kept.doc) ≡ false = false_from_ne_true _ (λ h. other (sym ((bytes_eq-Decides kept.doc.text changed.doc.text).0 h))) in
    let found : differing changed.doc.text changed.undo ≡ pair_of kept.doc ∷ others = rw (pairs, tested) refl in
    let after : undone changed ≡ record (with_document changed (document_of (pair_of kept.doc))) { undo = others; redo = pair_of changed.doc ∷ changed.redo } = ap (undone_to changed) found in
    record {
      undoes = omega (arith, ap length found);
      restores = ap (λ (b : BufferState). b.doc) after;
      redoes = subst (λ (b : BufferState). 0 < length b.redo) (sym after) (omega arith);
      gives_back = subst (λ (b : BufferState). SameTextAndCursor (redone b).doc changed.doc) (sym after) record { text = refl; cursor = refl };
    }

-- the pairs with the present one first begin with one of the present text
pub first_has_text-with_present : (d : Document) (pairs : List Pair) → first_has_text d.text (take 1000 (with_present d pairs)) ≡ true
first_has_text-with_present d pairs =
    ap (λ ps. first_has_text d.text (take 1000 ps)) (first-with_present d pairs).1 ∙ (bytes_eq-Decides d.text d.text).1 refl
