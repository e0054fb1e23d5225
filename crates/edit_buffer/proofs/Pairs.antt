-- How the lists of undo and redo change.
use Rattle.std.proofs.Common.{◌≡◌, ℕ, ◌+◌, ◌≤◌, true, false, cond, List, [], ◌∷◌, length, take, drop, Some, sym, ap, ◌∙◌, refl, subst, arith, length-drop}
use Rattle.std.proofs.lemmas.List.{set-set, take_all}
use Rattle.std.specs.Prelude.{slice_get}
use Rattle.std.specs.List.{prefix_len}
use Rattle.text_doc.specs.Document.{Document, IsDocument}
use Rattle.circular_buffer.specs.Buffer.{Buffer, buffer}
use Rattle.edit_buffer.specs.declared.buffers.Buffer.TheInside.{Inside}
use Rattle.edit_buffer.specs.BufferState.{Pair, IsBufferState, document_of, pair_of, with_document}
use Rattle.edit_buffer.specs.Insides.{state_of, IsKept}
use Rattle.edit_buffer.specs.Undo.{has_text, differing, with_present, undone, redone}
use Rattle.edit_buffer.proofs.States.{IsBufferState-with_document}

pub length-differing : (text : List ℕ) (pairs : List Pair) → length (differing text pairs) ≤ length pairs
length-differing text pairs = omega (arith, length-drop (prefix_len (has_text text) pairs) pairs)

pub length-with_present : (d : Document) (pairs : List Pair) → length (with_present d pairs) ≤ length pairs + 1
length-with_present d [] = omega arith
length-with_present d (p ∷ rest) =
    elim (has_text d.text p) as (λ v. length (cond v (record p { cursor = d.cursor } ∷ rest) (pair_of d ∷ p ∷ rest)) ≤ length (p ∷ rest) + 1)
    [ true ↦ omega arith | false ↦ omega arith ]

-- a list with a first item is that item and the rest
pub split_first : {X : Type 0} (xs : List X) (x : X) → slice_get xs 0 ≡ Some x → xs ≡ x ∷ drop 1 xs
split_first [] x h = cc
split_first (y ∷ ys) x h = let e : y ≡ x = cc in ap (λ z. z ∷ ys) e

module _ (b : Inside) (p : Pair) (d : Document) (u r : Buffer Pair) where
  -- the document of the pair stands in the fields, and these lists
  pub record IsRestored (undos redos : List Pair) : Type 0 where
    pub kept : IsKept b
    pub doc : d ≡ document_of p
    pub document : IsDocument d
    pub undo : u.items ≡ undos
    pub redo : r.items ≡ redos
    pub pairs : length undos + length redos ≤ 1000
    pub undo_room : u.capacity ≡ 1000
    pub redo_room : r.capacity ≡ 1000

  pub state_of-restored : (undos redos : List Pair) → IsRestored undos redos → state_of (record b { doc = d; undo = u; redo = r; is_kept = false }) ≡ record (with_document (state_of b) (document_of p)) { undo = undos; redo = redos }
  state_of-restored undos redos h =
      rw (h.undo, h.redo, h.doc)
      (ap (λ lines. record (state_of b) { doc = document_of p; lines = lines; undo = undos; redo = redos })
      (sym (set-set b.lines.items b.index b.doc.text p.text)))

  pub IsKept-restored : (undos redos : List Pair) → IsRestored undos redos → IsKept (record b { doc = d; undo = u; redo = r; is_kept = false })
  IsKept-restored undos redos h =
      let document : IsDocument (document_of p) = rw (← h.doc) h.document in
      let state = IsBufferState-with_document (state_of b) (document_of p) h.kept.state document in
      let after : IsBufferState (record (with_document (state_of b) (document_of p)) { undo = undos; redo = redos }) = record {
        document = document;
        index = state.index;
        present = state.present;
        short = state.short;
        pairs = h.pairs;
        menu = state.menu;
      } in
      record {
        state = subst IsBufferState (sym (state_of-restored undos redos h)) after;
        undo_room = h.undo_room;
        redo_room = h.redo_room;
        is_kept = λ e. cc;
      }

  -- what `undo` leaves in the fields
  pub record IsUndone : Type 0 where
    pub kept : IsKept b
    pub found : slice_get (differing b.doc.text b.undo.items) 0 ≡ Some p
    pub doc : d ≡ document_of p
    pub document : IsDocument d
    pub undo : u ≡ buffer (drop 1 (differing b.doc.text b.undo.items)) b.undo.capacity
    pub redo : r ≡ buffer (take b.redo.capacity (pair_of b.doc ∷ b.redo.items)) b.redo.capacity

  -- what `redo` leaves in the fields
  pub record IsRedone : Type 0 where
    pub kept : IsKept b
    pub found : slice_get b.redo.items 0 ≡ Some p
    pub doc : d ≡ document_of p
    pub document : IsDocument d
    pub undo : u ≡ buffer (take b.undo.capacity (with_present b.doc b.undo.items)) b.undo.capacity
    pub redo : r ≡ buffer (drop 1 b.redo.items) b.redo.capacity

  pub restored_by_undo : IsUndone → IsRestored (drop 1 (differing b.doc.text b.undo.items)) (pair_of b.doc ∷ b.redo.items)
  restored_by_undo h =
      let found = split_first (differing b.doc.text b.undo.items) p h.found in
      let kept = h.kept.state.pairs in
      let undo_room = h.kept.undo_room in
      let redo_room = h.kept.redo_room in
      let pairs : length (drop 1 (differing b.doc.text b.undo.items)) + length (pair_of b.doc ∷ b.redo.items) ≤ 1000 = omega (arith, length-differing b.doc.text b.undo.items, ap length found) in
      let enough : length (pair_of b.doc ∷ b.redo.items) ≤ b.redo.capacity = omega arith in
      record {
        kept = h.kept;
        doc = h.doc;
        document = h.document;
        undo = rw h.undo refl;
        redo = rw h.redo (take_all b.redo.capacity (pair_of b.doc ∷ b.redo.items) enough);
        pairs = pairs;
        undo_room = rw h.undo undo_room;
        redo_room = rw h.redo redo_room;
      }

  pub restored_by_redo : IsRedone → IsRestored (with_present b.doc b.undo.items) (drop 1 b.redo.items)
  restored_by_redo h =
      let found = split_first b.redo.items p h.found in
      let kept = h.kept.state.pairs in
      let undo_room = h.kept.undo_room in
      let redo_room = h.kept.redo_room in
      let present = length-with_present b.doc b.undo.items in
      let pairs : length (with_present b.doc b.undo.items) + length (drop 1 b.redo.items) ≤ 1000 = omega (arith, ap length found) in
      let enough : length (with_present b.doc b.undo.items) ≤ b.undo.capacity = omega arith in
      record {
        kept = h.kept;
        doc = h.doc;
        document = h.document;
        undo = rw h.undo (take_all b.undo.capacity (with_present b.doc b.undo.items) enough);
        redo = rw h.redo refl;
        pairs = pairs;
        undo_room = rw h.undo undo_room;
        redo_room = rw h.redo redo_room;
      }

  pub state_of-undone : IsUndone → state_of (record b { doc = d; undo = u; redo = r; is_kept = false }) ≡ undone (state_of b)
  state_of-undone h =
      state_of-restored _ _ (restored_by_undo h) ∙ sym (rw (split_first (differing b.doc.text b.undo.items) p h.found) refl)

  pub state_of-redone : IsRedone → state_of (record b { doc = d; undo = u; redo = r; is_kept = false }) ≡ redone (state_of b)
  state_of-redone h = state_of-restored _ _ (restored_by_redo h) ∙ sym (rw (split_first b.redo.items p h.found) refl)
