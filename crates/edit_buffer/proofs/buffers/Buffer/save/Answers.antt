-- The pair that was kept is the first one, so the first one has the present text.
use Rattle.std.proofs.Common.{◌≡◌, length, take, ap, ◌∙◌, arith, length-take, rules}
use Rattle.circular_buffer.specs.Buffer.{Buffer, buffer}
use Rattle.edit_buffer.specs.BufferState.{Pair}
use Rattle.edit_buffer.specs.Undo.{first_has_text, with_present}
use Rattle.edit_buffer.proofs.Restores.{first_has_text-with_present}
use Rattle.edit_buffer.proofs.buffers.Buffer.save.Goals as goal

pub invariant_of-self-2 : goal.invariant_of-self-2
invariant_of-self-2 c =
    let b = c.self.inside in
    let state = c.self.invariant.state in
    let undo_room : b.undo.capacity ≡ 1000 = c.self.invariant.undo_room in
    let kept : c.keep.new.pairs ≡ buffer (take b.undo.capacity (with_present b.doc b.undo.items)) b.undo.capacity = c.in_ok-keep.ensures.ok in
    let emptied : length c.clear.new.self.items ≡ 0 = search rules in
    let redo_room : c.clear.new.self.capacity ≡ 1000 = search rules in
    let present : take b.undo.capacity (with_present b.doc b.undo.items) ≡ take 1000 (with_present b.doc b.undo.items) = ap (λ n. take n (with_present b.doc b.undo.items)) undo_room in
    let items : c.keep.new.pairs.items ≡ take 1000 (with_present b.doc b.undo.items) = ap (λ (u : Buffer Pair). u.items) kept ∙ present in
    record {
      state = record {
        document = state.document;
        index = state.index;
        present = state.present;
        short = state.short;
        pairs = omega (arith, ap length items, length-take 1000 (with_present b.doc b.undo.items));
        menu = state.menu;
      };
      undo_room = ap (λ (u : Buffer Pair). u.capacity) kept ∙ undo_room;
      redo_room = redo_room;
      is_kept = λ _. ap (first_has_text b.doc.text) items ∙ first_has_text-with_present b.doc b.undo.items;
    }
