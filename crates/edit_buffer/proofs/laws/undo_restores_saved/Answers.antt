-- Edits leave the lists alone, so the first pair is still the one that was saved, and it has another text.
use Rattle.std.proofs.Common.{◌≡◌, List, [], ◌∷◌, refl, ◌∙◌}
use Rattle.edit_buffer.specs.declared.edits.Edit.{Edit}
use Rattle.edit_buffer.specs.BufferState.{BufferState}
use Rattle.edit_buffer.specs.Edits.{applied}
use Rattle.edit_buffer.specs.Undo.{saved}
use Rattle.edit_buffer.specs.Laws.{edited_by}
use Rattle.edit_buffer.proofs.Restores.{first-saved, undoes_to}
use Rattle.edit_buffer.proofs.laws.undo_restores_saved.Goals as goal

edits_keep_undo : (edits : List Edit) (b : BufferState) → (edited_by edits b).undo ≡ b.undo
edits_keep_undo [] b = refl
edits_keep_undo (edit ∷ edits) b = edits_keep_undo edits (applied b edit)

pub returns : goal.returns
returns c = λ b edits other.
    let first = first-saved b in
    undoes_to b (edited_by edits (saved b)) first.0 (edits_keep_undo edits (saved b) ∙ first.1) other
