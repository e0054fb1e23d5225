-- No step touches the list of undo, so its first pair is still the one that was saved, and it has another text.
use Rattle.std.proofs.Common.{◌≡◌, ℕ, Bool, true, false, cond, List, [], ◌∷◌, Option, None, Some, refl, ◌∙◌}
use Rattle.text_doc.specs.declared.completions.Completion.{Completion}
use Rattle.edit_buffer.specs.declared.menus.Menu.{Menu}
use Rattle.edit_buffer.specs.BufferState.{BufferState}
use Rattle.edit_buffer.specs.Menus.{chosen_in, with_items_in, cancelled_in}
use Rattle.edit_buffer.specs.Moves.{moved_to, can_go_back, can_go_forward}
use Rattle.edit_buffer.specs.Undo.{saved}
use Rattle.edit_buffer.specs.Laws.{MenuStep, Choose, Add, Step, Apply, Back, Forward, Goto, StartMenu, InMenu, CancelMenu, CloseMenu, menu_stepped, stepped, stepped_by}
use Rattle.edit_buffer.proofs.Restores.{first-saved, undoes_to}
use Rattle.edit_buffer.proofs.laws.undo_restores_behind_steps.Goals as goal

chosen-undo : (m : Option Menu) (b : BufferState) (which : Option ℕ) → (chosen_in m b which).undo ≡ b.undo
chosen-undo None b which = refl
chosen-undo (Some m) b which = refl

added-undo : (m : Option Menu) (b : BufferState) (more : List Completion) → (with_items_in m b more).undo ≡ b.undo
added-undo None b more = refl
added-undo (Some m) b more = refl

cancelled-undo : (m : Option Menu) (b : BufferState) → (cancelled_in m b).undo ≡ b.undo
cancelled-undo None b = refl
cancelled-undo (Some m) b = refl

moved-undo : (goes : Bool) (b : BufferState) (line at : ℕ) → (cond goes (moved_to b line at) b).undo ≡ b.undo
moved-undo true b line at = refl
moved-undo false b line at = refl

in_menu-undo : (b : BufferState) (step : MenuStep) → (menu_stepped b step).undo ≡ b.undo
in_menu-undo b (Choose which) = chosen-undo b.menu b which
in_menu-undo b (Add items) = added-undo b.menu b items

stepped-undo : (b : BufferState) (step : Step) → (stepped b step).undo ≡ b.undo
stepped-undo b (Apply edit) = refl
stepped-undo b (Back steps) = moved-undo (can_go_back b steps) b _ _
stepped-undo b (Forward steps) = moved-undo (can_go_forward b steps) b _ _
stepped-undo b (Goto line at) = refl
stepped-undo b (StartMenu items) = refl
stepped-undo b (InMenu step) = in_menu-undo b step
stepped-undo b CancelMenu = cancelled-undo b.menu b
stepped-undo b CloseMenu = refl

steps_keep_undo : (steps : List Step) (b : BufferState) → (stepped_by steps b).undo ≡ b.undo
steps_keep_undo [] b = refl
steps_keep_undo (step ∷ steps) b = steps_keep_undo steps (stepped b step) ∙ stepped-undo b step

pub returns : goal.returns
returns c = λ b steps other.
    let first = first-saved b in
    undoes_to b (stepped_by steps (saved b)) first.0 (steps_keep_undo steps (saved b) ∙ first.1) other
