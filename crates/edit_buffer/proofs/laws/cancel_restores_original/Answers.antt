-- Whatever happens in a menu, its original stays, and only the present working line changes.
use Rattle.std.proofs.Common.{◌≡◌, ℕ, ◌<◌, List, [], ◌∷◌, length, slice_set, take, Option, None, Some, refl, sym, ap, ◌∙◌, subst, arith}
use Rattle.std.specs.Prelude.{fold}
use Rattle.std.proofs.lemmas.List.{set-set, set-get_or}
use Rattle.text_doc.specs.Document.{Document}
use Rattle.text_doc.specs.declared.completions.Completion.{Completion}
use Rattle.edit_buffer.specs.declared.menus.Menu.{Menu}
use Rattle.edit_buffer.specs.BufferState.{BufferState, IsBufferState}
use Rattle.edit_buffer.specs.Menus.{menu_of, with_items, chosen_in, with_items_in, cancelled_in, choice}
use Rattle.edit_buffer.specs.Laws.{MenuStep, Choose, Add, menu_stepped, cancelled_after, IsRestored}
use Rattle.edit_buffer.proofs.laws.cancel_restores_original.Goals as goal

-- a buffer with a menu of the document of `b`, whose other working lines are those of `b`
record IsInMenu (b s : BufferState) : Type 0 where
  open_menu : Menu
  is : s.menu ≡ Some open_menu
  original : open_menu.original ≡ b.doc
  index : s.index ≡ b.index
  lines : slice_set s.lines b.index b.doc.text ≡ b.lines

opened : (b : BufferState) (item : Completion) (items : List Completion) → IsBufferState b → IsInMenu b (record b { menu = menu_of b.doc (item ∷ items) })
opened b item items kept = record {
  open_menu = record { original = b.doc; items = take 10000 (item ∷ items); chosen = None };
  is = refl;
  original = refl;
  index = refl;
  lines = ap (slice_set b.lines b.index) (sym kept.present) ∙ set-get_or b.lines b.index [];
}

chosen : (b s : BufferState) (which : Option ℕ) → IsInMenu b s → IsInMenu b (chosen_in s.menu s which)
chosen b s which h =
    let m = h.open_menu in
    let text : List ℕ = (choice m which).text in
    let lines : slice_set (slice_set s.lines s.index text) b.index b.doc.text ≡ b.lines = ap (λ i. slice_set (slice_set s.lines i text) b.index b.doc.text) h.index ∙ set-set s.lines b.index text b.doc.text ∙ h.lines in
    let P : Option Menu → Type 0 = λ o. IsInMenu b (chosen_in o s which) in
    subst P (sym h.is) (record { open_menu = record m { chosen = which }; is = refl; original = h.original; index = h.index; lines = lines })

added : (b s : BufferState) (more : List Completion) → IsInMenu b s → IsInMenu b (with_items_in s.menu s more)
added b s more h =
    let P : Option Menu → Type 0 = λ o. IsInMenu b (with_items_in o s more) in
    subst P (sym h.is) (record { open_menu = with_items h.open_menu more; is = refl; original = h.original; index = h.index; lines = h.lines })

stepped_in : (b s : BufferState) (step : MenuStep) → IsInMenu b s → IsInMenu b (menu_stepped s step)
stepped_in b s (Choose which) h = chosen b s which h
stepped_in b s (Add items) h = added b s items h

all_stepped_in : (b : BufferState) (steps : List MenuStep) (s : BufferState) → IsInMenu b s → IsInMenu b (fold menu_stepped s steps)
all_stepped_in b [] s h = h
all_stepped_in b (step ∷ steps) s h = all_stepped_in b steps (menu_stepped s step) (stepped_in b s step h)

cancelled : (b s : BufferState) → IsInMenu b s → IsRestored b (cancelled_in s.menu s)
cancelled b s h =
    let m = h.open_menu in
    let text : m.original.text ≡ b.doc.text = ap (λ (d : Document). d.text) h.original in
    let lines : slice_set s.lines s.index m.original.text ≡ b.lines = ap (λ i. slice_set s.lines i m.original.text) h.index ∙ ap (slice_set s.lines b.index) text ∙ h.lines in
    let P : Option Menu → Type 0 = λ o. IsRestored b (cancelled_in o s) in
    subst P (sym h.is) (record { document = record { text = text; cursor = ap (λ (d : Document). d.cursor) h.original }; lines = lines; closed = refl })

restored : (b : BufferState) (items : List Completion) (steps : List MenuStep) → IsBufferState b → 0 < length items → IsRestored b (cancelled_after b items steps)
restored b [] steps kept some = absurd (omega arith)
restored b (item ∷ items) steps kept some =
    cancelled b _ (all_stepped_in b steps _ (opened b item items kept))

pub returns : goal.returns
returns c = restored
