-- How a state follows from the fields of a buffer.
use Rattle.std.proofs.Common.{◌≡◌, ℕ, ◌≤◌, List, [], ◌∷◌, ◌++◌, ◌<◌, length, get_or, slice_set, Option, Some, None, sym, ap, refl, subst, ◌∙◌, arith, length-append}
use Rattle.std.proofs.Math.Seq.{get_or-append_seam}
use Rattle.std.proofs.lemmas.List.{length-set, get_or-set_same, get_or-set_other, set-set, set_at, set_comm, set-get_or}
use Rattle.std.proofs.lemmas.List.Edits.{swap_is}
use Rattle.std.proofs.lemmas.List.Elements.{All-get_or, All-set, All-append, All-cons, All-nil, All-drop}
use Rattle.std.specs.List.{All, swap}
use Rattle.std.specs.Option.{ForSome}
use Rattle.text_doc.specs.Document.{Document, IsDocument}
use Rattle.edit_buffer.specs.declared.menus.Menu.{Menu}
use Rattle.edit_buffer.specs.declared.buffers.Buffer.TheInside.{Inside}
use Rattle.edit_buffer.specs.BufferState.{BufferState, IsBufferState, IsMenu, line_of, with_document}
use Rattle.edit_buffer.specs.Insides.{state_of}
use Rattle.edit_buffer.specs.Menus.{choice, chosen_in, cancelled_in}
use Rattle.edit_buffer.specs.Moves.{newest, opened, moved_to}

-- another document in the fields is another document of the state
pub state_of-doc : (b : Inside) (d : Document) → state_of (record b { doc = d }) ≡ with_document (state_of b) d
state_of-doc b d =
    ap (λ lines. record (state_of b) { doc = d; lines = lines }) (sym (set-set b.lines.items b.index b.doc.text d.text))

pub IsBufferState-with_document : (b : BufferState) (d : Document) → IsBufferState b → IsDocument d → IsBufferState (with_document b d)
IsBufferState-with_document b d kept document = record {
  document = document;
  index = rw length-set kept.index;
  present = let within = kept.index in get_or-set_same b.lines b.index d.text [] within;
  short = All-set (λ line. length line ≤ 32768) b.lines b.index d.text document.short kept.short;
  pairs = kept.pairs;
  menu = kept.menu;
}

-- the document of a choice, and the menu that knows of it
pub state_of-chosen : (b : Inside) (m : Menu) (which : Option ℕ) (d : Document) → b.menu ≡ Some m → d ≡ choice m which → state_of (record b { doc = d; menu = Some (record m { chosen = which }) }) ≡ chosen_in b.menu (state_of b) which
state_of-chosen b m which d present chosen =
    rw (present, chosen)
    (ap (λ lines. record (state_of b) { doc = choice m which; lines = lines; menu = Some (record m { chosen = which }) })
    (sym (set-set b.lines.items b.index b.doc.text (choice m which).text)))

-- the buffer after a choice in its menu
pub IsBufferState-chosen : (b : BufferState) (m : Menu) (which : Option ℕ) → IsBufferState b → b.menu ≡ Some m → IsDocument (choice m which)
    → ForSome which (λ i. i < length m.items) → IsBufferState (chosen_in b.menu b which)
IsBufferState-chosen b m which kept present document within =
    let with_doc = IsBufferState-with_document b (choice m which) kept document in
    let before : IsMenu m = kept.menu m present in
    let after : IsMenu (record m { chosen = which }) =
    record { original = before.original; few = before.few; reach = before.reach; chosen = within } in
    let P : Option Menu → Type 0 = λ o. IsBufferState (chosen_in o b which) in
    subst P (sym present) (record {
      document = with_doc.document;
      index = with_doc.index;
      present = with_doc.present;
      short = with_doc.short;
      pairs = with_doc.pairs;
      menu = λ n e. let same : record m { chosen = which } ≡ n = cc e in subst IsMenu same after;
    })

-- the original without its mark, and no menu
pub state_of-cancelled : (b : Inside) (m : Menu) (d : Document) (left : Option Menu) → b.menu ≡ Some m → left ≡ None → d ≡ choice m None → state_of (record b { doc = d; menu = left }) ≡ cancelled_in b.menu (state_of b)
state_of-cancelled b m d left present closed original =
    rw (present, closed, original)
    (ap (λ lines. record (state_of b) { doc = choice m None; lines = lines; menu = None })
    (sym (set-set b.lines.items b.index b.doc.text m.original.text)))

pub IsBufferState-cancelled : (b : BufferState) (m : Menu) → IsBufferState b → b.menu ≡ Some m → IsBufferState (cancelled_in b.menu b)
IsBufferState-cancelled b m kept present =
    let before : IsMenu m = kept.menu m present in
    let original : IsDocument m.original = before.original in
    let document : IsDocument (choice m None) = record { short = original.short; cursor_within = original.cursor_within; mark_within = λ n e. cc } in
    let with_doc = IsBufferState-with_document b (choice m None) kept document in
    let P : Option Menu → Type 0 = λ o. IsBufferState (cancelled_in o b) in
    subst P (sym present) (record {
      document = with_doc.document;
      index = with_doc.index;
      present = with_doc.present;
      short = with_doc.short;
      pairs = with_doc.pairs;
      menu = λ n e. cc;
    })

-- the fields of a new buffer
pub record IsOpened (b : Inside) (history : List (List ℕ)) (text : List ℕ) : Type 0 where
  pub doc : b.doc ≡ record { text = text; cursor = length text; mark = None }
  pub lines : b.lines.items ≡ newest history ++ [] ∷ []
  pub index : b.index ≡ length (newest history)
  pub undo : b.undo.items ≡ []
  pub redo : b.redo.items ≡ []
  pub menu : b.menu ≡ None

pub state_of-opened : (b : Inside) (history : List (List ℕ)) (text : List ℕ) → IsOpened b history text → state_of b ≡ opened history text
state_of-opened b history text fields =
    rw (fields.doc, fields.lines, fields.index, fields.undo, fields.redo, fields.menu)
    (ap (λ lines. record (opened history text) { lines = lines }) (set_at (newest history) [] [] text (length (newest history)) refl))

pub IsBufferState-opened : (history : List (List ℕ)) (text : List ℕ) → All (λ line. length line ≤ 32768) history → length text ≤ 32768 → IsBufferState (opened history text)
IsBufferState-opened history text entries short = record {
  document = record { short = short; cursor_within = omega arith; mark_within = λ m e. cc };
  index = omega (arith, length-append (newest history) (text ∷ []));
  present = get_or-append_seam (newest history) text [] [];
  short = All-append (λ line. length line ≤ 32768) (newest history) (text ∷ [])
      (All-drop (λ line. length line ≤ 32768) _ history entries)
      (All-cons (λ line. length line ≤ 32768) text [] short (All-nil (λ line. length line ≤ 32768)));
  pairs = omega arith;
  menu = λ m e. cc;
}

-- the text that is left is put in the place of the line that is reached, and then the two change places
lines_exchanged : (lines : List (List ℕ)) (from to : ℕ) (left : List ℕ) → from < length lines → to < length lines → (from ≡ to → ⊥)
    → slice_set (swap (slice_set lines to left) from to) to (get_or lines to []) ≡ slice_set lines from left
lines_exchanged lines from to left from_within to_within other =
    let there : List ℕ = get_or lines to [] in
    let xs : List (List ℕ) = slice_set lines to left in
    let from_in : from < length xs = rw length-set from_within in
    let to_in : to < length xs = rw length-set to_within in
    ap (λ zs. slice_set zs to there) (sym (swap_is xs from to [] from_in to_in))
    ∙ set-set (slice_set xs from (get_or xs to [])) to (get_or xs from []) there
    ∙ ap (λ text. slice_set (slice_set xs from text) to there) (get_or-set_same lines to left [] to_within)
    ∙ set_comm xs from to left there other
    ∙ ap (λ zs. slice_set zs from left) (set-set lines to left there ∙ set-get_or lines to [])

-- going to another line
pub state_of-moved : (b : Inside) (line at : ℕ) → b.index < length b.lines.items → line < length b.lines.items → (b.index ≡ line → ⊥) → (d : Document)
    → d ≡ record { text = get_or b.lines.items line []; cursor = at; mark = None }
    → (lines : List (List ℕ)) → lines ≡ swap (slice_set b.lines.items line b.doc.text) b.index line
    → record { doc = d; lines = slice_set lines line d.text; index = line; undo = b.undo.items; redo = b.redo.items; menu = b.menu } ≡ moved_to (state_of b) line at
state_of-moved b line at index within other d document lines exchanged =
    let reached : get_or (slice_set b.lines.items b.index b.doc.text) line [] ≡ get_or b.lines.items line [] = get_or-set_other b.lines.items b.index line b.doc.text [] (λ e. other (sym e)) in
    rw (document, exchanged, reached, lines_exchanged b.lines.items b.index line b.doc.text index within other) refl

-- a line of a buffer is short enough for a document
pub IsBufferState-moved_to : (b : BufferState) (line at : ℕ) → IsBufferState b → line < length b.lines → at ≤ length (line_of b line) → IsBufferState (moved_to b line at)
IsBufferState-moved_to b line at kept within place = record {
  document = record { short = All-get_or (λ text. length text ≤ 32768) b.lines line [] within kept.short; cursor_within = place; mark_within = λ m e. cc };
  index = within;
  present = refl;
  short = kept.short;
  pairs = kept.pairs;
  menu = kept.menu;
}
