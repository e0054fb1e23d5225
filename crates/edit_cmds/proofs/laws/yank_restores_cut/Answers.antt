-- What stood before, the clip and what stood behind it are the text.
use Rattle.std.proofs.Common.{◌≡◌, ℕ, ◌+◌, ◌-◌, ◌*◌, ◌<◌, ◌≤◌, true, false, List, [], ◌++◌, length, take, drop, slice_range, refl, sym, ap, ◌∙◌, subst, arith, append_assoc, length-append, length-drop}
use Rattle.std.specs.Prelude.{◌==◌, nat_lt}
use Rattle.std.proofs.Math.Seq.{take-append_seam, drop-append_seam}
use Rattle.std.proofs.lemmas.Bool.Decides.{nat_tests}
use Rattle.std.proofs.lemmas.List.{append-nil, take-append-drop, drop-drop, length-take-le}
use Rattle.text_doc.specs.Document.{Document}
use Rattle.text_doc.specs.Edits.{deleted}
use Rattle.edit_state.specs.declared.states.EditState.{EditState}
use Rattle.edit_state.specs.StateEdits.{killed, clip_of, cut}
use Rattle.edit_cmds.specs.Pasting.{pasted, yank}
use Rattle.edit_cmds.specs.Laws.{without_argument}
use Rattle.edit_cmds.proofs.laws.yank_restores_cut.Goals as goal

-- a text without a range, and the range put back
put_back : (t : List ℕ) (c to : ℕ) → c ≤ to → to ≤ length t → take c (take c t ++ drop to t) ++ (slice_range t c to ++ []) ++ drop c (take c t ++ drop to t) ≡ t
put_back t c to ordered within =
    let front = take c t in
    let back = drop to t in
    let size : length front ≡ c = length-take-le c t (omega arith) in
    let first : take c (front ++ back) ≡ front = subst (λ n. take n (front ++ back) ≡ front) size (take-append_seam front back) in
    let last : drop c (front ++ back) ≡ back = subst (λ n. drop n (front ++ back) ≡ back) size (drop-append_seam front back) in
    let e : c + (to - c) ≡ to = omega arith in
    let rest : drop (to - c) (drop c t) ≡ back = drop-drop (to - c) c t ∙ ap (λ n. drop n t) e in
    let slice : List ℕ = take (to - c) (drop c t) in
    ap (λ (xs : List ℕ). xs ++ (slice ++ []) ++ drop c (front ++ back)) first
    ∙ (ap (λ (xs : List ℕ). front ++ (slice ++ []) ++ xs) last
    ∙ (ap (λ (xs : List ℕ). front ++ xs ++ back) (append-nil slice)
    ∙ (ap (λ (xs : List ℕ). front ++ slice ++ xs) (sym rest)
    ∙ (append_assoc front slice (drop (to - c) (drop c t)) ∙ (ap (λ (xs : List ℕ). front ++ xs) (take-append-drop (to - c) (drop c t)) ∙ take-append-drop c t)))))

-- the text where a paste finds room
pasted_text : (s : EditState) (chars : List ℕ) → length s.buffer.doc.text + 1 * length chars ≤ 32768
    → (pasted chars 1 s).buffer.doc.text ≡ take s.buffer.doc.cursor s.buffer.doc.text ++ (chars ++ []) ++ drop s.buffer.doc.cursor s.buffer.doc.text
pasted_text s chars fits =
    let e : nat_lt 32768 (length s.buffer.doc.text + 1 * length chars) ≡ false = grind (arith, nat_tests) in
    rw e refl

cursor_stays : (d : Document) (to : ℕ) → d.cursor < to → (deleted d d.cursor to).cursor ≡ d.cursor
cursor_stays d to some =
    let e : nat_lt d.cursor to ≡ true = grind (arith, nat_tests) in
    rw e (omega arith)

cut_some : (s : EditState) (to : ℕ) → s.buffer.doc.cursor < to → cut s s.buffer.doc.cursor to ≡ killed s s.buffer.doc.cursor to (clip_of s s.buffer.doc.cursor to)
cut_some s to some =
    let e : (s.buffer.doc.cursor == to) ≡ false = grind (arith, nat_tests) in
    rw e refl

pub returns : goal.returns
returns c = λ s to is some within.
    let d = s.buffer.doc in
    let clip = clip_of s d.cursor to in
    let bare : EditState = without_argument (killed s d.cursor to clip) in
    let left : length (take d.cursor d.text ++ drop to d.text) + 1 * length (slice_range d.text d.cursor to) ≤ 32768 =
    omega (arith, length-append (take d.cursor d.text) (drop to d.text), length-drop to d.text, length-take-le d.cursor d.text (omega arith), length-take-le (to - d.cursor) (drop d.cursor d.text) (omega (arith, length-drop d.cursor d.text)), is.document.short) in
    ap (λ (t : EditState). (yank (without_argument t)).buffer.doc.text) (cut_some s to some)
    ∙ (pasted_text bare clip.text left
    ∙ (ap (λ (at : ℕ). take at bare.buffer.doc.text ++ (clip.text ++ []) ++ drop at bare.buffer.doc.text) (cursor_stays d to some)
    ∙ put_back d.text d.cursor to (omega arith) within))
