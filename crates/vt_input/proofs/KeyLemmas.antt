-- The first key of a text stays the first key, whatever follows.
use Rattle.std.proofs.Common.{◌≡◌, ℕ, ◌+◌, ◌-◌, ◌≤◌, Bool, true, false, cond, List, [], ◌∷◌, ◌++◌, length, length-drop, take, drop, Option, Some, None, refl, sym, ap, subst, ◌∙◌, arith, ⊎_elim}
use Rattle.std.specs.Prelude.{◌==◌, ◌&&◌, ◌||◌}
use Rattle.std.specs.Option.{option_map}
use Rattle.std.proofs.lemmas.Bool.{cases_Bool, cond-true, cond-false, or_parts, or_from}
use Rattle.std.proofs.lemmas.List.{take-append-le, drop-append-le}
use Rattle.key_names.specs.declared.key.Key.{Key}
use Rattle.key_names.specs.declared.key.Key.TheVariants.{Char, Ignored}
use Rattle.key_names.specs.declared.key.KeyPress.{KeyPress}
use Rattle.vt_input.specs.declared.sequence.ControlSequence.{ControlSequence}
use Rattle.vt_input.specs.declared.sequence.ControlSequence.TheVariants.{Unended, Whole, Broken}
use Rattle.vt_input.specs.declared.row.SeqRow.{SeqRow}
use Rattle.vt_input.specs.Sequences.{is_prefix, is_proper_prefix, introducer, control_sequence, is_begun, is_known, is_short, longest_from}
use Rattle.vt_input.specs.Pressed.{opening, ending, end_place, pasted, paste_press, is_open, waits, chosen_by, chosen, decision, press_by, paste_by, opens, first_by, first_key}
use Rattle.characters.proofs.CutLemmas.{IsStable}
use Rattle.vt_input.proofs.SequenceLemmas.{is_prefix-more, is_proper_prefix-more, is_prefix-append, length-is_prefix, length-is_proper_prefix, is_begun-more, is_known-more, length-is_begun, longest_from-more, proper_prefix-long, Takes, Takes-longest_from, control_sequence-more, IfWhole, whole-within, length-is_open}

-- no two facts of a pair of tests hold at once with nothing behind
and-none : (a b : Bool) → (a && (b && false)) ≡ false
and-none true true = refl
and-none true false = refl
and-none false b = refl

none_some : (n : ℕ) → None ≡ Some n → ⊥
none_some n e = cc

no_press : (p : KeyPress × ℕ) → None ≡ Some p → ⊥
no_press p e = cc

no_key : (t : Key × ℕ) → None ≡ Some t → ⊥
no_key t e = cc

none_by : (y : List ℕ) (o : Option ℕ) → paste_by y o ≡ None → o ≡ None
none_by y None e = refl
none_by y (Some m) e = absurd (no_press (paste_press (pasted (take m y)), m + 11) (sym e))

map_some : (o : Option ℕ) (n : ℕ) → option_map (λ k. k + 1) o ≡ Some n → (m : ℕ) × (o ≡ Some m) × (m + 1 ≡ n)
map_some None n e = absurd (none_some n e)
map_some (Some m) n e = (m, refl, cc)

choose : (b : Bool) (s t : Key × ℕ) (x : List ℕ) → Takes 1 s x → Takes 1 t x → Takes 1 (cond b s t) x
choose true s t x p q = p
choose false s t x p q = q

-- a text that waits for nothing is no proper front of ESC [ either
not_introduced : (x : List ℕ) → is_proper_prefix x opening ≡ false → is_proper_prefix x introducer ≡ false
not_introduced [] e = absurd (cc)
not_introduced (a ∷ []) e = e
not_introduced (a ∷ b ∷ []) e = and-none (27 == a) (91 == b)
not_introduced (a ∷ b ∷ c ∷ cs) e = and-none (27 == a) (91 == b)

-- each part of waiting
pub record IsDecided (rows : List SeqRow) (x : List ℕ) : Type 0 where
  pub mark : is_proper_prefix x opening ≡ false
  pub known : is_begun rows x ≡ false
  pub sequence : is_open (control_sequence x) ≡ false

pub IsDecided-from : (rows : List SeqRow) (x : List ℕ) → waits rows x ≡ false → IsDecided rows x
IsDecided-from rows x e =
    let first : (is_proper_prefix x opening ≡ false) × ((is_begun rows x || is_open (control_sequence x)) ≡ false) = or_parts (is_proper_prefix x opening) (is_begun rows x || is_open (control_sequence x)) e in
    let second : (is_begun rows x ≡ false) × (is_open (control_sequence x) ≡ false) = or_parts (is_begun rows x) (is_open (control_sequence x)) first.1 in
    record { mark = first.0; known = second.0; sequence = second.1 }

waits-more : (rows : List SeqRow) (x more : List ℕ) → waits rows x ≡ false → waits rows (x ++ more) ≡ false
waits-more rows x more e =
    let h = IsDecided-from rows x e in
    or_from (is_proper_prefix (x ++ more) opening) (is_begun rows (x ++ more) || is_open (control_sequence (x ++ more))) (is_proper_prefix-more opening x more h.mark)
    (or_from (is_begun rows (x ++ more)) (is_open (control_sequence (x ++ more))) (is_begun-more rows x more h.known)
    (ap (λ (s : ControlSequence). is_open s) (control_sequence-more x more (not_introduced x h.mark) h.sequence) ∙ h.sequence))

-- a text that waits outside a paste is short
pub length-waits : (rows : List SeqRow) (x : List ℕ) → is_short rows ≡ true → waits rows x ≡ true → length x ≤ 63
length-waits rows x short e = ⊎_elim
    (λ (mark : is_proper_prefix x opening ≡ true). let below = length-is_proper_prefix opening x mark in omega arith)
    (λ (other : is_proper_prefix x opening ≡ false). ⊎_elim
    (λ (row : is_begun rows x ≡ true). length-is_begun rows x short row)
    (λ (none : is_begun rows x ≡ false). length-is_open x (sym (ap (λ b. b || is_open (control_sequence x)) none) ∙ sym (ap (λ b. b || (is_begun rows x || is_open (control_sequence x))) other) ∙ e))
    (cases_Bool (is_begun rows x)))
    (cases_Bool (is_proper_prefix x opening))

known-more : (rows : List SeqRow) (s : ControlSequence) (x more : List ℕ) (best : Key × ℕ) → is_begun rows x ≡ false
    → chosen_by rows s (x ++ more) best ≡ chosen_by rows s x best
known-more rows Unended x more best nothing_longer = refl
known-more rows (Whole n) x more best nothing_longer =
    let none : Key × ℕ = (Ignored, n) in
    ap (λ (b : Bool). cond b best none) (is_known-more rows n x more nothing_longer)
known-more rows Broken x more best nothing_longer = refl

chosen-more : (rows : List SeqRow) (c : ℕ) (cs more : List ℕ) → waits rows (c ∷ cs) ≡ false → chosen rows (c ∷ cs ++ more) ≡ chosen rows (c ∷ cs)
chosen-more rows c cs more e =
    let x = c ∷ cs in
    let h = IsDecided-from rows x e in
    let start : Key × ℕ = (Char c, 1) in
    ap (λ (b : Key × ℕ). chosen_by rows (control_sequence (x ++ more)) (x ++ more) b) (longest_from-more rows start x more h.known)
    ∙ ap (λ (s : ControlSequence). chosen_by rows s (x ++ more) (longest_from rows start x)) (control_sequence-more x more (not_introduced x h.mark) h.sequence)
    ∙ known-more rows (control_sequence x) x more (longest_from rows start x) h.known

Takes-chosen_by : (rows : List SeqRow) (s : ControlSequence) (x : List ℕ) (best : Key × ℕ) → IfWhole s (λ m. (1 ≤ m) × (m ≤ length x)) → Takes 1 best x
    → Takes 1 (chosen_by rows s x best) x
Takes-chosen_by rows Unended x best h t = t
Takes-chosen_by rows (Whole n) x best h t = choose (is_known rows n x) best (Ignored, n) x t h
Takes-chosen_by rows Broken x best h t = t

-- a key takes at least one character, and no more than there are
pub Takes-chosen : (rows : List SeqRow) (c : ℕ) (cs : List ℕ) → Takes 1 (chosen rows (c ∷ cs)) (c ∷ cs)
Takes-chosen rows c cs =
    let x = c ∷ cs in
    let start : Key × ℕ = (Char c, 1) in
    Takes-chosen_by rows (control_sequence x) x (longest_from rows start x) (whole-within x) (Takes-longest_from rows start x 1 (omega arith, omega arith))

-- the end mark that stands first stays first, and stands within the text
end_place-within : (x : List ℕ) (n : ℕ) → end_place x ≡ Some n → n + 6 ≤ length x
end_place-within [] n e = absurd (none_some n e)
end_place-within (c ∷ cs) n e = ⊎_elim
    (λ (here : is_prefix ending (c ∷ cs) ≡ true).
    let long = length-is_prefix ending (c ∷ cs) here in
    let first : Some 0 ≡ Some n = sym (cond-true (is_prefix ending (c ∷ cs)) (Some 0) (option_map (λ k. k + 1) (end_place cs)) here) ∙ e in
    let zero_is : 0 ≡ n = cc in
    omega arith)
    (λ (later : is_prefix ending (c ∷ cs) ≡ false).
    let rest : option_map (λ k. k + 1) (end_place cs) ≡ Some n = sym (cond-false (is_prefix ending (c ∷ cs)) (Some 0) (option_map (λ k. k + 1) (end_place cs)) later) ∙ e in
    let found = map_some (end_place cs) n rest in
    let below = end_place-within cs found.0 found.1 in
    omega (arith, found.2))
    (cases_Bool (is_prefix ending (c ∷ cs)))

end_place-more : (x more : List ℕ) (n : ℕ) → end_place x ≡ Some n → end_place (x ++ more) ≡ Some n
end_place-more [] more n e = absurd (none_some n e)
end_place-more (c ∷ cs) more n e = ⊎_elim
    (λ (here : is_prefix ending (c ∷ cs) ≡ true).
    cond-true (is_prefix ending (c ∷ cs ++ more)) (Some 0) (option_map (λ k. k + 1) (end_place (cs ++ more))) (is_prefix-append ending (c ∷ cs) more here)
    ∙ sym (cond-true (is_prefix ending (c ∷ cs)) (Some 0) (option_map (λ k. k + 1) (end_place cs)) here) ∙ e)
    (λ (later : is_prefix ending (c ∷ cs) ≡ false).
    let rest : option_map (λ k. k + 1) (end_place cs) ≡ Some n = sym (cond-false (is_prefix ending (c ∷ cs)) (Some 0) (option_map (λ k. k + 1) (end_place cs)) later) ∙ e in
    let found = map_some (end_place cs) n rest in
    let long = end_place-within cs found.0 found.1 in
    let short : is_proper_prefix (c ∷ cs) ending ≡ false = proper_prefix-long ending (c ∷ cs) (omega arith) in
    cond-false (is_prefix ending (c ∷ cs ++ more)) (Some 0) (option_map (λ k. k + 1) (end_place (cs ++ more))) (is_prefix-more ending (c ∷ cs) more short ∙ later)
    ∙ ap (λ (o : Option ℕ). option_map (λ k. k + 1) o) (end_place-more cs more found.0 found.1) ∙ ap (λ (k : ℕ). Some k) found.2)
    (cases_Bool (is_prefix ending (c ∷ cs)))

-- a decided press, with its parts
pressed : (x : List ℕ) (o : Option (Key × ℕ)) (k : KeyPress) (n : ℕ) → press_by x o ≡ Some (k, n)
    → (t : Key × ℕ) × (o ≡ Some t) × (record { key = t.0; text = take t.1 x } ≡ k) × (t.1 - 1 ≡ n)
pressed x None k n e = absurd (no_press (k, n) e)
pressed x (Some t) k n e =
    let P : Type 0 = KeyPress × ℕ in
    let got : P = (record { key = t.0; text = take t.1 x }, t.1 - 1) in
    let asked : P = (k, n) in
    let same : got ≡ asked = cc in
    (t, refl, ap (λ (q : P). q.0) same, ap (λ (q : P). q.1) same)

ended : (y : List ℕ) (o : Option ℕ) (k : KeyPress) (n : ℕ) → paste_by y o ≡ Some (k, n)
    → (m : ℕ) × (o ≡ Some m) × (paste_press (pasted (take m y)) ≡ k) × (m + 11 ≡ n)
ended y None k n e = absurd (no_press (k, n) e)
ended y (Some m) k n e =
    let P : Type 0 = KeyPress × ℕ in
    let got : P = (paste_press (pasted (take m y)), m + 11) in
    let asked : P = (k, n) in
    let same : got ≡ asked = cc in
    (m, refl, ap (λ (q : P). q.0) same, ap (λ (q : P). q.1) same)

-- what is decided without a flush waits for nothing
decision-some : (rows : List SeqRow) (x : List ℕ) (t : Key × ℕ) → decision rows false x ≡ Some t → (waits rows x ≡ false) × (chosen rows x ≡ t)
decision-some rows x t e = ⊎_elim
    (λ (waiting_is : waits rows x ≡ true). absurd (no_key t (sym (cond-true (waits rows x) None (Some (chosen rows x)) waiting_is) ∙ e)))
    (λ (decided_is : waits rows x ≡ false).
    let h : Some (chosen rows x) ≡ Some t = sym (cond-false (waits rows x) None (Some (chosen rows x)) decided_is) ∙ e in
    let same : chosen rows x ≡ t = cc in
    (decided_is, same))
    (cases_Bool (waits rows x))

first_by-of : (b : Bool) (rows : List SeqRow) (flush : Bool) (x : List ℕ) → opens flush x ≡ b → first_by (opens flush x) rows flush x ≡ first_by b rows flush x
first_by-of b rows flush x e = ap (λ (v : Bool). first_by v rows flush x) e

paste-parts : (rows : List SeqRow) (c : ℕ) (cs : List ℕ) (k : KeyPress) (n : ℕ) → is_prefix opening (c ∷ cs) ≡ true → first_key rows false (c ∷ cs) ≡ Some (k, n)
    → (m : ℕ) × (end_place (drop 6 (c ∷ cs)) ≡ Some m) × (paste_press (pasted (take m (drop 6 (c ∷ cs)))) ≡ k) × (m + 11 ≡ n)
paste-parts rows c cs k n mark e =
    ended (drop 6 (c ∷ cs)) (end_place (drop 6 (c ∷ cs))) k n (sym (first_by-of true rows false (c ∷ cs) mark) ∙ e)

press-parts : (rows : List SeqRow) (c : ℕ) (cs : List ℕ) (k : KeyPress) (n : ℕ) → is_prefix opening (c ∷ cs) ≡ false → first_key rows false (c ∷ cs) ≡ Some (k, n)
    → (t : Key × ℕ) × (waits rows (c ∷ cs) ≡ false) × (chosen rows (c ∷ cs) ≡ t) × (record { key = t.0; text = take t.1 (c ∷ cs) } ≡ k) × (t.1 - 1 ≡ n)
press-parts rows c cs k n mark e =
    let p = pressed (c ∷ cs) (decision rows false (c ∷ cs)) k n (sym (first_by-of false rows false (c ∷ cs) mark) ∙ e) in
    let d = decision-some rows (c ∷ cs) p.0 p.1 in
    (p.0, d.0, d.1, p.2, p.3)

pub first_key-within : (rows : List SeqRow) (c : ℕ) (cs : List ℕ) (k : KeyPress) (n : ℕ) → first_key rows false (c ∷ cs) ≡ Some (k, n) → n ≤ length cs
first_key-within rows c cs k n e = ⊎_elim
    (λ (mark : is_prefix opening (c ∷ cs) ≡ true).
    let p = paste-parts rows c cs k n mark e in
    let within = end_place-within (drop 6 (c ∷ cs)) p.0 p.1 in
    let long = length-is_prefix opening (c ∷ cs) mark in
    omega (arith, length-drop 6 (c ∷ cs), p.3))
    (λ (other : is_prefix opening (c ∷ cs) ≡ false).
    let p = press-parts rows c cs k n other e in
    let t = Takes-chosen rows c cs in
    let same : (chosen rows (c ∷ cs)).1 ≡ p.0.1 = ap (λ (q : Key × ℕ). q.1) p.2 in
    omega (arith, p.4))
    (cases_Bool (is_prefix opening (c ∷ cs)))

pub first_key-stays : (rows : List SeqRow) (c : ℕ) (cs more : List ℕ) (k : KeyPress) (n : ℕ) → first_key rows false (c ∷ cs) ≡ Some (k, n)
    → first_key rows false (c ∷ cs ++ more) ≡ Some (k, n)
first_key-stays rows c cs more k n e = ⊎_elim
    (λ (mark : is_prefix opening (c ∷ cs) ≡ true).
    let p = paste-parts rows c cs k n mark e in
    let y = drop 6 (c ∷ cs) in
    let within = end_place-within y p.0 p.1 in
    let long = length-is_prefix opening (c ∷ cs) mark in
    let behind : drop 6 (c ∷ cs ++ more) ≡ y ++ more = drop-append-le 6 (c ∷ cs) more (omega arith) in
    first_by-of true rows false (c ∷ cs ++ more) (is_prefix-append opening (c ∷ cs) more mark)
    ∙ ap (λ (t : List ℕ). paste_by t (end_place t)) behind
    ∙ ap (λ (o : Option ℕ). paste_by (y ++ more) o) (end_place-more y more p.0 p.1)
    ∙ ap (λ (t : List ℕ). Some (paste_press (pasted t), p.0 + 11)) (take-append-le p.0 y more (omega arith))
    ∙ ap (λ (q : KeyPress). Some (q, p.0 + 11)) p.2 ∙ ap (λ (m : ℕ). Some (k, m)) p.3)
    (λ (other : is_prefix opening (c ∷ cs) ≡ false).
    let p = press-parts rows c cs k n other e in
    let h = IsDecided-from rows (c ∷ cs) p.1 in
    let t = Takes-chosen rows c cs in
    let fits : p.0.1 ≤ length (c ∷ cs) = subst (λ (q : Key × ℕ). q.1 ≤ length (c ∷ cs)) p.2 t.1 in
    first_by-of false rows false (c ∷ cs ++ more) (is_prefix-more opening (c ∷ cs) more h.mark ∙ other)
    ∙ ap (λ (o : Option (Key × ℕ)). press_by (c ∷ cs ++ more) o)
    (cond-false (waits rows (c ∷ cs ++ more)) None (Some (chosen rows (c ∷ cs ++ more))) (waits-more rows (c ∷ cs) more p.1)
    ∙ ap (λ (q : Key × ℕ). Some q) (chosen-more rows c cs more p.1 ∙ p.2))
    ∙ ap (λ (t : List ℕ). Some (record { key = p.0.0; text = t }, p.0.1 - 1)) (take-append-le p.0.1 (c ∷ cs) more fits)
    ∙ ap (λ (q : KeyPress). Some (q, p.0.1 - 1)) p.3 ∙ ap (λ (m : ℕ). Some (k, m)) p.4)
    (cases_Bool (is_prefix opening (c ∷ cs)))

pub first_key-stable : (rows : List SeqRow) → IsStable (first_key rows false)
first_key-stable rows = record {
  within = λ c cs k n e. first_key-within rows c cs k n e;
  stays = λ c cs more k n e. first_key-stays rows c cs more k n e;
}

-- a flush decides all
pub first_key-flush : (rows : List SeqRow) (c : ℕ) (cs : List ℕ) → first_key rows true (c ∷ cs) ≡ None → ⊥
first_key-flush rows c cs e = cc

-- a text at whose front nothing is decided: an open paste, or one that waits
pub end_place-none : (rows : List SeqRow) (c : ℕ) (cs : List ℕ) → is_prefix opening (c ∷ cs) ≡ true → first_key rows false (c ∷ cs) ≡ None → end_place (drop 6 (c ∷ cs)) ≡ None
end_place-none rows c cs mark e = none_by (drop 6 (c ∷ cs)) (end_place (drop 6 (c ∷ cs))) (sym (first_by-of true rows false (c ∷ cs) mark) ∙ e)

pub waits-none : (rows : List SeqRow) (c : ℕ) (cs : List ℕ) → is_prefix opening (c ∷ cs) ≡ false → first_key rows false (c ∷ cs) ≡ None → waits rows (c ∷ cs) ≡ true
waits-none rows c cs other e = ⊎_elim
    (λ (waiting_is : waits rows (c ∷ cs) ≡ true). waiting_is)
    (λ (decided_is : waits rows (c ∷ cs) ≡ false). absurd (
    let some : first_key rows false (c ∷ cs) ≡ press_by (c ∷ cs) (Some (chosen rows (c ∷ cs))) =
    first_by-of false rows false (c ∷ cs) other ∙ ap (λ (o : Option (Key × ℕ)). press_by (c ∷ cs) o) (cond-false (waits rows (c ∷ cs)) None (Some (chosen rows (c ∷ cs))) decided_is) in
    no_press (record { key = (chosen rows (c ∷ cs)).0; text = take (chosen rows (c ∷ cs)).1 (c ∷ cs) }, (chosen rows (c ∷ cs)).1 - 1) (sym e ∙ some)))
    (cases_Bool (waits rows (c ∷ cs)))
