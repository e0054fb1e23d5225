-- A parser keeps little.
use Rattle.std.proofs.Common.{◌≡◌, ℕ, ◌-◌, ◌<◌, ◌≤◌, Bool, true, false, nat_lt, List, [], ◌∷◌, ◌++◌, length, take, drop, slice_index, Option, Some, None, IfSome, refl, sym, ap, subst, ◌∙◌, arith, ⊎_elim}
use Rattle.std.specs.Prelude.{◌==◌, ◌&&◌, is_none}
use Rattle.std.proofs.lemmas.Bool.{cases_Bool, cond-false, and_parts}
use Rattle.std.proofs.lemmas.Bool.Decides.{nat_tests}
use Rattle.bstr.specs.Utf8.{decoded, lead_len, or_replacement}
use Rattle.vt_input.specs.declared.pasted.PastedText.{PastedText}
use Rattle.vt_input.specs.declared.row.SeqRow.{SeqRow}
use Rattle.characters.specs.Characters.{is_unfinished, first_char, characters, unfinished_char}
use Rattle.vt_input.specs.Sequences.{is_prefix, is_short}
use Rattle.vt_input.specs.Pressed.{opening, ending, paste_limit, first_key, keys_of}
use Rattle.vt_input.specs.Held.{Paste, Held, Fed, nothing, begun, add_all, missed_by, step_by, step, Went, still, over, went_by, went, held_still, held_by, held_of, fed_cut, fed_went, fed_by}
use Rattle.vt_input.specs.Inputs.{Parsing, IsSmall, parsing_after, flushed_by, bytes_by, parsing_flushed, stands_for}
use Rattle.characters.proofs.CutLemmas.{Waits, Waits-cut_behind}
use Rattle.vt_input.proofs.KeyLemmas.{waits-none, length-waits}
use Rattle.vt_input.proofs.PasteLemmas.{length-add, length-add_all}
use Rattle.vt_input.proofs.HeldLemmas.{flushed-nothing}
use Rattle.vt_input.proofs.InputLemmas.{after-whole}

abbrev IsWithin : Paste → Type 0
IsWithin p = length p.text.kept ≤ paste_limit

missed-small : (esc : Bool) (t : PastedText) (c : ℕ) → length t.kept ≤ paste_limit → IsWithin (missed_by esc t c)
missed-small true t c le = le
missed-small false t c le = length-add t c le

step_by-small : (same last : Bool) (p : Paste) (c : ℕ) → IsWithin p → IfSome (step_by same last p c) IsWithin
step_by-small false last p c le = missed-small (27 == c) (add_all (take p.marked ending) p.text) c (length-add_all (take p.marked ending) p.text le)
step_by-small true false p c le = le
step_by-small true true p c le = tt

abbrev IsWentWithin : Went → Type 0
IsWentWithin (still p) = IsWithin p
IsWentWithin (over text rest) = Unit {0}

went_by-small : (o : Option Paste) (kept cs : List ℕ) → IfSome o IsWithin → ((q : Paste) → IsWithin q → IsWentWithin (went cs q)) → IsWentWithin (went_by o kept cs (λ q. went cs q))
went_by-small None kept cs h ih = tt
went_by-small (Some q) kept cs h ih = ih q h

went-small : (x : List ℕ) (p : Paste) → IsWithin p → IsWentWithin (went x p)
went-small [] p le = le
went-small (c ∷ cs) p le =
    went_by-small (step p c) p.text.kept cs (step_by-small (slice_index ending p.marked == c) (p.marked == 5) p c le) (λ q h. went-small cs q h)

-- what is held is little
abbrev IsHeldSmall : Held → Type 0
IsHeldSmall h = (length h.text ≤ 63) × IfSome h.paste IsWithin

still-small : (w : Went) → IsWentWithin w → IsHeldSmall (held_still w)
still-small (still p) h = (omega arith, h)
still-small (over text rest) h = (omega arith, tt)

rest-small : (rows : List SeqRow) (r : List ℕ) → is_short rows ≡ true → Waits (first_key rows false) r → IsHeldSmall (held_of r)
rest-small rows [] short w = (omega arith, tt)
rest-small rows (c ∷ cs) short w = ⊎_elim
    (λ (mark : is_prefix opening (c ∷ cs) ≡ true).
    subst (λ (b : Bool). IsHeldSmall (held_by b (c ∷ cs))) (sym mark) (still-small (went (drop 6 (c ∷ cs)) begun) (went-small (drop 6 (c ∷ cs)) begun (omega arith))))
    (λ (other : is_prefix opening (c ∷ cs) ≡ false).
    subst (λ (b : Bool). IsHeldSmall (held_by b (c ∷ cs))) (sym other) (length-waits rows (c ∷ cs) short (waits-none rows c cs other w), tt))
    (cases_Bool (is_prefix opening (c ∷ cs)))

text-small : (rows : List SeqRow) (x : List ℕ) → is_short rows ≡ true → IsHeldSmall (fed_cut (keys_of rows false x)).held
text-small rows x short = rest-small rows (keys_of rows false x).rest short (Waits-cut_behind (first_key rows false) 0 x)

went-held : (rows : List SeqRow) (w : Went) → is_short rows ≡ true → IsWentWithin w → IsHeldSmall (fed_went rows false w).held
went-held rows (still p) short h = (omega arith, h)
went-held rows (over text rest) short h = text-small rows rest short

fed_by-small : (rows : List SeqRow) (paste : Option Paste) (x : List ℕ) → is_short rows ≡ true → IfSome paste IsWithin → IsHeldSmall (fed_by rows false paste x).held
fed_by-small rows None x short h = text-small rows x short
fed_by-small rows (Some p) x short h = went-held rows (went x p) short (went-small x p h)

-- an unfinished character has at most three bytes
some_none : (t : ℕ × ℕ) → Some t ≡ None → ⊥
some_none t e = cc

unfinished-open : (b : ℕ) (bs : List ℕ) → first_char (b ∷ bs) ≡ None → is_unfinished (b ∷ bs) ≡ true
unfinished-open b bs e = ⊎_elim
    (λ (open_is : is_unfinished (b ∷ bs) ≡ true). open_is)
    (λ (whole : is_unfinished (b ∷ bs) ≡ false). absurd (
    some_none (or_replacement (decoded (b ∷ bs)).char, (decoded (b ∷ bs)).size - 1) (sym (cond-false (is_unfinished (b ∷ bs)) None (Some (or_replacement (decoded (b ∷ bs)).char, (decoded (b ∷ bs)).size - 1)) whole) ∙ e)))
    (cases_Bool (is_unfinished (b ∷ bs)))

lead_len-bound : (b : ℕ) → lead_len b ≤ 4
lead_len-bound b = grind (arith, nat_tests)

length-unfinished : (r : List ℕ) → Waits first_char r → length r ≤ 3
length-unfinished [] w = omega arith
length-unfinished (b ∷ bs) w =
    let n = length (b ∷ bs) in
    let p = decoded (b ∷ bs) in
    let first : (is_none p.char ≡ true) × ((p.size == n && nat_lt n (lead_len b)) ≡ true) = and_parts (is_none p.char) (p.size == n && nat_lt n (lead_len b)) (unfinished-open b bs w) in
    let second : (p.size == n ≡ true) × (nat_lt n (lead_len b) ≡ true) = and_parts (p.size == n) (nat_lt n (lead_len b)) first.1 in
    let short : n < lead_len b = grind (arith, nat_tests) in
    let most = lead_len-bound b in
    omega arith

pub length-characters_rest : (x : List ℕ) → length (characters x).rest ≤ 3
length-characters_rest x = length-unfinished (characters x).rest (Waits-cut_behind first_char 0 x)

-- a parser that keeps little keeps little when it is fed
pub IsSmall-after : (p : Parsing) (bytes : List ℕ) → is_short p.rows ≡ true → IsSmall p → IsSmall (parsing_after p bytes)
IsSmall-after p bytes short small =
    let h = fed_by-small p.rows p.held.paste (p.held.text ++ (characters (p.bytes ++ bytes)).items) short small.paste in
    record { bytes = length-characters_rest (p.bytes ++ bytes); text = h.0; paste = h.1 }

flushed-small : (o : Option Paste) (p : Parsing) → p.held.paste ≡ o → IsSmall p → IsSmall (parsing_flushed p)
flushed-small (Some q) p e small =
    let same : record { rows = p.rows; bytes = p.bytes; held = p.held } ≡ parsing_flushed p =
    ap (λ (o : Option Paste). record { rows = p.rows; bytes = bytes_by o p.bytes; held = (flushed_by o p).held }) (sym e) in
    subst (λ (t : Parsing). IsSmall t) same small
flushed-small None p e small =
    let none = flushed-nothing p.rows (p.held.text ++ unfinished_char p.bytes) in
    let same : record { rows = p.rows; bytes = []; held = nothing } ≡ parsing_flushed p =
    ap (λ (f : Fed). record { rows = p.rows; bytes = []; held = f.held }) (sym none)
    ∙ ap (λ (o : Option Paste). record { rows = p.rows; bytes = bytes_by o p.bytes; held = (flushed_by o p).held }) (sym e) in
    let empty : Parsing = record { rows = p.rows; bytes = []; held = nothing } in
    let held : IsSmall empty = record { bytes = omega arith; text = omega arith; paste = tt } in
    subst (λ (t : Parsing). IsSmall t) same held

-- or flushed
pub IsSmall-flushed : (p : Parsing) → IsSmall p → IsSmall (parsing_flushed p)
IsSmall-flushed p small = flushed-small p.held.paste p refl small

-- so whatever it reads
pub IsSmall-stands_for : (rows : List SeqRow) (bytes : List ℕ) → is_short rows ≡ true → IsSmall (stands_for rows bytes)
IsSmall-stands_for rows bytes short =
    let fresh : IsSmall (stands_for rows []) = record { bytes = omega arith; text = omega arith; paste = tt } in
    subst (λ (p : Parsing). IsSmall p) (after-whole rows [] bytes) (IsSmall-after (stands_for rows []) bytes short fresh)
