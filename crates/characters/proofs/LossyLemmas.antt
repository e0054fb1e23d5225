-- The characters and the unfinished rest are the lossy reading of all bytes.
use Prim.Native.Nat.{zero, suc}
use Rattle.std.proofs.Common.{◌≡◌, ℕ, ◌≤◌, true, false, nat_lt, List, [], ◌∷◌, ◌++◌, length, length-drop, drop, Option, Some, None, refl, sym, ap, ◌∙◌, arith, ⊎_elim}
use Rattle.std.specs.Prelude.{◌==◌, ◌&&◌, is_none}
use Rattle.std.proofs.lemmas.Bool.{cases_Bool, eqb-true, and_parts}
use Rattle.std.proofs.lemmas.List.{drop_all}
use Rattle.bstr.specs.Utf8.{decoded, lead_len, replacement, or_replacement, lossy_chars}
use Rattle.bstr.proofs.lemmas.PieceLemmas.{piece-bounds, lossy_chars-step, lossy_chars-nil}
use Rattle.characters.specs.Cut.{Cut}
use Rattle.characters.specs.Characters.{is_unfinished, characters, unfinished_char}
use Rattle.characters.proofs.CharacterLemmas.{characters-step, characters-waits}

abbrev read : Cut ℕ → List ℕ
read cut = cut.items ++ unfinished_char cut.rest

none_is : (o : Option ℕ) → is_none o ≡ true → o ≡ None
none_is None e = refl
none_is (Some c) e = absurd (cc)

-- an unfinished character is one U+FFFD
pub waiting_lossy : (b : ℕ) (bs : List ℕ) → is_unfinished (b ∷ bs) ≡ true → replacement ∷ [] ≡ lossy_chars (b ∷ bs)
waiting_lossy b bs e =
    let x = b ∷ bs in
    let p = decoded x in
    let first : (is_none p.char ≡ true) × ((p.size == length x && nat_lt (length x) (lead_len b)) ≡ true) = and_parts (is_none p.char) (p.size == length x && nat_lt (length x) (lead_len b)) e in
    let second : (p.size == length x ≡ true) × (nat_lt (length x) (lead_len b) ≡ true) = and_parts (p.size == length x) (nat_lt (length x) (lead_len b)) first.1 in
    let whole : p.size ≡ length x = eqb-true p.size (length x) second.0 in
    let behind : drop p.size x ≡ [] = drop_all p.size x (omega arith) in
    sym (lossy_chars-step x (omega arith) ∙ ap (λ (o : Option ℕ). or_replacement o ∷ lossy_chars (drop p.size x)) (none_is p.char first.0)
    ∙ ap (λ (t : List ℕ). replacement ∷ lossy_chars t) behind ∙ ap (λ (t : List ℕ). replacement ∷ t) lossy_chars-nil)

within : (fuel : ℕ) (x : List ℕ) → length x ≤ fuel → read (characters x) ≡ lossy_chars x
within fuel [] le = sym lossy_chars-nil
within zero (b ∷ bs) le = absurd (omega arith)
within (suc fuel) (b ∷ bs) le =
    let x = b ∷ bs in
    let p = decoded x in
    ⊎_elim
    (λ (open_is : is_unfinished x ≡ true). ap (λ (t : Cut ℕ). read t) (characters-waits x open_is) ∙ waiting_lossy b bs open_is)
    (λ (whole : is_unfinished x ≡ false).
    let bounds = piece-bounds x (omega arith) in
    ap (λ (t : Cut ℕ). read t) (characters-step x (omega arith) whole)
    ∙ ap (λ (t : List ℕ). or_replacement p.char ∷ t) (within fuel (drop p.size x) (omega (arith, length-drop p.size x)))
    ∙ sym (lossy_chars-step x (omega arith)))
    (cases_Bool (is_unfinished x))

pub characters-lossy : (bytes : List ℕ) → read (characters bytes) ≡ lossy_chars bytes
characters-lossy bytes = within (length bytes) bytes (omega arith)
