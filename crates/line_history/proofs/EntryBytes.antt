-- The bytes of an entry, character by character.
use Prim.Native.Nat.{suc}
use Rattle.std.proofs.Common.{◌≡◌, ◌==◌, ℕ, ◌+◌, ◌<◌, ◌≤◌, add-one, drop-cons, get_or, length, Bool, true, List, [], ◌∷◌, ◌++◌, drop, decimal, encode_utf8, encode_utf8_all, refl, sym, ap, ◌∙◌, ⊎_elim, append_assoc}
use Rattle.std.specs.List.{onto_first, flat_map}
use Rattle.std.proofs.lemmas.Bool.{and_from, cases_Bool, eqb-true}
use Rattle.std.proofs.lemmas.List.{drop_all}
use Rattle.std.proofs.lemmas.List.Splits.{slice_split-cons_yes, slice_split-cons_no}
use Rattle.text_doc.specs.Lines.{lines_of}
use Rattle.line_history.specs.History.{entry_bytes, line_bytes}
use Rattle.line_history.specs.Writing.{char_bytes, char_bytes_if}
use Rattle.line_history.proofs.Cuts.{HasFirst-split}
use lib.Utf8.{encode, scalar, scalars}

-- the test of a line feed
abbrev pub is_line_feed : ℕ → Bool
is_line_feed c = c == 10

-- what is written of these characters up to the end of the entry
abbrev pub written : List ℕ → List ℕ
written [] = 10 ∷ []
written (c ∷ cs) = char_bytes c ++ written cs

lines_written : (chars : List ℕ) → flat_map line_bytes (lines_of chars) ≡ 43 ∷ written chars
unfolding encode
lines_written [] = refl
lines_written (c ∷ cs) =
    let next = λ (b : Bool). 43 ∷ (char_bytes_if b c ++ written cs) in
    ⊎_elim
    (λ yes.
    let is : c ≡ 10 = eqb-true c 10 yes in
    ap (flat_map line_bytes) (slice_split-cons_yes is_line_feed c cs yes)
    ∙ ap (λ t. 43 ∷ 10 ∷ t) (lines_written cs)
    ∙ sym (ap (λ n. 43 ∷ ((encode_utf8 n ++ 43 ∷ []) ++ written cs)) is)
    ∙ sym (ap next yes))
    (λ no.
    let has = HasFirst-split is_line_feed cs in
    let later = flat_map line_bytes has.rest in
    let chars = encode_utf8_all has.first in
    let rest : (chars ++ 10 ∷ []) ++ later ≡ written cs =
    ap (drop 1) (sym (ap (flat_map line_bytes) has.is) ∙ lines_written cs) in
    ap (flat_map line_bytes) (slice_split-cons_no is_line_feed c cs no ∙ ap (onto_first c) has.is)
    ∙ ap (λ t. 43 ∷ (t ++ later)) (append_assoc (encode_utf8 c) chars (10 ∷ []))
    ∙ ap (λ t. 43 ∷ t) (append_assoc (encode_utf8 c) (chars ++ 10 ∷ []) later)
    ∙ ap (λ t. 43 ∷ (encode_utf8 c ++ t)) rest
    ∙ sym (ap next no))
    (cases_Bool (is_line_feed c))

-- the comment that stands before the lines
abbrev pub comment : ℕ → List ℕ
comment moment = 35 ∷ 32 ∷ decimal moment

pub entry_bytes_is : (entry : List ℕ) (moment : ℕ) → entry_bytes entry moment ≡ 10 ∷ (comment moment ++ 10 ∷ 43 ∷ written entry)
unfolding entry_bytes
entry_bytes_is entry moment =
    ap (λ t. 10 ∷ 35 ∷ 32 ∷ t)
    (append_assoc (decimal moment) (10 ∷ []) (flat_map line_bytes (lines_of entry)) ∙ ap (λ t. decimal moment ++ 10 ∷ t) (lines_written entry))

-- where nothing but the comment and the first `+` is written
pub entry_begun : (entry : List ℕ) (moment : ℕ)
    → (10 ∷ 35 ∷ 32 ∷ (decimal moment ++ 10 ∷ 43 ∷ [])) ++ written entry ≡ entry_bytes entry moment
entry_begun entry moment =
    ap (λ t. 10 ∷ 35 ∷ 32 ∷ t) (append_assoc (decimal moment) (10 ∷ 43 ∷ []) (written entry)) ∙ sym (entry_bytes_is entry moment)

-- the characters from a place on are the one there and those behind it
pub drop-next : (chars : List ℕ) (i c : ℕ) → i < length chars → c ≡ get_or chars i c → drop i chars ≡ c ∷ drop (i + 1) chars
drop-next chars i c within is =
    drop-cons chars i c within ∙ ap (λ d. d ∷ drop (suc i) chars) (sym is) ∙ ap (λ n. c ∷ drop n chars) (sym (add-one i))

-- one more character is written
pub written_more : (so_far bytes chars whole : List ℕ) (i c : ℕ) → i < length chars → c ≡ get_or chars i c
    → so_far ++ written (drop i chars) ≡ whole → bytes ≡ so_far ++ char_bytes c → bytes ++ written (drop (i + 1) chars) ≡ whole
written_more so_far bytes chars whole i c within is before grown =
    ap (λ t. t ++ written (drop (i + 1) chars)) grown
    ∙ append_assoc so_far (char_bytes c) (written (drop (i + 1) chars))
    ∙ sym (ap (λ t. so_far ++ written t) (drop-next chars i c within is)) ∙ before

pub valid_more : (chars : List ℕ) (i c : ℕ) → i < length chars → c ≡ get_or chars i c → scalar c ≡ true
    → scalars (drop (i + 1) chars) ≡ true → scalars (drop i chars) ≡ true
valid_more chars i c within is one rest = ap scalars (drop-next chars i c within is) ∙ and_from (scalar c) (scalars (drop (i + 1) chars)) one rest

-- no character is left to be written
pub written_all : (so_far bytes chars whole : List ℕ) (i : ℕ) → length chars ≤ i
    → so_far ++ written (drop i chars) ≡ whole → bytes ≡ so_far ++ encode_utf8 10 → bytes ≡ whole
unfolding encode
written_all so_far bytes chars whole i past before grown =
    grown ∙ sym (ap (λ t. so_far ++ written t) (drop_all i chars past)) ∙ before

pub valid_all : (chars : List ℕ) (i : ℕ) → length chars ≤ i → (scalars (drop i chars) ≡ true → scalars chars ≡ true) → scalars chars ≡ true
valid_all chars i past valid = valid (ap scalars (drop_all i chars past))
