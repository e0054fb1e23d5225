-- How bytes are read as characters, from their front on.
use Rattle.std.proofs.Common.{◌≡◌, encode_utf8, encode_utf8_all, ℕ, ◌<◌, ◌≤◌, Option, Some, None, Bool, true, false, List, [], ◌∷◌, ◌++◌, length, drop, slice_index, refl, sym, ap, ◌∙◌, arith, append_assoc, append-nil, length-append}
use Rattle.std.specs.Prelude.{IfNone, IfSome, OnSome, MatchOption}
use Rattle.std.proofs.lemmas.Bool.{and_parts, false≢true}
use Rattle.std.proofs.lemmas.List.{drop_at}
use Rattle.std.proofs.lemmas.Str.{len_utf8_bounds, length-encode}
use lib.Utf8.{scalars}
use Rattle.bstr.specs.Utf8.{Decoded, decoded, good, or_replacement}
use Rattle.bstr.proofs.lemmas.PieceLemmas.{piece-bounds, value-1}
use Rattle.bstr.proofs.lemmas.EncodeLemmas.{decoded-encode}
use Rattle.characters.specs.Characters.{characters, first_char, is_unfinished, is_unfinished_by}
use Rattle.characters.specs.Cut.{Cut, cut_of, put_first}
use Rattle.characters.proofs.CharacterLemmas.{characters-step, characters-waits, first_char-stable}
use Rattle.characters.proofs.CutLemmas.{with_items, cut-append}
use Rattle.term_model.specs.Obeying.{chars_of}

pub chars_of-step : (bytes : List ℕ) → 0 < length bytes → is_unfinished bytes ≡ false
    → chars_of bytes ≡ or_replacement (decoded bytes).char ∷ chars_of (drop (decoded bytes).size bytes)
chars_of-step bytes some whole = ap (λ (t : Cut ℕ). t.items) (characters-step bytes some whole)

pub chars_of-waits : (bytes : List ℕ) → is_unfinished bytes ≡ true → chars_of bytes ≡ []
chars_of-waits bytes unfinished = ap (λ (t : Cut ℕ). t.items) (characters-waits bytes unfinished)

-- bytes that begin with a character are not unfinished
whole_good : (bytes : List ℕ) (c size : ℕ) → decoded bytes ≡ good c size → is_unfinished bytes ≡ false
whole_good bytes c size is = ap (λ (p : Decoded). is_unfinished_by p (length bytes) (slice_index bytes 0)) is

-- a byte below 128 is a character
pub chars_of-ascii : (b : ℕ) (rest : List ℕ) → b < 128 → chars_of (b ∷ rest) ≡ b ∷ chars_of rest
chars_of-ascii b rest low =
    let bytes = b ∷ rest in
    let some : 0 < length bytes = omega arith in
    let reads : decoded bytes ≡ good b 1 =
    value-1 (length bytes) b (slice_index bytes 1) (slice_index bytes 2) (slice_index bytes 3) (some, low) in
    chars_of-step bytes some (whole_good bytes b 1 reads) ∙ ap (λ (p : Decoded). or_replacement p.char ∷ chars_of (drop p.size bytes)) reads

-- characters in UTF-8 are read back
pub characters-front : (chars rest : List ℕ) → scalars chars ≡ true → characters (encode_utf8_all chars ++ rest) ≡ with_items chars (characters rest)
characters-front [] rest all = refl
characters-front (c ∷ cs) rest all =
    let both = and_parts _ _ all in
    let first = encode_utf8 c in
    let later = encode_utf8_all cs ++ rest in
    let bytes = first ++ later in
    let some : 0 < length bytes = omega (arith, len_utf8_bounds c, length-encode c, length-append first later) in
    let read : decoded bytes ≡ good c (length first) = decoded-encode c later both.0 in
    let rest_is : drop (decoded bytes).size bytes ≡ later = drop_at first later _ (sym (ap (λ (p : Decoded). p.size) read)) in
    ap characters (append_assoc first (encode_utf8_all cs) rest) ∙ characters-step bytes some (whole_good bytes c (length first) read)
    ∙ ap (λ (p : Decoded). put_first (or_replacement p.char) (characters (drop (decoded bytes).size bytes))) read
    ∙ ap (λ (t : List ℕ). put_first c (characters t)) rest_is
    ∙ ap (λ (t : Cut ℕ). put_first c t) (characters-front cs rest both.1)

pub chars_of-front : (chars rest : List ℕ) → scalars chars ≡ true → chars_of (encode_utf8_all chars ++ rest) ≡ chars ++ chars_of rest
chars_of-front chars rest all = ap (λ (t : Cut ℕ). t.items) (characters-front chars rest all)

pub characters-encoded : (chars : List ℕ) → scalars chars ≡ true → characters (encode_utf8_all chars) ≡ record { items = chars; rest = [] }
characters-encoded chars all =
    ap characters (sym (append-nil (encode_utf8_all chars))) ∙ characters-front chars [] all ∙ ap (λ (items : List ℕ). record { items = items; rest = [] }) (append-nil chars)

-- bytes behind those that end between characters
pub chars_of-append : (bytes more : List ℕ) → (characters bytes).rest ≡ [] → chars_of (bytes ++ more) ≡ chars_of bytes ++ chars_of more
chars_of-append bytes more ends =
    ap (λ (t : Cut ℕ). t.items) (cut-append first_char first_char-stable bytes more)
    ∙ ap (λ (rest : List ℕ). chars_of bytes ++ (cut_of first_char (rest ++ more)).items) ends

-- ---- a first character, or none

nonempty : (bytes : List ℕ) → is_unfinished bytes ≡ false → 0 < length bytes
nonempty [] whole = absurd (false≢true (sym whole))
nonempty (b ∷ bytes) whole = omega arith

module _ (bytes : List ℕ) where
  pub first-reads : (first : Option (ℕ × ℕ)) → IfNone first (is_unfinished bytes ≡ true) → OnSome first (is_unfinished bytes ≡ false)
      → IfSome first (λ found. found.0 ≡ or_replacement (decoded bytes).char) → IfSome first (λ found. found.1 ≡ (decoded bytes).size)
      → MatchOption first (chars_of bytes ≡ []) (λ found. chars_of bytes ≡ found.0 ∷ chars_of (drop found.1 bytes))
  first-reads None waits whole char size = chars_of-waits bytes waits
  first-reads (Some found) waits whole char size = rw (char, size) (chars_of-step bytes (nonempty bytes whole) whole)

  pub first-forward : (first : Option (ℕ × ℕ)) → OnSome first (is_unfinished bytes ≡ false) → IfSome first (λ found. found.1 ≡ (decoded bytes).size)
      → IfSome first (λ found. 0 < found.1)
  first-forward None whole size = tt
  first-forward (Some found) whole size = rw size (piece-bounds bytes (nonempty bytes whole)).0

  pub first-within : (first : Option (ℕ × ℕ)) → OnSome first (is_unfinished bytes ≡ false) → IfSome first (λ found. found.1 ≡ (decoded bytes).size)
      → IfSome first (λ found. found.1 ≤ length bytes)
  first-within None whole size = tt
  first-within (Some found) whole size = rw size (piece-bounds bytes (nonempty bytes whole)).2
