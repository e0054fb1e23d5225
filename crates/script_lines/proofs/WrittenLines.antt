-- A line says something exactly where it is the one line for it.
use Rattle.std.proofs.Common.{◌≡◌, ◌≢◌, ℕ, ◌+◌, ◌<◌, ◌⊎◌, inl, inr, Bool, true, false, List, ◌∷◌, ◌++◌, All, length, get_or, take, drop, Option, Some, None, nat_le, nat_eq, cond, refl, suc, sym, ap, subst, ◌∙◌, arith, ⊎_elim, add-one, length-append}
use Rattle.std.specs.Prelude.{◌==◌, chars, codes, encode_utf8_all, position}
use Rattle.std.specs.List.{position_or_len, starts_with}
use Rattle.std.specs.Str.{bytes_eq, is_utf8}
use Rattle.std.proofs.Math.ListN.{get_or-append}
use Rattle.std.proofs.Math.Seq.{drop-append-add, get_or-append_seam, split_at, take-append_seam}
use Rattle.std.proofs.lemmas.Bool.{cond-true, and_parts, and_from, eq-eqb, eqb-true, false≢true, le-leb, leb-true, lt-ltb, ne_eqb}
use Rattle.std.proofs.lemmas.List.{take-append-drop, get_or_default, get_or-take, length-take}
use Rattle.std.proofs.lemmas.List.Quantifiers.{position-Some}
use Rattle.std.proofs.lemmas.List.Sums.{position_or_len_is}
use Rattle.std.proofs.lemmas.Option.{none-some}
use Rattle.std.proofs.lemmas.Slice.Eq.{bytes_eq-Decides}
use Rattle.std.proofs.lemmas.Str.{IsUtf8-from_is_utf8, chars-encodes, encodes-chars, is_utf8-from_IsUtf8, scalars-chars}
use Rattle.cell_grid.specs.Size.{Extent}
use Rattle.prompt_settings.specs.Size.{size_of}
use Rattle.prompt_settings.proofs.NumberLemmas.{is_number, number_of-decimal}
use Rattle.prompt_settings.proofs.SizeLemmas.{is_size, size_of-spelled}
use Rattle.prompt_settings.specs.Number.{number_of}
use Rattle.script_lines.specs.declared.script_line.ScriptLine.{ScriptLine}
use Rattle.script_lines.specs.declared.script_line.ScriptLine.TheVariants.{Set, Piece, Resize, Tick, Show, End}
use Rattle.script_lines.specs.ScriptLine.{chars_in, is_piece, parts_line, piece_line, resize_line, said_by, script_line, set_cut, set_from, set_line, tick_line, utf8_in}
use Rattle.script_lines.specs.Spelled.{IsWithinLimits, Says, spelled_line}
use Rattle.script_lines.specs.Spelling.{spelling, unspelled}
use Rattle.script_lines.proofs.SpellingLemmas.{spells, unspelled-spelling}
use Rattle.script_lines.proofs.Utf8Lemmas.{AreBytes-encodes, utf8_in-yes}
use lib.Utf8.{scalars}

-- which way a choice went that gave a value
choice : {A : Type 0} (test : Bool) (here there : Option A) (x : A) → cond test here there ≡ Some x
    → ((test ≡ true) × (here ≡ Some x)) ⊎ ((test ≡ false) × (there ≡ Some x))
choice true here there x value = inl (refl, value)
choice false here there x value = inr (refl, value)

only_true : {A : Type 0} (test : Bool) (here : Option A) (x : A) → cond test here None ≡ Some x → (test ≡ true) × (here ≡ Some x)
only_true true here x value = (refl, value)
only_true false here x value = absurd (none-some x value)

-- what a line says, but for its length
record Tells (line : List ℕ) (said : ScriptLine) : Type 0 where
  written : line ≡ spelled_line said
  within : IsWithinLimits said

-- a line that begins with a word is the word and what stands behind it
begins : (word line : List ℕ) → starts_with nat_eq line word ≡ true → line ≡ word ++ drop (length word) line
begins word line does =
    sym (take-append-drop (length word) line)
    ∙ ap (λ t. t ++ drop (length word) line) (sym ((bytes_eq-Decides word (take (length word) line)).0 does))

abbrev is_space : ℕ → Bool
is_space byte = byte == 32

-- the place of the first space cuts the text
cut_at_space : (text : List ℕ) (at : ℕ) → position is_space text ≡ Some at
    → (text ≡ take at text ++ 32 ∷ drop (at + 1) text) × All (λ byte. byte ≢ 32) (take at text)
cut_at_space text at found =
    let place = position-Some is_space text at 0 found in (
      split_at text at 0 place.0
          ∙ ap (λ c. take at text ++ c ∷ drop (suc at) text) (eqb-true (get_or text at 0) 32 place.1)
          ∙ ap (λ n. take at text ++ 32 ∷ drop n text) (sym (add-one at)),
      λ k d below here.
          let inside : k < at = omega (arith, length-take at text) in
          let same : get_or text k 0 ≡ 32 =
          get_or_default text k 0 d (omega (arith, place.0)) ∙ sym (get_or-take at text k d inside) ∙ here in
          false≢true (sym (place.2 k inside) ∙ eq-eqb (get_or text k 0) 32 same),
    )

-- the characters of a value that was read
chars_read : (spelled : Option (List ℕ)) (value : List ℕ) → chars_in spelled ≡ Some value
    → (bytes : List ℕ) × (spelled ≡ Some bytes) × (bytes ≡ encode_utf8_all value) × (scalars value ≡ true)
chars_read None value read = absurd (none-some value read)
chars_read (Some bytes) value read =
    let parts = only_true (is_utf8 bytes) (Some (chars bytes)) value read in
    let text : chars bytes ≡ value = let h = parts.1 in cc in
    let utf8 = IsUtf8-from_is_utf8 bytes parts.0 in
    (bytes, refl, sym (encodes-chars bytes utf8) ∙ ap encode_utf8_all text, sym (ap scalars text) ∙ scalars-chars bytes utf8)

-- a `set` line that was read
set_parts : (text : List ℕ) (at : ℕ) (name value : Option (List ℕ)) (said : ScriptLine) → position is_space text ≡ Some at
    → utf8_in (take at text) ≡ name → chars_in (unspelled (drop (at + 1) text)) ≡ value → set_from name value ≡ Some said → Tells (codes "set " ++ text) said
set_parts text at None value said found of_name of_value read = absurd (none-some said read)
set_parts text at (Some name) None said found of_name of_value read = absurd (none-some said read)
set_parts text at (Some name) (Some value) said found of_name of_value read =
    let behind = drop (at + 1) text in
    let cut = cut_at_space text at found in
    let utf8 = only_true (is_utf8 (take at text)) (Some (take at text)) name of_name in
    let same_name : take at text ≡ name = let h = utf8.1 in cc in
    let chars = chars_read (unspelled behind) value of_value in
    let same : Set name value ≡ said = cc in
    subst (λ (s : ScriptLine). Tells (codes "set " ++ text) s) same (record {
      written = ap (λ t. codes "set " ++ t) (cut.0
          ∙ ap (λ n. n ++ 32 ∷ behind) same_name
          ∙ ap (λ b. name ++ 32 ∷ b) ((spells behind chars.0 chars.1).written ∙ ap spelling chars.2));
      within = (sym (ap is_utf8 same_name) ∙ utf8.0, subst (All (λ byte. byte ≢ 32)) same_name cut.1, chars.3);
    })

set_told : (text : List ℕ) (place : Option ℕ) (said : ScriptLine) → position is_space text ≡ place → set_cut place text ≡ Some said → Tells (codes "set " ++ text) said
set_told text None said found read = absurd (none-some said read)
set_told text (Some at) said found read =
    set_parts text at (utf8_in (take at text)) (chars_in (unspelled (drop (at + 1) text))) said found refl refl read

-- a piece that was read
piece_parts : (text : List ℕ) (bytes : Option (List ℕ)) (said : ScriptLine) → unspelled text ≡ bytes → piece_line bytes ≡ Some said → Tells (codes "piece " ++ text) said
piece_parts text None said of_bytes read = absurd (none-some said read)
piece_parts text (Some bytes) said of_bytes read =
    let parts = only_true (is_piece bytes) (Some (Piece bytes)) said read in
    let lengths = and_parts (nat_le 1 (length bytes)) (nat_le (length bytes) 65536) parts.0 in
    let same : Piece bytes ≡ said = let h = parts.1 in cc in
    let spelt = spells text bytes of_bytes in
    subst (λ (s : ScriptLine). Tells (codes "piece " ++ text) s) same (record {
      written = ap (λ t. codes "piece " ++ t) spelt.written;
      within = (spelt.are, leb-true 1 (length bytes) lengths.0, leb-true (length bytes) 65536 lengths.1);
    })

-- a size that was read
resize_parts : (text : List ℕ) (size : Option Extent) (said : ScriptLine) → size_of 32 text ≡ size → resize_line size ≡ Some said → Tells (codes "resize " ++ text) said
resize_parts text None said of_size read = absurd (none-some said read)
resize_parts text (Some size) said of_size read =
    let same : Resize size ≡ said = cc in
    let is = is_size 32 text size of_size in
    subst (λ (s : ScriptLine). Tells (codes "resize " ++ text) s) same (record { written = ap (λ t. codes "resize " ++ t) is.0; within = is.1 })

-- a moment that was read
tick_parts : (text : List ℕ) (moment : Option ℕ) (said : ScriptLine) → number_of 1000000000000000 text ≡ moment → tick_line moment ≡ Some said → Tells (codes "tick " ++ text) said
tick_parts text None said of_moment read = absurd (none-some said read)
tick_parts text (Some moment) said of_moment read =
    let same : Tick moment ≡ said = cc in
    let is = is_number 1000000000000000 text moment of_moment in
    subst (λ (s : ScriptLine). Tells (codes "tick " ++ text) s) same (record { written = ap (λ t. codes "tick " ++ t) is.written; within = is.within })

-- what a line with parts was read as
parts_told : (line : List ℕ) (said : ScriptLine) → parts_line line ≡ Some said → Tells line said
parts_told line said read =
    let timed : Option ScriptLine = cond (starts_with nat_eq line (codes "tick ")) (tick_line (number_of 1000000000000000 (drop 5 line))) None in
    let sized : Option ScriptLine = cond (starts_with nat_eq line (codes "resize ")) (resize_line (size_of 32 (drop 7 line))) timed in
    let rest : Option ScriptLine = cond (starts_with nat_eq line (codes "piece ")) (piece_line (unspelled (drop 6 line))) sized in
    let T : List ℕ → Type 0 = λ l. Tells l said in
    ⊎_elim
    (λ set. subst T (sym (begins (codes "set ") line set.0)) (set_told (drop 4 line) (position is_space (drop 4 line)) said refl set.1))
    (λ other. ⊎_elim
    (λ piece. subst T (sym (begins (codes "piece ") line piece.0)) (piece_parts (drop 6 line) (unspelled (drop 6 line)) said refl piece.1))
    (λ behind. ⊎_elim
    (λ resize. subst T (sym (begins (codes "resize ") line resize.0)) (resize_parts (drop 7 line) (size_of 32 (drop 7 line)) said refl resize.1))
    (λ last.
    let tick = only_true (starts_with nat_eq line (codes "tick ")) (tick_line (number_of 1000000000000000 (drop 5 line))) said last.1 in
    subst T (sym (begins (codes "tick ") line tick.0)) (tick_parts (drop 5 line) (number_of 1000000000000000 (drop 5 line)) said refl tick.1))
    (choice (starts_with nat_eq line (codes "resize ")) (resize_line (size_of 32 (drop 7 line))) timed said behind.1))
    (choice (starts_with nat_eq line (codes "piece ")) (piece_line (unspelled (drop 6 line))) sized said other.1))
    (choice (starts_with nat_eq line (codes "set ")) (set_line (drop 4 line)) rest said read)

-- a line of one word
word_told : (word line : List ℕ) (here said : ScriptLine) → word ≡ spelled_line here → IsWithinLimits here → bytes_eq line word ≡ true → Some here ≡ Some said → Tells line said
word_told word line here said is within does read =
    let same : here ≡ said = cc in
    subst (λ (s : ScriptLine). Tells line s) same (record { written = (bytes_eq-Decides line word).0 does ∙ is; within = within })

told : (line : List ℕ) (said : ScriptLine) → said_by line ≡ Some said → Tells line said
told line said read =
    let rest : Option ScriptLine = cond (bytes_eq line (codes "end")) (Some End) (parts_line line) in
    ⊎_elim
    (λ show. word_told (codes "show") line Show said refl tt show.0 show.1)
    (λ other. ⊎_elim
    (λ end. word_told (codes "end") line End said refl tt end.0 end.1)
    (λ last. parts_told line said last.1)
    (choice (bytes_eq line (codes "end")) (Some End) (parts_line line) said other.1))
    (choice (bytes_eq line (codes "show")) (Some Show) rest said read)

-- a line that was read is the one line for what it says
pub says : (line : List ℕ) (said : ScriptLine) → script_line line ≡ Some said → Says line said
says line said read =
    let parts = only_true (nat_le (length line) 300000) (said_by line) said read in
    let is = told line said parts.1 in
    record { written = is.written; within = is.within; short = leb-true (length line) 300000 parts.0 }

-- what a `set` line says is read back
set_back : (name value : List ℕ) → IsWithinLimits (Set name value) → set_line (name ++ 32 ∷ spelling (encode_utf8_all value)) ≡ Some (Set name value)
set_back name value within =
    let tail = spelling (encode_utf8_all value) in
    let text = name ++ 32 ∷ tail in
    let at = length name in
    let first : position_or_len is_space text ≡ at =
    position_or_len_is is_space text at 0 (omega (arith, length-append name (32 ∷ tail)))
    (λ k below. ap is_space (get_or-append name (32 ∷ tail) 0 k below) ∙ ne_eqb (get_or name k 0) 32 (within.1 k 0 below))
    (λ inside. eq-eqb (get_or text at 0) 32 (get_or-append_seam name 32 tail 0)) in
    let place : position is_space text ≡ Some at =
    cond-true _ (Some (position_or_len is_space text)) None
    (lt-ltb (position_or_len is_space text) (length text) (omega (arith, length-append name (32 ∷ tail), first)))
    ∙ ap (λ n. Some n) first in
    let utf8 = IsUtf8-from_is_utf8 name within.0 in
    let front : utf8_in (take at text) ≡ Some name = ap utf8_in (take-append_seam name (32 ∷ tail)) ∙ utf8_in-yes name utf8 in
    let bytes = encode_utf8_all value in
    let behind : unspelled (drop (at + 1) text) ≡ Some bytes =
    ap unspelled (drop-append-add name (32 ∷ tail) 1) ∙ unspelled-spelling bytes (AreBytes-encodes value within.2) in
    let chars_back : chars_in (Some bytes) ≡ Some value =
    cond-true (is_utf8 bytes) (Some (chars bytes)) None (is_utf8-from_IsUtf8 bytes (value, (within.2, refl))) ∙ ap (λ t. Some t) (chars-encodes value within.2) in
    ap (λ p. set_cut p text) place
    ∙ ap (λ n. set_from n (chars_in (unspelled (drop (at + 1) text)))) front
    ∙ ap (λ b. set_from (Some name) (chars_in b)) behind
    ∙ ap (set_from (Some name)) chars_back

-- what a line says within the limits is read back
said_back : (said : ScriptLine) → IsWithinLimits said → said_by (spelled_line said) ≡ Some said
said_back (Set name value) within = set_back name value within
said_back (Piece bytes) within =
    ap piece_line (unspelled-spelling bytes within.0)
    ∙ cond-true (is_piece bytes) (Some (Piece bytes)) None
    (and_from (nat_le 1 (length bytes)) (nat_le (length bytes) 65536) (le-leb 1 (length bytes) within.1) (le-leb (length bytes) 65536 within.2))
said_back (Resize size) within = ap resize_line (size_of-spelled 32 size refl within)
said_back (Tick moment) within = ap tick_line (number_of-decimal 1000000000000000 moment (omega arith) within)
said_back Show within = refl
said_back End within = refl

pub read_back : (line : List ℕ) (said : ScriptLine) → Says line said → script_line line ≡ Some said
read_back line said is =
    cond-true (nat_le (length line) 300000) (said_by line) None (le-leb (length line) 300000 is.short)
    ∙ ap said_by is.written ∙ said_back said is.within
