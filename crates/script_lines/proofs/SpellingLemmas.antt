-- Each text spells at most one list of bytes, and each list of bytes has exactly one spelling.
use Rattle.std.proofs.Common.{◌≡◌, ℕ, ◌+◌, ◌*◌, ◌/◌, ◌%◌, ◌<◌, Bool, true, false, List, [], ◌∷◌, ◌++◌, Option, Some, None, cond, refl, sym, ap, subst, ◌∙◌, arith, ⊎_elim}
use Rattle.std.specs.Prelude.{◌==◌, ◌||◌}
use Rattle.std.proofs.lemmas.Bool.{cases_Bool, cond-true, cond-false, eqb-true, or_parts}
use Rattle.std.proofs.lemmas.Bool.Decides.{nat_tests}
use Rattle.std.proofs.lemmas.List.Concat.{flat_map-cons}
use Rattle.std.proofs.lemmas.List.Elements.{All-nil, All-cons, All-head, All-tail}
use Rattle.std.proofs.lemmas.Option.{none-some}
use Rattle.std.proofs.lemmas.Nat.{div-add-mod'}
use Rattle.script_lines.specs.declared.spelling.Reading.{Reading}
use Rattle.script_lines.specs.declared.spelling.Reading.TheVariants.{Plain, Escape, High, Low}
use Rattle.script_lines.specs.declared.spelling.Step.{Step}
use Rattle.script_lines.specs.declared.spelling.Step.TheVariants.{Whole, Onward, Refused}
use Rattle.script_lines.specs.Spelled.{AreBytes}
use Rattle.script_lines.specs.Spelling.{bytes_from, digit_value, hex_byte, hex_digit, is_plain, read_on, spelled, spelling, unspelled, whole_byte, with_front}

-- the digit of a number, and the number of a digit
digit_value-hex_digit : (n : ℕ) → n < 16 → digit_value (hex_digit n) ≡ Some n
digit_value-hex_digit n small = grind (arith, nat_tests)

hex_digit-digit_value : (digit n : ℕ) → digit_value digit ≡ Some n → (hex_digit n ≡ digit) × (n < 16)
hex_digit-digit_value digit n value = grind (arith, nat_tests)

-- the three forms of a spelling
spelled-plain : (byte : ℕ) → is_plain byte ≡ true → spelled byte ≡ byte ∷ []
spelled-plain byte plain = cond-true (is_plain byte) (byte ∷ []) _ plain

spelled-hex : (byte : ℕ) → is_plain byte ≡ false → byte == 92 ≡ false → spelled byte ≡ 92 ∷ 120 ∷ hex_digit (byte / 16) ∷ hex_digit (byte % 16) ∷ []
spelled-hex byte plain slash = cond-false (is_plain byte) _ _ plain ∙ cond-false (byte == 92) _ _ slash

plain_small : (byte : ℕ) → is_plain byte ≡ true → byte < 127
plain_small byte plain = grind (arith, nat_tests)

not_slash : (byte : ℕ) → is_plain byte ≡ true → byte == 92 ≡ false
not_slash byte plain = grind (arith, nat_tests)

hex_byte-other : (high low byte : ℕ) → high * 16 + low ≡ byte → is_plain byte ≡ false → byte == 92 ≡ false → hex_byte (Some high) (Some low) ≡ Some byte
hex_byte-other high low byte value plain slash =
    ap (λ b. cond (is_plain b || (b == 92)) None (Some b)) value
    ∙ ap (λ p. cond (p || (byte == 92)) None (Some byte)) plain
    ∙ ap (λ s. cond s None (Some byte)) slash

-- a byte is read from its spelling, and what follows is read on
read_spelled : (byte : ℕ) (rest : List ℕ) → byte < 256 → bytes_from (spelled byte ++ rest) Plain ≡ with_front (byte ∷ []) (bytes_from rest Plain)
read_spelled byte rest small =
    let k = λ (reading : Reading). bytes_from rest reading in
    ⊎_elim
    (λ (plain : is_plain byte ≡ true).
    ap (λ s. bytes_from (s ++ rest) Plain) (spelled-plain byte plain)
    ∙ ap (λ s. read_on s k) (cond-false (byte == 92) (Onward Escape) _ (not_slash byte plain) ∙ cond-true (is_plain byte) (Whole byte) Refused plain))
    (λ (other : is_plain byte ≡ false).
    ⊎_elim
    (λ (slash : byte == 92 ≡ true).
    subst (λ (b : ℕ). bytes_from (spelled b ++ rest) Plain ≡ with_front (b ∷ []) (bytes_from rest Plain)) (sym (eqb-true byte 92 slash)) refl)
    (λ (hex : byte == 92 ≡ false).
    let high = digit_value-hex_digit (byte / 16) (omega arith) in
    let low = digit_value-hex_digit (byte % 16) (omega arith) in
    ap (λ s. bytes_from (s ++ rest) Plain) (spelled-hex byte other hex)
    ∙ ap (λ h. read_on (whole_byte (hex_byte h (digit_value (hex_digit (byte % 16))))) k) high
    ∙ ap (λ l. read_on (whole_byte (hex_byte (Some (byte / 16)) l)) k) low
    ∙ ap (λ b. read_on (whole_byte b) k) (hex_byte-other (byte / 16) (byte % 16) byte (div-add-mod' byte 16) other hex))
    (cases_Bool (byte == 92)))
    (cases_Bool (is_plain byte))

pub unspelled-spelling : (bytes : List ℕ) → AreBytes bytes → unspelled (spelling bytes) ≡ Some bytes
unspelled-spelling [] all = refl
unspelled-spelling (byte ∷ bytes) all =
    ap (λ text. bytes_from text Plain) (flat_map-cons spelled byte bytes)
    ∙ read_spelled byte (spelling bytes) (All-head (λ b. b < 256) byte bytes all)
    ∙ ap (with_front (byte ∷ [])) (unspelled-spelling bytes (All-tail (λ b. b < 256) byte bytes all))

-- the text spells these bytes
pub record Spells (text bytes : List ℕ) : Type 0 where
  pub written : text ≡ spelling bytes
  pub are : AreBytes bytes

-- what was read of the byte that is begun
abbrev begun : Reading → List ℕ
begun Plain = []
begun Escape = 92 ∷ []
begun High = 92 ∷ 120 ∷ []
begun (Low high) = 92 ∷ 120 ∷ high ∷ []

-- a spelled byte, and what spells the rest
spells_byte : (front : List ℕ) (byte : ℕ) (cs bytes : List ℕ) (rest : Option (List ℕ)) → front ≡ spelled byte → byte < 256
    → ((others : List ℕ) → rest ≡ Some others → Spells cs others) → with_front (byte ∷ []) rest ≡ Some bytes → Spells (front ++ cs) bytes
spells_byte front byte cs bytes None is small later read = absurd (cc)
spells_byte front byte cs bytes (Some others) is small later read =
    let whole : byte ∷ others ≡ bytes = cc in
    let behind = later others refl in
    record {
      written = ap (λ f. f ++ cs) is ∙ ap (λ t. spelled byte ++ t) behind.written ∙ sym (flat_map-cons spelled byte others) ∙ ap spelling whole;
      are = subst AreBytes whole (All-cons (λ b. b < 256) byte others small behind.are);
    }

-- what the characters `cs` spell behind what was read of a byte
abbrev SpellsOn : List ℕ → Type 0
SpellsOn cs = (next : Reading) (bytes : List ℕ) → bytes_from cs next ≡ Some bytes → Spells (begun next ++ cs) bytes

-- the same with a character before them, by the step that it leads to
spells_plain : (c : ℕ) (cs bytes : List ℕ) → SpellsOn cs → bytes_from (c ∷ cs) Plain ≡ Some bytes → Spells (c ∷ cs) bytes
spells_plain c cs bytes later read =
    let k = λ (reading : Reading). bytes_from cs reading in
    let ordinary : Step = cond (is_plain c) (Whole c) Refused in
    ⊎_elim
    (λ (slash : c == 92 ≡ true).
    let step = cond-true (c == 92) (Onward Escape) ordinary slash in
    subst (λ (b : ℕ). Spells (b ∷ cs) bytes) (sym (eqb-true c 92 slash)) (later Escape bytes (sym (ap (λ s. read_on s k) step) ∙ read)))
    (λ (other : c == 92 ≡ false).
    let step = cond-false (c == 92) (Onward Escape) ordinary other in
    ⊎_elim
    (λ (plain : is_plain c ≡ true).
    let whole = step ∙ cond-true (is_plain c) (Whole c) Refused plain in
    spells_byte (c ∷ []) c cs bytes (bytes_from cs Plain) (sym (spelled-plain c plain))
    (omega (arith, plain_small c plain)) (λ others is. later Plain others is) (sym (ap (λ s. read_on s k) whole) ∙ read))
    (λ (none : is_plain c ≡ false).
    let refused = step ∙ cond-false (is_plain c) (Whole c) Refused none in
    absurd (let h = sym (ap (λ s. read_on s k) refused) ∙ read in none-some bytes h))
    (cases_Bool (is_plain c)))
    (cases_Bool (c == 92))

spells_escape : (c : ℕ) (cs bytes : List ℕ) → SpellsOn cs → bytes_from (c ∷ cs) Escape ≡ Some bytes → Spells (92 ∷ c ∷ cs) bytes
spells_escape c cs bytes later read =
    let k = λ (reading : Reading). bytes_from cs reading in
    let ordinary : Step = cond (c == 120) (Onward High) Refused in
    ⊎_elim
    (λ (slash : c == 92 ≡ true).
    let step = cond-true (c == 92) (Whole 92) ordinary slash in
    subst (λ (b : ℕ). Spells (92 ∷ b ∷ cs) bytes) (sym (eqb-true c 92 slash))
    (spells_byte (92 ∷ 92 ∷ []) 92 cs bytes (bytes_from cs Plain) refl (omega arith) (λ others is. later Plain others is)
    (sym (ap (λ s. read_on s k) step) ∙ read)))
    (λ (other : c == 92 ≡ false).
    let step = cond-false (c == 92) (Whole 92) ordinary other in
    ⊎_elim
    (λ (hex : c == 120 ≡ true).
    let onward = step ∙ cond-true (c == 120) (Onward High) Refused hex in
    subst (λ (b : ℕ). Spells (92 ∷ b ∷ cs) bytes) (sym (eqb-true c 120 hex)) (later High bytes (sym (ap (λ s. read_on s k) onward) ∙ read)))
    (λ (none : c == 120 ≡ false).
    let refused = step ∙ cond-false (c == 120) (Onward High) Refused none in
    absurd (let h = sym (ap (λ s. read_on s k) refused) ∙ read in none-some bytes h))
    (cases_Bool (c == 120)))
    (cases_Bool (c == 92))

-- two digits of a byte that is spelled so
is_hex : (high low : ℕ) (one two : Option ℕ) (byte : ℕ) → digit_value high ≡ one → digit_value low ≡ two → hex_byte one two ≡ Some byte
    → (92 ∷ 120 ∷ high ∷ low ∷ [] ≡ spelled byte) × (byte < 256)
is_hex high low None two byte first second read = absurd (none-some byte read)
is_hex high low (Some m) None byte first second read = absurd (none-some byte read)
is_hex high low (Some m) (Some n) byte first second read =
    let value = m * 16 + n in
    let shorter : Bool = is_plain value || (value == 92) in
    let front = hex_digit-digit_value high m first in
    let back = hex_digit-digit_value low n second in
    ⊎_elim
    (λ (yes : shorter ≡ true). absurd (none-some byte (sym (cond-true shorter None (Some value) yes) ∙ read)))
    (λ (no : shorter ≡ false).
    let same : value ≡ byte = let h = cond-false shorter None (Some value) no in cc in
    let parts = or_parts (is_plain value) (value == 92) no in
    let of_high : value / 16 ≡ m = omega (arith, front.1, back.1) in
    let of_low : value % 16 ≡ n = omega (arith, front.1, back.1) in (
      sym (ap spelled (sym same) ∙ spelled-hex value parts.0 parts.1
          ∙ ap (λ d. 92 ∷ 120 ∷ hex_digit d ∷ hex_digit (value % 16) ∷ []) of_high
          ∙ ap (λ d. 92 ∷ 120 ∷ hex_digit m ∷ hex_digit d ∷ []) of_low
          ∙ ap (λ d. 92 ∷ 120 ∷ d ∷ hex_digit n ∷ []) front.0
          ∙ ap (λ d. 92 ∷ 120 ∷ high ∷ d ∷ []) back.0),
      omega (arith, same, front.1, back.1),
    ))
    (cases_Bool shorter)

spells_low : (high c : ℕ) (cs bytes : List ℕ) (byte : Option ℕ) → SpellsOn cs → hex_byte (digit_value high) (digit_value c) ≡ byte
    → read_on (whole_byte byte) (λ reading. bytes_from cs reading) ≡ Some bytes → Spells (92 ∷ 120 ∷ high ∷ c ∷ cs) bytes
spells_low high c cs bytes None later value read = absurd (none-some bytes read)
spells_low high c cs bytes (Some byte) later value read =
    let hex = is_hex high c (digit_value high) (digit_value c) byte refl refl value in
    spells_byte (92 ∷ 120 ∷ high ∷ c ∷ []) byte cs bytes (bytes_from cs Plain) hex.0 hex.1 (λ others is. later Plain others is) read

spells_more : (c : ℕ) (cs : List ℕ) → SpellsOn cs → SpellsOn (c ∷ cs)
spells_more c cs later Plain bytes read = spells_plain c cs bytes later read
spells_more c cs later Escape bytes read = spells_escape c cs bytes later read
spells_more c cs later High bytes read = later (Low c) bytes read
spells_more c cs later (Low high) bytes read = spells_low high c cs bytes (hex_byte (digit_value high) (digit_value c)) later refl read

spells_end : SpellsOn []
spells_end Plain bytes read =
    let none : [] ≡ bytes = cc in
    record { written = ap spelling none; are = subst AreBytes none (All-nil (λ b. b < 256)) }
spells_end Escape bytes read = absurd (none-some bytes read)
spells_end High bytes read = absurd (none-some bytes read)
spells_end (Low high) bytes read = absurd (none-some bytes read)

spells_on : (text : List ℕ) → SpellsOn text
spells_on [] = spells_end
spells_on (c ∷ cs) = spells_more c cs (spells_on cs)

-- bytes are read from no other text than their spelling
pub spells : (text bytes : List ℕ) → unspelled text ≡ Some bytes → Spells text bytes
spells text bytes read = spells_on text Plain bytes read
