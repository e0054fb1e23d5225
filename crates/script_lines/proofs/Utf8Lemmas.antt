-- Bytes that are UTF-8, and the characters in them.
use Rattle.std.proofs.Common.{◌≡◌, ℕ, ◌<◌, ◌≤◌, ◌/◌, ◌%◌, ◌+◌, true, false, List, [], ◌∷◌, arith, Some, None, nat_lt, sym, subst, ⊎_elim, cond}
use Rattle.std.specs.Str.{IsUtf8, is_utf8}
use Rattle.std.proofs.lemmas.Bool.{cases_Bool, cond-true, cond-false, and_parts, cases_lt, lt-ltb, le-ltb}
use Rattle.std.proofs.lemmas.Str.{IsUtf8-from_is_utf8, is_utf8-from_IsUtf8}
use Rattle.std.proofs.lemmas.List.Elements.{All-nil, All-cons, All-append}
use Rattle.script_lines.specs.Spelled.{AreBytes}
use Rattle.script_lines.specs.ScriptLine.{utf8_in}
use lib.Utf8.{encode, encodes, scalar, scalars, scalar_cases}

pub utf8_in-yes : (bytes : List ℕ) → IsUtf8 bytes → utf8_in bytes ≡ Some bytes
utf8_in-yes bytes is = cond-true (is_utf8 bytes) (Some bytes) None (is_utf8-from_IsUtf8 bytes is)

pub utf8_in-no : (bytes : List ℕ) → (IsUtf8 bytes → ⊥) → utf8_in bytes ≡ None
utf8_in-no bytes none = ⊎_elim
    (λ (yes : is_utf8 bytes ≡ true). absurd (none (IsUtf8-from_is_utf8 bytes yes)))
    (λ (no : is_utf8 bytes ≡ false). cond-false (is_utf8 bytes) (Some bytes) None no)
    (cases_Bool (is_utf8 bytes))

-- the bytes of a character
AreBytes-encode : (c : ℕ) → scalar c ≡ true → AreBytes (encode c)
unfolding encode
AreBytes-encode c is =
    let Byte = λ (b : ℕ). b < 256 in
    let later : (n : ℕ) → 128 + n % 64 < 256 = λ n. omega arith in
    let below : c < 1114112 = ⊎_elim (λ low. omega (arith, low)) (λ high. high.1) (scalar_cases c is) in
    let last : List ℕ = (128 + c % 64) ∷ [] in
    let last_two : List ℕ = (128 + c / 64 % 64) ∷ last in
    let two : List ℕ = (192 + c / 64) ∷ last in
    let three : List ℕ = (224 + c / 4096) ∷ last_two in
    let four : List ℕ = (240 + c / 262144) ∷ (128 + c / 4096 % 64) ∷ last_two in
    let are_last : AreBytes last = All-cons Byte (128 + c % 64) [] (later c) (All-nil Byte) in
    let are_two : AreBytes last_two = All-cons Byte (128 + c / 64 % 64) last (later (c / 64)) are_last in
    let long : List ℕ = cond (nat_lt c 65536) three four in
    let many : List ℕ = cond (nat_lt c 2048) two long in
    ⊎_elim
    (λ (ascii : c < 128).
    subst AreBytes (sym (cond-true (nat_lt c 128) (c ∷ []) many (lt-ltb c 128 ascii))) (All-cons Byte c [] (omega arith) (All-nil Byte)))
    (λ (other : 128 ≤ c).
    subst AreBytes (sym (cond-false (nat_lt c 128) (c ∷ []) many (le-ltb c 128 other)))
    (⊎_elim
    (λ (short : c < 2048).
    subst AreBytes (sym (cond-true (nat_lt c 2048) two long (lt-ltb c 2048 short))) (All-cons Byte (192 + c / 64) last (omega arith) are_last))
    (λ (wide : 2048 ≤ c).
    subst AreBytes (sym (cond-false (nat_lt c 2048) two long (le-ltb c 2048 wide)))
    (⊎_elim
    (λ (basic : c < 65536).
    subst AreBytes (sym (cond-true (nat_lt c 65536) three four (lt-ltb c 65536 basic))) (All-cons Byte (224 + c / 4096) last_two (omega arith) are_two))
    (λ (far : 65536 ≤ c).
    subst AreBytes (sym (cond-false (nat_lt c 65536) three four (le-ltb c 65536 far)))
    (All-cons Byte (240 + c / 262144) ((128 + c / 4096 % 64) ∷ last_two) (omega (arith, below))
    (All-cons Byte (128 + c / 4096 % 64) last_two (later (c / 4096)) are_two)))
    (cases_lt c 65536)))
    (cases_lt c 2048)))
    (cases_lt c 128)

-- the bytes of a text
pub AreBytes-encodes : (text : List ℕ) → scalars text ≡ true → AreBytes (encodes text)
AreBytes-encodes [] all = All-nil (λ b. b < 256)
AreBytes-encodes (c ∷ cs) all =
    let both = and_parts (scalar c) (scalars cs) all in
    All-append (λ b. b < 256) (encode c) (encodes cs) (AreBytes-encode c both.0) (AreBytes-encodes cs both.1)
