-- The rest of a decoding is the longest end of the bytes that begins a character.
use Prim.Native.Nat.{zero, suc}
use Rattle.std.proofs.Common.{◌≡◌, ◌≢◌, ℕ, ◌-◌, ◌<◌, ◌≤◌, true, false, nat_lt, List, [], ◌∷◌, ◌++◌, append-nil, append_assoc, length, length-append, drop, map, slice_index, Option, Some, None, refl, sym, ap, ◌∙◌, arith, ⊎_elim}
use Rattle.std.specs.Prelude.{◌==◌, ◌&&◌, is_none}
use Rattle.std.specs.Char.{IsScalar, encode_utf8}
use Rattle.std.proofs.lemmas.Bool.{cases_Bool, eqb-true, cond-false, cases_lt, cases_eq, ltb-true, and_parts}
use Rattle.std.proofs.lemmas.Bool.Decides.{nat_tests}
use Rattle.std.proofs.lemmas.List.{append_cancel_right, drop_all, map-append}
use Rattle.std.proofs.Math.Seq.{drop-append_seam}
use Rattle.bstr.specs.Utf8.{Decoded, decoded, good, continues, second, code_of_2, code_of_3, code_of_4, lead_len, or_replacement, pieces, lossy_chars}
use Rattle.bstr.proofs.lemmas.PieceLemmas.{value-5, value-6, value-8, value-9, value-12, piece-bounds, pieces-step, pieces-append, lossy_chars-nil, StartsClean}
use Rattle.bstr.proofs.lemmas.EncodeLemmas.{decoded-encode}
use Rattle.bstr.proofs.lemmas.SoundLemmas.{SpellsChar-decoded}
use Rattle.characters.specs.Cut.{Cut, First, cut_by, cut_behind}
use Rattle.characters.specs.Characters.{is_unfinished, first_char, characters, unfinished_char}
use Rattle.characters.specs.Unfinished.{BeginsCharacter}
use Rattle.characters.proofs.CutLemmas.{Waits, Waits-cut_behind, cut-append}
use Rattle.characters.proofs.CharacterLemmas.{first_char-stable, decoded-more, characters-step, characters-waits}
use Rattle.characters.proofs.LossyLemmas.{characters-lossy, waiting_lossy}

-- ---- a front of a character waits

whole_pair : (c : ℕ) → IsScalar c → decoded (encode_utf8 c) ≡ good c (length (encode_utf8 c))
whole_pair c is = ap (λ (t : List ℕ). decoded t) (sym (append-nil (encode_utf8 c))) ∙ decoded-encode c [] is

-- bytes that begin a character are no character yet, and no maximal part
pub unfinished-from : (x : List ℕ) → BeginsCharacter x → 0 < length x → is_unfinished x ≡ true
unfinished-from [] h some = absurd (omega arith)
unfinished-from (b ∷ bs) h some = ⊎_elim
    (λ (open_is : is_unfinished (b ∷ bs) ≡ true). open_is)
    (λ (whole : is_unfinished (b ∷ bs) ≡ false).
    let all : List ℕ = b ∷ bs ++ h.lacking in
    let bounds = piece-bounds (b ∷ bs) some in
    let same : decoded all ≡ decoded (b ∷ bs) = decoded-more b bs h.lacking whole in
    let char : decoded all ≡ good h.char (length all) =
    ap (λ (t : List ℕ). decoded t) h.whole ∙ whole_pair h.char h.scalar ∙ ap (λ (t : List ℕ). good h.char (length t)) (sym h.whole) in
    let size : (decoded (b ∷ bs)).size ≡ length all = ap (λ (p : Decoded). p.size) (sym same ∙ char) in
    absurd (omega (arith, length-append (b ∷ bs) h.lacking, h.some)))
    (cases_Bool (is_unfinished (b ∷ bs)))

-- ---- what waits is a front of a character

-- bytes that are a character with some more behind them
begins : (x more : List ℕ) (c : ℕ) → 0 < length more → decoded (x ++ more) ≡ good c (length (x ++ more)) → BeginsCharacter x
begins x more c some is =
    let spelled = SpellsChar-decoded (x ++ more) c (ap (λ (p : Decoded). p.char) is) in
    let size : (decoded (x ++ more)).size ≡ length (x ++ more) = ap (λ (p : Decoded). p.size) is in
    let behind : drop (decoded (x ++ more)).size (x ++ more) ≡ [] = drop_all (decoded (x ++ more)).size (x ++ more) (omega arith) in
    record {
      char = c;
      lacking = more;
      scalar = spelled.scalar;
      some = some;
      whole = spelled.bytes ∙ ap (λ (t : List ℕ). encode_utf8 c ++ t) behind ∙ append-nil (encode_utf8 c);
    }

-- bytes that wait are all the front of one piece, and it needs more
waiting_size : (x : List ℕ) → is_unfinished x ≡ true → ((decoded x).size ≡ length x) × (length x < lead_len (slice_index x 0))
waiting_size x e =
    let p = decoded x in
    let n : ℕ = length x in
    let first : (is_none p.char ≡ true) × ((p.size == n && nat_lt n (lead_len (slice_index x 0))) ≡ true) = and_parts (is_none p.char) (p.size == n && nat_lt n (lead_len (slice_index x 0))) e in
    let second_is : (p.size == n ≡ true) × (nat_lt n (lead_len (slice_index x 0)) ≡ true) = and_parts (p.size == n) (nat_lt n (lead_len (slice_index x 0))) first.1 in
    (eqb-true p.size n second_is.0, ltb-true n (lead_len (slice_index x 0)) second_is.1)

above-two : (b : ℕ) → 1 < lead_len b → (0xC2 ≤ b) × (b ≤ 0xF4)
above-two b many = (grind (arith, nat_tests), grind (arith, nat_tests))

above-three : (b : ℕ) → 2 < lead_len b → (0xE0 ≤ b) × (b ≤ 0xF4)
above-three b many = (grind (arith, nat_tests), grind (arith, nat_tests))

above-four : (b : ℕ) → 3 < lead_len b → (0xF0 ≤ b) × (b ≤ 0xF4)
above-four b many = (grind (arith, nat_tests), grind (arith, nat_tests))

-- three bytes that lack the last
begins-three : (b c d : ℕ) → 0xF0 ≤ b → b ≤ 0xF4 → second b c ≡ true → continues d ≡ true → BeginsCharacter (b ∷ c ∷ d ∷ [])
begins-three b c d low high may goes = begins (b ∷ c ∷ d ∷ []) (0x80 ∷ []) (code_of_4 b c d 0x80) (omega arith) (value-12 4 b c d 0x80 (omega arith, low, high, may, goes, refl))

-- two bytes that lack one or two
begins-two : (b c : ℕ) → 0xE0 ≤ b → b ≤ 0xF4 → second b c ≡ true → BeginsCharacter (b ∷ c ∷ [])
begins-two b c low high may = ⊎_elim
    (λ (three : b < 0xF0). begins (b ∷ c ∷ []) (0x80 ∷ []) (code_of_3 b c 0x80) (omega arith) (value-9 3 b c 0x80 0 (omega arith, low, three, may, refl)))
    (λ (four : 0xF0 ≤ b). begins (b ∷ c ∷ []) (0x80 ∷ 0x80 ∷ []) (code_of_4 b c 0x80 0x80) (omega arith) (value-12 4 b c 0x80 0x80 (omega arith, four, high, may, refl, refl)))
    (cases_lt b 0xF0)

-- a byte that may follow the first one
second-some : (b : ℕ) → 0xC2 ≤ b → b ≤ 0xF4 → (c : ℕ) × (second b c ≡ true)
second-some b low high = ⊎_elim
    (λ (e0 : b ≡ 0xE0). (0xA0, ap (λ k. second k 0xA0) e0))
    (λ (not_e0 : b ≢ 0xE0). ⊎_elim
    (λ (f0 : b ≡ 0xF0). (0x90, ap (λ k. second k 0x90) f0))
    (λ (not_f0 : b ≢ 0xF0). (0x80, grind (arith, nat_tests)))
    (cases_eq b 0xF0))
    (cases_eq b 0xE0)

-- fewer bytes of a front are a front
begins-less : (x y : List ℕ) → BeginsCharacter (x ++ y) → BeginsCharacter x
begins-less x y h = record {
  char = h.char;
  lacking = y ++ h.lacking;
  scalar = h.scalar;
  some = omega (arith, h.some, length-append y h.lacking);
  whole = sym (append_assoc x y h.lacking) ∙ h.whole;
}

begins-one : (b : ℕ) → 0xC2 ≤ b → b ≤ 0xF4 → BeginsCharacter (b ∷ [])
begins-one b low high =
    let follows = second-some b low high in
    let c : ℕ = follows.0 in
    ⊎_elim
    (λ (two : b < 0xE0). begins (b ∷ []) (c ∷ []) (code_of_2 b c) (omega arith) (value-6 2 b c 0 0 (omega arith, low, two, follows.1)))
    (λ (more : 0xE0 ≤ b). begins-less (b ∷ []) (c ∷ []) (begins-two b c more high follows.1))
    (cases_lt b 0xE0)

-- where two bytes wait, the second may follow the first
two-follows : (b c : ℕ) → is_unfinished (b ∷ c ∷ []) ≡ true → second b c ≡ true
two-follows b c e =
    let size = waiting_size (b ∷ c ∷ []) e in
    let range = above-three b size.1 in
    ⊎_elim
    (λ (may : second b c ≡ true). may)
    (λ (other : second b c ≡ false). let short = ap (λ (p : Decoded). p.size) (value-5 2 b c 0 0 (omega arith, omega arith, range.1, other)) in absurd (omega (arith, size.0, short)))
    (cases_Bool (second b c))

three-follow : (b c d : ℕ) → is_unfinished (b ∷ c ∷ d ∷ []) ≡ true → (second b c ≡ true) × (continues d ≡ true)
three-follow b c d e =
    let size = waiting_size (b ∷ c ∷ d ∷ []) e in
    let range = above-four b size.1 in
    ⊎_elim
    (λ (may : second b c ≡ true). ⊎_elim
    (λ (goes : continues d ≡ true). (may, goes))
    (λ (ends : continues d ≡ false). let short = ap (λ (p : Decoded). p.size) (value-8 3 b c d 0 (omega arith, omega arith, range.1, may, ends)) in absurd (omega (arith, size.0, short)))
    (cases_Bool (continues d)))
    (λ (other : second b c ≡ false). let short = ap (λ (p : Decoded). p.size) (value-5 3 b c d 0 (omega arith, omega arith, range.1, other)) in absurd (omega (arith, size.0, short)))
    (cases_Bool (second b c))

lead-limit : (b : ℕ) → lead_len b ≤ 4
lead-limit b = grind (arith, nat_tests)

-- bytes that wait begin a character
pub begins-waiting : (x : List ℕ) → is_unfinished x ≡ true → BeginsCharacter x
begins-waiting [] e = begins [] (0x41 ∷ []) 0x41 (omega arith) refl
begins-waiting (b ∷ []) e =
    let size = waiting_size (b ∷ []) e in
    let range = above-two b size.1 in
    begins-one b range.0 range.1
begins-waiting (b ∷ c ∷ []) e =
    let size = waiting_size (b ∷ c ∷ []) e in
    let range = above-three b size.1 in
    begins-two b c range.0 range.1 (two-follows b c e)
begins-waiting (b ∷ c ∷ d ∷ []) e =
    let size = waiting_size (b ∷ c ∷ d ∷ []) e in
    let range = above-four b size.1 in
    let follow = three-follow b c d e in
    begins-three b c d range.0 range.1 follow.0 follow.1
begins-waiting (b ∷ c ∷ d ∷ f ∷ rest) e =
    let size = waiting_size (b ∷ c ∷ d ∷ f ∷ rest) e in
    absurd (omega (arith, size.1, lead-limit b))

none_of : (o : ℕ × ℕ) → Some o ≡ None → ⊥
none_of o e = cc

rest_waits : (x : List ℕ) → Waits first_char x → is_unfinished x ≡ true
rest_waits [] w = refl
rest_waits (b ∷ bs) w = ⊎_elim
    (λ (open_is : is_unfinished (b ∷ bs) ≡ true). open_is)
    (λ (whole : is_unfinished (b ∷ bs) ≡ false).
    absurd (none_of (or_replacement (decoded (b ∷ bs)).char, (decoded (b ∷ bs)).size - 1) (sym (cond-false (is_unfinished (b ∷ bs)) None (Some (or_replacement (decoded (b ∷ bs)).char, (decoded (b ∷ bs)).size - 1)) whole) ∙ w)))
    (cases_Bool (is_unfinished (b ∷ bs)))

pub rest-unfinished : (bytes : List ℕ) → is_unfinished (characters bytes).rest ≡ true
rest-unfinished bytes = rest_waits (characters bytes).rest (Waits-cut_behind first_char 0 bytes)

pub rest-begins : (bytes : List ℕ) → BeginsCharacter (characters bytes).rest
rest-begins bytes = begins-waiting (characters bytes).rest (rest-unfinished bytes)

-- ---- no longer end begins a character

clean-by : (b : ℕ) → 1 < lead_len b → continues b ≡ false
clean-by b many = grind (arith, nat_tests)

-- a front of a character does not go on with what stands before it
pub clean : (x : List ℕ) → is_unfinished x ≡ true → StartsClean x
clean [] e = λ some. absurd (omega arith)
clean (b ∷ bs) e = λ some. clean-by b (let size = waiting_size (b ∷ bs) e in omega (arith, size.1))

first_is : {A : Type 0} (x y : A) (xs ys : List A) → x ∷ xs ≡ y ∷ ys → x ≡ y
first_is x y xs ys e = cc

-- a piece before such an end is the piece by itself
decoded-before : (b : ℕ) (bs y : List ℕ) → StartsClean y → decoded (b ∷ bs ++ y) ≡ decoded (b ∷ bs)
decoded-before b bs y starts =
    let x : List ℕ = b ∷ bs in
    first_is (decoded (x ++ y)) (decoded x) (pieces (drop (decoded (x ++ y)).size (x ++ y))) (pieces (drop (decoded x).size x) ++ pieces y)
    (sym (pieces-step (x ++ y) (omega arith)) ∙ pieces-append (length x) x y (omega arith) starts ∙ ap (λ (t : List Decoded). t ++ pieces y) (pieces-step x (omega arith)))

-- an unfinished character and another one behind it: the first is U+FFFD, and the second waits
rest-behind : (x y : List ℕ) → is_unfinished x ≡ true → is_unfinished y ≡ true → 0 < length y → (characters (x ++ y)).rest ≡ y
rest-behind [] y open_x open_y some = ap (λ (t : Cut ℕ). t.rest) (characters-waits y open_y)
rest-behind (b ∷ bs) y open_x open_y some =
    let x : List ℕ = b ∷ bs in
    let size = waiting_size x open_x in
    let same : decoded (x ++ y) ≡ decoded x = decoded-before b bs y (clean y open_y) in
    let width : (decoded (x ++ y)).size ≡ length x = ap (λ (p : Decoded). p.size) same ∙ size.0 in
    let whole : is_unfinished (x ++ y) ≡ false = ⊎_elim
    (λ (open_is : is_unfinished (x ++ y) ≡ true). absurd (let long = waiting_size (x ++ y) open_is in omega (arith, long.0, width, length-append x y)))
    (λ (whole : is_unfinished (x ++ y) ≡ false). whole)
    (cases_Bool (is_unfinished (x ++ y))) in
    let left : drop (decoded (x ++ y)).size (x ++ y) ≡ y = ap (λ (n : ℕ). drop n (x ++ y)) width ∙ drop-append_seam x y in
    ap (λ (t : Cut ℕ). t.rest) (characters-step (x ++ y) (omega arith) whole)
    ∙ ap (λ (t : List ℕ). (characters t).rest) left ∙ ap (λ (t : Cut ℕ). t.rest) (characters-waits y open_y)

pub rest-longest : (front back : List ℕ) → BeginsCharacter back → length back ≤ length (characters (front ++ back)).rest
rest-longest front [] h = omega arith
rest-longest front (b ∷ bs) h =
    let back : List ℕ = b ∷ bs in
    let all : (characters (front ++ back)).rest ≡ back =
    ap (λ (t : Cut ℕ). t.rest) (cut-append first_char first_char-stable front back)
    ∙ rest-behind (characters front).rest back (rest-unfinished front) (unfinished-from back h (omega arith)) (omega arith) in
    omega (arith, ap (λ (t : List ℕ). length t) all)

-- ---- what stands before the rest

front_by : {K : Type 0} (first : First K) (c : ℕ) (cs : List ℕ) → ((n : ℕ) → (front : List ℕ) × (cs ≡ front ++ (cut_behind first n cs).rest))
    → (o : Option (K × ℕ)) → (front : List ℕ) × (c ∷ cs ≡ front ++ (cut_by o (c ∷ cs) (λ n. cut_behind first n cs)).rest)
front_by first c cs ih None = ([], refl)
front_by first c cs ih (Some taken) = let h = ih taken.1 in (c ∷ h.0, ap (λ t. c ∷ t) h.1)

front-of : {K : Type 0} (first : First K) (n : ℕ) (x : List ℕ) → (front : List ℕ) × (x ≡ front ++ (cut_behind first n x).rest)
front-of first zero [] = ([], refl)
front-of first (suc n) [] = ([], refl)
front-of first zero (c ∷ cs) = front_by first c cs (λ n. front-of first n cs) (first (c ∷ cs))
front-of first (suc n) (c ∷ cs) = let h = front-of first n cs in (c ∷ h.0, ap (λ t. c ∷ t) h.1)

lossy-waiting : (x : List ℕ) → is_unfinished x ≡ true → unfinished_char x ≡ lossy_chars x
lossy-waiting [] e = sym lossy_chars-nil
lossy-waiting (b ∷ bs) e = waiting_lossy b bs e

lossy-append : (x y : List ℕ) → StartsClean y → lossy_chars (x ++ y) ≡ lossy_chars x ++ lossy_chars y
lossy-append x y starts =
    ap (λ (t : List Decoded). map (λ p. or_replacement p.char) t) (pieces-append (length x) x y (omega arith) starts)
    ∙ map-append (λ p. or_replacement p.char) (pieces x) (pieces y)

pub before-decoded : (bytes : List ℕ) → (front : List ℕ) × (bytes ≡ front ++ (characters bytes).rest) × ((characters bytes).items ≡ lossy_chars front)
before-decoded bytes =
    let cut = characters bytes in
    let waits = rest-unfinished bytes in
    let split = front-of first_char 0 bytes in
    let front : List ℕ = split.0 in (
      front,
      split.1,
      append_cancel_right cut.items (lossy_chars front) (unfinished_char cut.rest)
          (characters-lossy bytes ∙ ap (λ (t : List ℕ). lossy_chars t) split.1 ∙ lossy-append front cut.rest (clean cut.rest waits)
          ∙ ap (λ (t : List ℕ). lossy_chars front ++ t) (sym (lossy-waiting cut.rest waits))),
    )
