-- The text of a cell, as it is written and as it reads.
use Rattle.std.proofs.Common.{◌≡◌, ℕ, suc, ◌+◌, ◌<◌, true, false, List, [], ◌∷◌, ◌++◌, length, drop, get_or, refl}
use Rattle.std.proofs.Common.{sym, ap, ◌∙◌, arith, append_assoc, drop-cons, encode_utf8, encode_utf8_all}
use Rattle.term_model.specs.Obeying.{chars_of}
use Rattle.std.proofs.Common.{◌*◌, ◌/◌, ◌%◌, ◌≤◌, map, nat_eq, nat_lt, nat_le, Some, None, ⊎_elim, if◌then◌else◌}
use Rattle.std.specs.List.{list_all}
use Rattle.std.proofs.lemmas.Bool.{and_from, cases_lt}
use Rattle.std.proofs.lemmas.Bool.Decides.{nat_tests}
use Rattle.std.proofs.Common.{length-append}
use Rattle.term_model.proofs.CharLemmas.{chars_of-front}
use Rattle.unicode_width.specs.Width.{char_width, alone}
use Rattle.term_model.specs.Controls.{Control, Print, Read, between, controls_from, next_plain, is_control}
use Rattle.diff_render.specs.Canvas.{Spells, IsQuiet}
use Rattle.diff_render.proofs.Reading.{is_other, all_append, quiet_others}
use lib.Utf8.{scalar, scalars, encode}

text_at : (text : List ℕ) (i x : ℕ) → i < length text → x ≡ get_or text i x → drop i text ≡ x ∷ drop (i + 1) text
text_at text i x h e =
    let next : suc i ≡ i + 1 = omega arith in
    drop-cons text i x h ∙ ap (λ y. y ∷ drop (suc i) text) (sym e) ∙ ap (λ k. x ∷ drop k text) next

pub bytes_step : (total now new text : List ℕ) (i x : ℕ) → i < length text → x ≡ get_or text i x → now ++ encode_utf8_all (drop i text) ≡ total
    → new ≡ now ++ encode_utf8 x → new ++ encode_utf8_all (drop (i + 1) text) ≡ total
bytes_step total now new text i x h e so_far more =
    ap (λ b. b ++ encode_utf8_all (drop (i + 1) text)) more ∙ append_assoc now (encode_utf8 x) (encode_utf8_all (drop (i + 1) text))
    ∙ ap (λ y. now ++ encode_utf8_all y) (sym (text_at text i x h e)) ∙ so_far

pub scalars_step : (text : List ℕ) (i x : ℕ) → i < length text → x ≡ get_or text i x → scalar x ≡ true → scalars (drop (i + 1) text) ≡ true → scalars (drop i text) ≡ true
scalars_step text i x h e one rest = ap scalars (text_at text i x h e) ∙ and_from (scalar x) (scalars (drop (i + 1) text)) one rest

-- ---- the bytes of a character

encode_cases : (P : List ℕ → Type 0) (c : ℕ) → (c < 128 → P (c ∷ [])) → ((a b : ℕ) → 128 ≤ a → 128 ≤ b → P (a ∷ b ∷ []))
    → ((a b d : ℕ) → 128 ≤ a → 128 ≤ b → 128 ≤ d → P (a ∷ b ∷ d ∷ [])) → ((a b d e : ℕ) → 128 ≤ a → 128 ≤ b → 128 ≤ d → 128 ≤ e → P (a ∷ b ∷ d ∷ e ∷ []))
    → P (encode c)
unfolding encode
encode_cases P c one two three four = ⊎_elim
    (λ (h : c < 128). let e : nat_lt c 128 ≡ true = grind (arith, nat_tests) in rw e (one h))
    (λ (h : 128 ≤ c). let e : nat_lt c 128 ≡ false = grind (arith, nat_tests) in ⊎_elim
    (λ (k : c < 2048). let f : nat_lt c 2048 ≡ true = grind (arith, nat_tests) in rw (e, f) (two (192 + c / 64) (128 + c % 64) (omega arith) (omega arith)))
    (λ (k : 2048 ≤ c). let f : nat_lt c 2048 ≡ false = grind (arith, nat_tests) in ⊎_elim
    (λ (l : c < 65536). let g : nat_lt c 65536 ≡ true = grind (arith, nat_tests) in
    rw (e, f, g) (three (224 + c / 4096) (128 + c / 64 % 64) (128 + c % 64) (omega arith) (omega arith) (omega arith)))
    (λ (l : 65536 ≤ c). let g : nat_lt c 65536 ≡ false = grind (arith, nat_tests) in
    rw (e, f, g) (four (240 + c / 262144) (128 + c / 4096 % 64) (128 + c / 64 % 64) (128 + c % 64) (omega arith) (omega arith) (omega arith) (omega arith)))
    (cases_lt c 65536))
    (cases_lt c 2048))
    (cases_lt c 128)

pub length_encode : (c : ℕ) → length (encode_utf8 c) ≤ 4
length_encode c = encode_cases (λ bs. length bs ≤ 4) c (λ h. omega arith) (λ a b h k. omega arith) (λ a b d h k l. omega arith) (λ a b d e h k l m. omega arith)

pub length_text : (text : List ℕ) → length (encode_utf8_all text) ≤ 4 * length text
length_text [] = omega arith
length_text (c ∷ cs) = omega (arith, length-append (encode_utf8 c) (encode_utf8_all cs), length_encode c, length_text cs)

high_other : (b : ℕ) → 28 ≤ b → is_other b ≡ true
high_other b h = let e : nat_eq 27 b ≡ false = grind (arith, nat_tests) in rw e refl

others_encode : (c : ℕ) → 28 ≤ c → list_all is_other (encode_utf8 c) ≡ true
others_encode c low = encode_cases (λ bs. list_all is_other bs ≡ true) c (λ h. rw (high_other c low) refl)
    (λ a b h k. rw (high_other a (omega arith), high_other b (omega arith)) refl)
    (λ a b d h k l. rw (high_other a (omega arith), high_other b (omega arith), high_other d (omega arith)) refl)
    (λ a b d e h k l m. rw (high_other a (omega arith), high_other b (omega arith), high_other d (omega arith), high_other e (omega arith)) refl)

-- ---- characters that are printed

-- none of the characters is a control character
abbrev pub AllPrinted : List ℕ → Type 0
AllPrinted [] = Unit {0}
AllPrinted (c ∷ cs) = (is_control c ≡ false) × AllPrinted cs

printed_char : (c : ℕ) → is_control c ≡ false → next_plain c ≡ (between, Print c ∷ [])
printed_char c h =
    let a : nat_eq c 27 ≡ false = grind (arith, nat_tests) in
    let b : nat_eq c 13 ≡ false = grind (arith, nat_tests) in
    let d : nat_eq c 10 ≡ false = grind (arith, nat_tests) in
    rw (a, b, d, h) refl

above_controls : (c : ℕ) → is_control c ≡ false → 28 ≤ c
above_controls c h = grind (arith, nat_tests)

text_reads : (text rest : List ℕ) → AllPrinted text → controls_from between (text ++ rest) ≡ map Print text ++ controls_from between rest
text_reads [] rest h = refl
text_reads (c ∷ cs) rest h =
    ap (λ (p : Read × List Control). p.1 ++ controls_from p.0 (cs ++ rest)) (printed_char c h.0) ∙ ap (λ x. Print c ∷ x) (text_reads cs rest h.1)

pub spells_text : (text : List ℕ) → AllPrinted text → scalars text ≡ true → Spells (encode_utf8_all text) (map Print text)
spells_text text h valid rest = ap (controls_from between) (chars_of-front text rest valid) ∙ text_reads text (chars_of rest) h

others_text : (text : List ℕ) → AllPrinted text → list_all is_other (encode_utf8_all text) ≡ true
others_text [] h = refl
others_text (c ∷ cs) h = all_append is_other (encode_utf8 c) (encode_utf8_all cs) (others_encode c (above_controls c h.0)) (others_text cs h.1)

pub quiet_text : (text : List ℕ) → AllPrinted text → IsQuiet (encode_utf8_all text)
quiet_text text h = quiet_others (encode_utf8_all text) (others_text text h)

-- a character that has a width is no control character
printed_width_by : (c w : ℕ) → (if nat_lt c 0x7F then (if nat_le 0x20 c then Some 1 else None) else if nat_le 0xA0 c then Some (alone false c).0 else None) ≡ Some w
    → is_control c ≡ false
printed_width_by c w h = ⊎_elim
    (λ (low : c < 32).
    let a : nat_lt c 0x7F ≡ true = grind (arith, nat_tests) in
    let b : nat_le 0x20 c ≡ false = grind (arith, nat_tests) in
    let none : None ≡ Some w = rw (a, b) at h in cc)
    (λ (high : 32 ≤ c). ⊎_elim
    (λ (low : c < 127). grind (arith, nat_tests))
    (λ (above : 127 ≤ c). ⊎_elim
    (λ (low : c < 160).
    let a : nat_lt c 0x7F ≡ false = grind (arith, nat_tests) in
    let b : nat_le 0xA0 c ≡ false = grind (arith, nat_tests) in
    let none : None ≡ Some w = rw (a, b) at h in cc)
    (λ (high : 160 ≤ c). grind (arith, nat_tests))
    (cases_lt c 160))
    (cases_lt c 127))
    (cases_lt c 32)

pub printed_width : (c w : ℕ) → char_width false c ≡ Some w → is_control c ≡ false
unfolding char_width
printed_width c w h = printed_width_by c w h
