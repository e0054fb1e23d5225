-- The typed word does not reach over white space.
use Prim.Native.Nat.{suc}
use Rattle.std.proofs.Common.{◌≡◌, ℕ, ◌+◌, ◌-◌, ◌≤◌, Bool, true, false, cond, not, ◌&&◌, ◌==◌, List, [], ◌∷◌, ◌++◌, length, drop, get_or, reverse, refl, sym, ap, ◌∙◌, arith, append_assoc}
use Rattle.std.specs.Char.{is_whitespace}
use Rattle.std.specs.List.{suffix_len, prefix_len}
use Rattle.std.proofs.lemmas.Bool.{eqb-true}
use Rattle.std.proofs.lemmas.List.{length-append, length-drop, reverse-append, get_or-append-add, drop_at, drop-drop}
use Rattle.std.proofs.lemmas.List.Folds.{prefix_len-append}
use Rattle.std.proofs.lemmas.List.Sums.{suffix_len-le-length}
use Rattle.text_doc.specs.declared.words.Class.{Class}
use Rattle.text_doc.specs.declared.words.Class.TheVariants.{White, Word, Other}
use Rattle.text_doc.specs.Words.{class_of, same_class, is_word_character}
use Rattle.completers.specs.Typed.{is_of_word, typed_len, typed_word}

-- no class is both that of white space and another
apart : (class : Class) → (not (same_class class White) && same_class class White) ≡ false
apart White = refl
apart Word = refl
apart Other = refl

class_of-white : (c : ℕ) → is_whitespace c ≡ true → class_of false c ≡ White
unfolding class_of
class_of-white c white = ap (λ b. cond b White (cond (is_word_character c) Word Other)) white

-- white space is of no word
pub white_apart : (last c : ℕ) → is_whitespace c ≡ true → is_of_word last c ≡ false
white_apart last c white =
    ap (λ class. not (same_class (class_of false last) White) && same_class (class_of false last) class) (class_of-white c white) ∙ apart (class_of false last)

prefix_stop : (whole : Bool) (n m : ℕ) → (whole ≡ true → n ≡ m) → cond whole (m + 0) n ≡ n
prefix_stop true n m is = let e : n ≡ m = is refl in omega arith
prefix_stop false n m is = refl

-- a suffix ends behind an element that fails
suffix_len_behind : (p : ℕ → Bool) (front : List ℕ) (c : ℕ) (rest : List ℕ) → p c ≡ false → suffix_len p (front ++ c ∷ rest) ≡ suffix_len p rest
suffix_len_behind p front c rest fails =
    let back : reverse (front ++ c ∷ rest) ≡ reverse rest ++ (c ∷ reverse front) =
    reverse-append front (c ∷ rest) ∙ ap (λ t. t ++ reverse front) (reverse-append (c ∷ []) rest) ∙ append_assoc (reverse rest) (c ∷ []) (reverse front) in
    let none : prefix_len p (c ∷ reverse front) ≡ 0 = ap (λ b. cond b (1 + prefix_len p (reverse front)) 0) fails in
    ap (prefix_len p) back ∙ prefix_len-append p (reverse rest) (c ∷ reverse front)
    ∙ ap (λ n. cond (prefix_len p (reverse rest) == length (reverse rest)) (length (reverse rest) + n) (prefix_len p (reverse rest))) none
    ∙ prefix_stop (prefix_len p (reverse rest) == length (reverse rest)) (prefix_len p (reverse rest)) (length (reverse rest)) (eqb-true _ _)

last_same : (front : List ℕ) (c d : ℕ) (rest : List ℕ)
    → get_or (front ++ c ∷ (d ∷ rest)) (length (front ++ c ∷ (d ∷ rest)) - 1) 0 ≡ get_or (d ∷ rest) (length (d ∷ rest) - 1) 0
last_same front c d rest =
    let size : length (front ++ c ∷ (d ∷ rest)) - 1 ≡ length front + suc (length (d ∷ rest) - 1) =
    omega (arith, length-append front (c ∷ (d ∷ rest))) in
    ap (λ n. get_or (front ++ c ∷ (d ∷ rest)) n 0) size ∙ get_or-append-add front (c ∷ (d ∷ rest)) (suc (length (d ∷ rest) - 1)) 0

-- the typed word starts behind white space
pub typed_len_behind : (front : List ℕ) (c : ℕ) (rest : List ℕ) → is_whitespace c ≡ true → typed_len (front ++ c ∷ rest) ≡ typed_len rest
typed_len_behind front c [] white =
    suffix_len_behind (is_of_word (get_or (front ++ c ∷ []) (length (front ++ c ∷ []) - 1) 0)) front c [] (white_apart _ c white)
typed_len_behind front c (d ∷ rest) white =
    ap (λ last. suffix_len (is_of_word last) (front ++ c ∷ (d ∷ rest))) (last_same front c d rest)
    ∙ suffix_len_behind (is_of_word (get_or (d ∷ rest) (length (d ∷ rest) - 1) 0)) front c (d ∷ rest) (white_apart _ c white)

pub typed_len-le : (before : List ℕ) → typed_len before ≤ length before
typed_len-le before = suffix_len-le-length (is_of_word (get_or before (length before - 1) 0)) before

pub length-typed_word : (before : List ℕ) → length (typed_word before) ≡ typed_len before
length-typed_word before = omega (arith, length-drop (length before - typed_len before) before, typed_len-le before)

drop_front : (front rest : List ℕ) (n : ℕ) → drop (length front + n) (front ++ rest) ≡ drop n rest
drop_front front rest n = sym (drop-drop n (length front) (front ++ rest)) ∙ ap (drop n) (drop_at front rest (length front) refl)

-- texts whose ends are typed words of one length have one typed word
pub typed_word_end : (front rest : List ℕ) → typed_len (front ++ rest) ≡ typed_len rest → typed_word (front ++ rest) ≡ typed_word rest
typed_word_end front rest same =
    let within = typed_len-le rest in
    let at : length (front ++ rest) - typed_len (front ++ rest) ≡ length front + (length rest - typed_len rest) =
    omega (arith, length-append front rest, same, within) in
    ap (λ n. drop n (front ++ rest)) at ∙ drop_front front rest (length rest - typed_len rest)
