-- What stands open, character by character.
use Prim.Native.Nat.{suc}
use Rattle.std.proofs.Common.{◌≡◌, ℕ, ◌+◌, ◌<◌, ◌≤◌, true, false, List, [], ◌∷◌, ◌++◌, length, take, get_or, reverse, Some, None, refl, sym, ap, ◌∙◌, ⊎_elim, arith}
use Rattle.std.specs.List.{enumerate_from, fold}
use Rattle.std.specs.Option.{is_none}
use Rattle.std.proofs.lemmas.Bool.{cases_lt}
use Rattle.std.proofs.lemmas.List.{length-take, take_all, take_more, reverse-append}
use Rattle.std.proofs.lemmas.List.Sums.{fold_push}
use Rattle.text_doc.specs.Places.{first, passing}
use Rattle.text_doc.proofs.Walks.{first_found, first_none}
use Rattle.completers.specs.declared.brackets.Opened.{Opened}
use Rattle.completers.specs.Pairs.{after_character, unclosed, fault_of, bracket_fault}

pub enumerate_from-append : (n : ℕ) (xs ys : List ℕ) → enumerate_from n (xs ++ ys) ≡ enumerate_from n xs ++ enumerate_from (n + length xs) ys
enumerate_from-append n [] ys = let e : n ≡ n + 0 = omega arith in ap (λ k. enumerate_from k ys) e
enumerate_from-append n (x ∷ xs) ys =
    let e : n + 1 + length xs ≡ n + suc (length xs) = omega arith in
    ap (λ ps. (n, x) ∷ ps) (enumerate_from-append (n + 1) xs ys ∙ ap (λ k. enumerate_from (n + 1) xs ++ enumerate_from k ys) e)

-- one more character
pub unclosed_more : (text : List ℕ) (i : ℕ) → i < length text → unclosed (take (i + 1) text) ≡ after_character (unclosed (take i text)) (i, get_or text i 0)
unclosed_more text i within =
    let size : 0 + length (take i text) ≡ i = omega (arith, length-take i text) in
    ap unclosed (take_more text i 0 within)
    ∙ ap (fold after_character (Some [])) (enumerate_from-append 0 (take i text) (get_or text i 0 ∷ []) ∙ ap (λ k. enumerate_from 0 (take i text) ++ (k, get_or text i 0) ∷ []) size)
    ∙ fold_push after_character (Some []) (enumerate_from 0 (take i text)) (i, get_or text i 0)

-- nothing was wrong before the place `i`
abbrev pub FineBefore : List ℕ → ℕ → Type 0
FineBefore text i = (k : ℕ) → k < i → is_none (unclosed (take (k + 1) text)) ≡ false

-- a character that goes on
pub goes_on : (text : List ℕ) (i c : ℕ) (old new : List Opened) → i < length text → c ≡ get_or text i 0
    → unclosed (take i text) ≡ Some old → after_character (Some old) (i, c) ≡ Some new → unclosed (take (i + 1) text) ≡ Some new
goes_on text i c old new within is before step =
    unclosed_more text i within ∙ ap (λ o. after_character o (i, get_or text i 0)) before ∙ ap (λ d. after_character (Some old) (i, d)) (sym is) ∙ step

pub fine_more : (text : List ℕ) (i : ℕ) (new : List Opened) → unclosed (take (i + 1) text) ≡ Some new → FineBefore text i → FineBefore text (i + 1)
fine_more text i new is fine k below =
    ⊎_elim (λ earlier. fine k earlier)
    (λ last. let e : k ≡ i = omega arith in ap (λ n. is_none (unclosed (take (n + 1) text))) e ∙ ap is_none is)
    (cases_lt k i)

-- a closing bracket that matches none
pub stops_here : (text : List ℕ) (i c : ℕ) (old : List Opened) → i < length text → c ≡ get_or text i 0
    → unclosed (take i text) ≡ Some old → after_character (Some old) (i, c) ≡ None → FineBefore text i → Some i ≡ bracket_fault text
stops_here text i c old within is before step fine =
    let here : is_none (unclosed (take (i + 1) text)) ≡ true =
    ap is_none (unclosed_more text i within ∙ ap (λ o. after_character o (i, get_or text i 0)) before ∙ ap (λ d. after_character (Some old) (i, d)) (sym is) ∙ step) in
    ap (λ o. fault_of o (unclosed text)) (first_found (λ k. is_none (unclosed (take (k + 1) text))) 0 (length text) i (omega arith) within here (λ k low high. fine k high))

-- all characters are read
pub read_whole : (text : List ℕ) (i : ℕ) (opened : List Opened) → length text ≤ i → unclosed (take i text) ≡ Some opened → FineBefore text i
    → fault_of None (Some opened) ≡ bracket_fault text
read_whole text i opened past before fine =
    let none = first_none (λ k. is_none (unclosed (take (k + 1) text))) 0 (length text) (λ k low high. fine k (omega arith)) in
    let whole : unclosed text ≡ Some opened = sym (ap unclosed (take_all i text past)) ∙ before in
    ap (λ o. fault_of o (Some opened)) none ∙ sym (ap (fault_of (first (passing (λ k. is_none (unclosed (take (k + 1) text))) 0 (length text)))) whole)

reverse_push : (xs : List Opened) (x : Opened) → reverse (xs ++ x ∷ []) ≡ x ∷ reverse xs
reverse_push xs x = reverse-append xs (x ∷ [])

-- the last bracket that stands open
pub last_open : (opened below : List Opened) (last : Opened) → opened ≡ below ++ last ∷ [] → Some last.place ≡ fault_of None (Some (reverse opened))
last_open opened below last is = sym (ap (λ os. fault_of None (Some os)) (ap reverse is ∙ reverse_push below last))

pub none_open : (opened : List Opened) → length opened ≡ 0 → None ≡ fault_of None (Some (reverse opened))
none_open [] none = refl
none_open (last ∷ opened) none = absurd (omega arith)
