-- A text leaves nothing open exactly where it is balanced.
use Rattle.std.proofs.Common.{◌≡◌, ℕ, ◌+◌, true, false, cond, not, ◌||◌, List, [], ◌∷◌, ◌++◌, length, Option, Some, None, refl, sym, ap, ◌∙◌, subst, ⊎_elim, append_assoc, arith}
use Rattle.std.specs.List.{enumerate_from, fold}
use Rattle.std.proofs.lemmas.Bool.{cases_Bool, not-true, or_parts}
use Rattle.std.proofs.lemmas.List.Sums.{fold-append}
use Rattle.std.proofs.lemmas.Option.{none-some, same_Some}
use Rattle.completers.specs.declared.brackets.Opened.{Opened}
use Rattle.completers.specs.Pairs.{is_opening, is_closing, are_pair, after_character, unclosed}
use Rattle.completers.specs.Balanced.{IsBalanced, empty, plain, pair}
use Rattle.completers.proofs.BracketLemmas.{enumerate_from-append}
use Rattle.completers.proofs.PairLemmas.{pair_parts, opens, closes, passes, closes_pair}

-- what stands open behind a text that begins at the place `n`, by what stood open before it
abbrev pub left_open : ℕ → Option (List Opened) → List ℕ → Option (List Opened)
left_open n opened text = fold after_character opened (enumerate_from n text)

pub left_open-append : (n : ℕ) (opened : Option (List Opened)) (xs ys : List ℕ)
    → left_open n opened (xs ++ ys) ≡ left_open (n + length xs) (left_open n opened xs) ys
left_open-append n opened xs ys =
    ap (fold after_character opened) (enumerate_from-append n xs ys)
    ∙ fold-append after_character opened (enumerate_from n xs) (enumerate_from (n + length xs) ys)

-- a balanced text leaves open what stood open
pub balanced_keeps : {text : List ℕ} → IsBalanced text → (n : ℕ) (s : List Opened) → left_open n (Some s) text ≡ Some s
balanced_keeps empty n s = refl
balanced_keeps (plain c rest other is) n s =
    let parts = or_parts (is_opening c) (is_closing c) (not-true (is_opening c || is_closing c) other) in
    ap (λ o. left_open (n + 1) o rest) (passes n c s parts.0 parts.1) ∙ balanced_keeps is (n + 1) s
balanced_keeps (pair opening closing inner rest are is_inner is_rest) n s =
    let last : Opened = record { place = n; bracket = opening } in
    ap (λ o. left_open (n + 1) o (inner ++ closing ∷ rest)) (opens n opening s (pair_parts opening closing are).0)
    ∙ left_open-append (n + 1) (Some (last ∷ s)) inner (closing ∷ rest)
    ∙ ap (λ o. left_open (n + 1 + length inner) o (closing ∷ rest)) (balanced_keeps is_inner (n + 1) (last ∷ s))
    ∙ ap (λ o. left_open (n + 1 + length inner + 1) o rest) (closes_pair (n + 1 + length inner) closing last s are)
    ∙ balanced_keeps is_rest (n + 1 + length inner + 1) s

-- the text closes what stands open, with balanced texts between the closing brackets
abbrev pub Closes : List Opened → List ℕ → Type 0
Closes [] text = IsBalanced text
Closes (last ∷ s) text =
    (inner : List ℕ) × (closing : ℕ) × (rest : List ℕ) × (text ≡ inner ++ closing ∷ rest) × (are_pair last.bracket closing ≡ true) × IsBalanced inner × Closes s rest

plain_front : (s : List Opened) (c : ℕ) (text : List ℕ) → not (is_opening c || is_closing c) ≡ true → Closes s text → Closes s (c ∷ text)
plain_front [] c text other is = plain c text other is
plain_front (last ∷ s) c text other is = (c ∷ is.0, is.1, is.2, ap (λ t. c ∷ t) is.3, is.4, plain c is.0 other is.5, is.6)

pair_front : (s : List Opened) (opening closing : ℕ) (inner rest : List ℕ) → are_pair opening closing ≡ true → IsBalanced inner → Closes s rest
    → Closes s (opening ∷ (inner ++ closing ∷ rest))
pair_front [] opening closing inner rest are is_inner is = pair opening closing inner rest are is_inner is
pair_front (last ∷ s) opening closing inner rest are is_inner is = (
  opening ∷ (inner ++ closing ∷ is.0),
  is.1,
  is.2,
  ap (λ r. opening ∷ (inner ++ closing ∷ r)) is.3 ∙ ap (λ r. opening ∷ r) (sym (append_assoc inner (closing ∷ is.0) (is.1 ∷ is.2))),
  is.4,
  pair opening closing inner is.0 are is_inner is.5,
  is.6,
)

-- what leaves nothing open closes what stood open
abbrev IsClosing : List ℕ → Type 0
IsClosing text = (n : ℕ) (s : List Opened) → left_open n (Some s) text ≡ Some [] → Closes s text

pub none_stays : (n : ℕ) (text : List ℕ) → left_open n None text ≡ None
none_stays n [] = refl
none_stays n (c ∷ cs) = none_stays (n + 1) cs

opening_case : (c : ℕ) (cs : List ℕ) → IsClosing cs → is_opening c ≡ true → IsClosing (c ∷ cs)
opening_case c cs behind is n s end =
    let last : Opened = record { place = n; bracket = c } in
    let found : Closes (last ∷ s) cs = behind (n + 1) (last ∷ s) (sym (ap (λ o. left_open (n + 1) o cs) (opens n c s is)) ∙ end) in
    subst (λ t. Closes s (c ∷ t)) (sym found.3) (pair_front s c found.1 found.0 found.2 found.4 found.5 found.6)

closing_case : (c : ℕ) (cs : List ℕ) → IsClosing cs → is_opening c ≡ false → is_closing c ≡ true → IsClosing (c ∷ cs)
closing_case c cs behind other is n [] end =
    absurd (none-some [] (sym (none_stays (n + 1) cs) ∙ sym (ap (λ o. left_open (n + 1) o cs) (closes n c [] other is)) ∙ end))
closing_case c cs behind other is n (last ∷ s) end =
    ⊎_elim
    (λ are. ([], c, cs, refl, are, empty, behind (n + 1) s (sym (ap (λ o. left_open (n + 1) o cs) (closes_pair n c last s are)) ∙ end)))
    (λ not_pair. absurd (none-some []
    (sym (none_stays (n + 1) cs) ∙ sym (ap (λ o. left_open (n + 1) o cs) (closes n c (last ∷ s) other is ∙ ap (λ b. cond b (Some s) None) not_pair)) ∙ end)))
    (cases_Bool (are_pair last.bracket c))

plain_case : (c : ℕ) (cs : List ℕ) → IsClosing cs → is_opening c ≡ false → is_closing c ≡ false → IsClosing (c ∷ cs)
plain_case c cs behind other none n s end =
    plain_front s c cs (ap not (or_both other none)) (behind (n + 1) s (sym (ap (λ o. left_open (n + 1) o cs) (passes n c s other none)) ∙ end))
  where
    or_both : is_opening c ≡ false → is_closing c ≡ false → (is_opening c || is_closing c) ≡ false
    or_both a b = ap (λ x. x || is_closing c) a ∙ b

pub closes_all : (text : List ℕ) → IsClosing text
closes_all [] n [] end = empty
closes_all [] n (last ∷ s) end = absurd (omega (arith, ap length (same_Some (last ∷ s) [] end)))
closes_all (c ∷ cs) n s end =
    ⊎_elim (λ is. opening_case c cs (closes_all cs) is n s end)
    (λ other. ⊎_elim (λ is. closing_case c cs (closes_all cs) other is n s end) (λ none. plain_case c cs (closes_all cs) other none n s end) (cases_Bool (is_closing c)))
    (cases_Bool (is_opening c))

pub nothing_open : (text : List ℕ) → IsBalanced text → unclosed text ≡ Some []
nothing_open text is = balanced_keeps is 0 []

pub is_balanced : (text : List ℕ) → unclosed text ≡ Some [] → IsBalanced text
is_balanced text none = closes_all text 0 [] none
