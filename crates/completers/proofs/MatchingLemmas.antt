-- A text contains a part where the part's bytes occur among the text's bytes.
use Prim.Native.Nat.{zero, suc}
use Rattle.std.proofs.Common.{◌≡◌, ℕ, ◌+◌, ◌/◌, ◌%◌, ◌<◌, ◌≤◌, Bool, true, false, cond, ◌&&◌, ◌||◌, List, [], ◌∷◌, ◌++◌, Option, Some, None, length, take, drop, map, filter, get_or, nat_eq, refl, sym, ap, ◌∙◌, arith, ⊎_elim, length-drop, length-append, append_assoc}
use Rattle.std.specs.List.{starts_with}
use Rattle.std.specs.Option.{is_some}
use Rattle.std.proofs.lemmas.Bool.{cases_Bool}
use Rattle.std.proofs.lemmas.List.{take_more, map-append}
use Rattle.std.proofs.lemmas.List.Elements.{filter-append}
use Rattle.std.proofs.lemmas.Bool.Decides.{nat_tests, Decides-eqb}
use Rattle.std.proofs.lemmas.Slice.Eq.{bytes_eq-Decides, starts_is}
use Rattle.memchr.specs.Find.{FindsNeedle}
use Rattle.memchr.proofs.lemmas.MatchLemmas.{OccursAt-part, OccursAt-from_part}
use Rattle.completers.specs.Marked.{marked}
use Rattle.text_doc.specs.declared.completions.Completion.{Completion}
use Rattle.completers.specs.Words.{contains_text, fits, completion}

-- the bytes of two characters are the same where the characters are
mark_same : (p c : ℕ) (rest : Bool)
    → (nat_eq (128 + p / 128 / 128) (128 + c / 128 / 128) && (nat_eq (p / 128 % 128) (c / 128 % 128) && (nat_eq (p % 128) (c % 128) && rest))) ≡ (nat_eq p c && rest)
mark_same p c rest = grind (arith, nat_tests)

-- no character's bytes begin at the second or third byte of another
not_low : (x y : ℕ) (rest : Bool) → y < 128 → (nat_eq (128 + x) y && rest) ≡ false
not_low x y rest low = grind (arith, nat_tests)

starts_with_marked : (text part : List ℕ) → starts_with nat_eq (marked text) (marked part) ≡ starts_with nat_eq text part
starts_with_marked [] [] = refl
starts_with_marked [] (p ∷ part) = refl
starts_with_marked (c ∷ text) [] = refl
starts_with_marked (c ∷ text) (p ∷ part) =
    ap (λ b. nat_eq (128 + p / 128 / 128) (128 + c / 128 / 128) && (nat_eq (p / 128 % 128) (c / 128 % 128) && (nat_eq (p % 128) (c % 128) && b))) (starts_with_marked text part)
    ∙ mark_same p c (starts_with nat_eq text part)

-- bytes tell whether a text contains a part
contains_marked : (text part : List ℕ) → contains_text (marked text) (marked part) ≡ contains_text text part
contains_marked [] part = starts_with_marked [] part
contains_marked (c ∷ text) [] = refl
contains_marked (c ∷ text) (p ∷ part) =
    let bytes = marked (p ∷ part) in
    let first = starts_with_marked (c ∷ text) (p ∷ part) in
    let second : starts_with nat_eq ((c / 128 % 128) ∷ (c % 128) ∷ marked text) bytes ≡ false = not_low (p / 128 / 128) (c / 128 % 128) _ (omega arith) in
    let third : starts_with nat_eq ((c % 128) ∷ marked text) bytes ≡ false = not_low (p / 128 / 128) (c % 128) _ (omega arith) in
    ap (λ b. b || contains_text ((c / 128 % 128) ∷ (c % 128) ∷ marked text) bytes) first
    ∙ ap (λ b. starts_with nat_eq (c ∷ text) (p ∷ part) || (b || contains_text ((c % 128) ∷ marked text) bytes)) second
    ∙ ap (λ b. starts_with nat_eq (c ∷ text) (p ∷ part) || (b || contains_text (marked text) bytes)) third
    ∙ ap (λ b. starts_with nat_eq (c ∷ text) (p ∷ part) || b) (contains_marked text (p ∷ part))

or_true : (b : Bool) → (b || true) ≡ true
or_true true = refl
or_true false = refl

-- a part that stands at a place is contained
contains_here : (text part : List ℕ) (k : ℕ) → starts_with nat_eq (drop k text) part ≡ true → contains_text text part ≡ true
contains_here [] part zero here = here
contains_here [] part (suc k) here = here
contains_here (c ∷ text) part zero here = ap (λ b. b || contains_text text part) here
contains_here (c ∷ text) part (suc k) here =
    ap (λ b. starts_with nat_eq (c ∷ text) part || b) (contains_here text part k here) ∙ or_true (starts_with nat_eq (c ∷ text) part)

-- a part that stands at no place is not contained
contains_nowhere : (text part : List ℕ) → ((k : ℕ) → k ≤ length text → starts_with nat_eq (drop k text) part ≡ false) → contains_text text part ≡ false
contains_nowhere [] part nowhere = nowhere 0 (omega arith)
contains_nowhere (c ∷ text) part nowhere =
    ap (λ b. b || contains_text text part) (nowhere 0 (omega arith))
    ∙ contains_nowhere text part (λ k within. nowhere (suc k) (omega arith))

-- where a part stands, the text has room for it
starts_fit : (text part : List ℕ) (k : ℕ) → k ≤ length text → starts_with nat_eq (drop k text) part ≡ true → k + length part ≤ length text
starts_fit text part k within starts =
    let whole : drop k text ≡ part ++ drop (length part) (drop k text) = (starts_is Decides-eqb (drop k text) part (starts_with nat_eq (drop k text) part) refl).0 starts in
    omega (arith, ap length whole, length-drop k text, length-append part (drop (length part) (drop k text)))

-- a search tells whether a text contains a part
contains_found : (text part : List ℕ) (place : Option ℕ) → FindsNeedle text part 0 place → is_some place ≡ contains_text text part
contains_found text part None none =
    sym (contains_nowhere text part (λ k within. ⊎_elim
    (λ starts. absurd (none k (omega arith) (omega arith)
    (OccursAt-from_part text part k (starts_fit text part k within starts) (sym ((bytes_eq-Decides part (take (length part) (drop k text))).0 starts)))))
    (λ no. no)
    (cases_Bool (starts_with nat_eq (drop k text) part))))
contains_found text part (Some k) found =
    sym (contains_here text part k ((bytes_eq-Decides part (take (length part) (drop k text))).1 (sym (OccursAt-part text part k found.1))))

-- the same of texts that are searched by their bytes
pub contains_by_bytes : (text part all bytes : List ℕ) (place : Option ℕ) → all ≡ marked text → bytes ≡ marked part → FindsNeedle all bytes 0 place
    → is_some place ≡ contains_text text part
contains_by_bytes text part all bytes place all_are bytes_are found =
    contains_found all bytes place found ∙ ap (contains_text all) bytes_are ∙ ap (λ hay. contains_text hay (marked part)) all_are ∙ contains_marked text part

-- the completions of the words so far, and that of the next one where it contains the part
pub put_fitting : (n : ℕ) (part : List ℕ) (words : List (List ℕ)) (i : ℕ) (word other : List ℕ) (there : Bool) (before items more : List Completion)
    → i < length words → word ≡ get_or words i other → there ≡ contains_text word part
    → items ≡ before ++ map (completion n) (filter (fits true part) (take i words)) → more ≡ items ++ cond there (completion n word ∷ []) []
    → more ≡ before ++ map (completion n) (filter (fits true part) (take (i + 1) words))
put_fitting n part words i word other there before items more within is found so_far put =
    let front = filter (fits true part) (take i words) in
    let words_are : filter (fits true part) (take (i + 1) words) ≡ front ++ cond there (word ∷ []) [] =
    ap (filter (fits true part)) (take_more words i other within) ∙ filter-append (fits true part) (take i words) (get_or words i other ∷ [])
    ∙ ap (λ w. front ++ filter (fits true part) (w ∷ [])) (sym is) ∙ ap (λ b. front ++ cond b (word ∷ []) []) (sym found) in
    put ∙ ap (λ ys. ys ++ cond there (completion n word ∷ []) []) so_far
    ∙ append_assoc before (map (completion n) front) (cond there (completion n word ∷ []) [])
    ∙ ap (λ ys. before ++ (map (completion n) front ++ ys)) (sym (one_of there))
    ∙ ap (λ ys. before ++ ys) (sym (map-append (completion n) front (cond there (word ∷ []) [])) ∙ ap (map (completion n)) (sym words_are))
  where
    one_of : (b : Bool) → map (completion n) (cond b (word ∷ []) []) ≡ cond b (completion n word ∷ []) []
    one_of true = refl
    one_of false = refl
