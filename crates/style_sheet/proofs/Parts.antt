-- Texts that are cut at a separator, and texts that are joined with one.
use Rattle.std.proofs.Common.{◌≡◌, ℕ, ◌<◌, Bool, true, false, List, [], ◌∷◌, ◌++◌, map, length, Option, Some, None, Bor, refl, sym, ap, ◌∙◌, arith, append_assoc}
use Rattle.std.specs.Prelude.{◌==◌, ◌≢◌, not, All, MatchOption}
use Rattle.std.specs.List.{AllByRecursion, list_all, slice_split, join_with_byte}
use Rattle.std.proofs.lemmas.Bool.{and_parts, not-true, ne_eqb, eq-eqb, eqb-false, and_from}
use Rattle.std.proofs.lemmas.List.{map-append}
use Rattle.std.proofs.lemmas.List.Elements.{All-from_recursion, All-weaker}
use Rattle.std.proofs.lemmas.List.Folds.{list_all-append}
use Rattle.std.proofs.lemmas.List.Splits.{slice_split_none, slice_split_at, length-slice_split, join_with_byte-slice_split}

-- a text cut at each separator
abbrev pub parts : ℕ → List ℕ → List (List ℕ)
parts c text = slice_split (λ b. b == c) text

-- the parts of what is left of a text
abbrev pub left_parts : ℕ → Option (Bor (List ℕ)) → List (List ℕ)
left_parts c None = []
left_parts c (Some text) = parts c text.now

-- the separator is no byte of the text
abbrev pub lacks : ℕ → List ℕ → Bool
lacks c text = list_all (λ b. not (b == c)) text

lacks-each : (c : ℕ) (text : List ℕ) → lacks c text ≡ true → AllByRecursion (λ b. (b == c) ≡ false) text
lacks-each c [] none = tt
lacks-each c (b ∷ text) none =
    let both = and_parts (not (b == c)) (lacks c text) none in
    (not-true (b == c) both.0, lacks-each c text both.1)

pub lacks-all : (c : ℕ) (text : List ℕ) → lacks c text ≡ true → All (λ b. (b == c) ≡ false) text
lacks-all c text none = All-from_recursion (λ b. (b == c) ≡ false) text (lacks-each c text none)

pub unequal-all : (c : ℕ) (text : List ℕ) → All (λ b. b ≢ c) text → All (λ b. (b == c) ≡ false) text
unequal-all c text none = All-weaker (λ b. b ≢ c) (λ b. (b == c) ≡ false) (λ b apart. ne_eqb b c apart) text none

pub lacks-unequal : (c : ℕ) (text : List ℕ) → lacks c text ≡ true → All (λ b. b ≢ c) text
lacks-unequal c text none = All-weaker (λ b. (b == c) ≡ false) (λ b. b ≢ c) (λ b apart. eqb-false b c apart) text (lacks-all c text none)

pub all-append : (test : ℕ → Bool) (xs ys : List ℕ) → list_all test xs ≡ true → list_all test ys ≡ true → list_all test (xs ++ ys) ≡ true
all-append test xs ys p q = list_all-append test xs ys ∙ and_from (list_all test xs) (list_all test ys) p q

-- what holds of each byte of some texts and of the byte that joins them holds of each byte of all
pub all-join : (test : ℕ → Bool) (d : ℕ) (ps : List (List ℕ)) → test d ≡ true → AllByRecursion (λ p. list_all test p ≡ true) ps → list_all test (join_with_byte d ps) ≡ true
all-join test d [] joins each = refl
all-join test d (p ∷ []) joins each = each.0
all-join test d (p ∷ q ∷ ps) joins each =
    all-append test p (d ∷ join_with_byte d (q ∷ ps)) each.0 (and_from (test d) (list_all test (join_with_byte d (q ∷ ps))) joins (all-join test d (q ∷ ps) joins each.1))

-- what one cut of a text says of its parts
pub cut_parts : (c : ℕ) (text part : List ℕ) (behind : Option (Bor (List ℕ))) → MatchOption behind (text ≡ part) (λ b. text ≡ part ++ c ∷ b.now) → All (λ b. b ≢ c) part → parts c text ≡ part ∷ left_parts c behind
cut_parts c text part None whole first =
    ap (λ t. parts c t) whole ∙ slice_split_none (λ b. b == c) part (unequal-all c part first)
cut_parts c text part (Some behind) whole first =
    ap (λ t. parts c t) whole ∙ slice_split_at (λ b. b == c) part c behind.now (unequal-all c part first) (eq-eqb c c refl)

-- there is a part at least
pub parts-some : (c : ℕ) (text : List ℕ) → 0 < length (parts c text)
parts-some c text = omega (arith, length-slice_split (λ b. b == c) text)

-- the parts of joined texts without the separator are these texts
pub parts-join : (c : ℕ) (ps : List (List ℕ)) → 0 < length ps → AllByRecursion (λ p. lacks c p ≡ true) ps → parts c (join_with_byte c ps) ≡ ps
parts-join c [] some each = absurd (omega arith)
parts-join c (p ∷ []) some each = slice_split_none (λ b. b == c) p (lacks-all c p each.0)
parts-join c (p ∷ q ∷ ps) some each =
    slice_split_at (λ b. b == c) p c (join_with_byte c (q ∷ ps)) (lacks-all c p each.0) (eq-eqb c c refl) ∙ ap (λ rest. p ∷ rest) (parts-join c (q ∷ ps) (omega arith) each.1)

-- each of the joined texts is that of an item
pub each_text : {X : Type 0} (f : X → List ℕ) (V : X → Type 0) (P : List ℕ → Type 0) → ((x : X) → V x → P (f x)) → (xs : List X) → AllByRecursion V xs → AllByRecursion P (map f xs)
each_text f V P holds [] each = tt
each_text f V P holds (x ∷ xs) each = (holds x each.0, each_text f V P holds xs each.1)

-- a text among those of some items is that of one of them
pub among : {X : Type 0} (f : X → List ℕ) (V : X → Type 0) (xs : List X) (front rest : List (List ℕ)) (text : List ℕ) → AllByRecursion V xs → map f xs ≡ front ++ text ∷ rest → (x : X) × V x × (f x ≡ text)
among f V [] [] rest text each e = absurd cc
among f V [] (p ∷ front) rest text each e = absurd cc
among f V (x ∷ xs) [] rest text each e = (x, each.0, cc)
among f V (x ∷ xs) (p ∷ front) rest text each e = among f V xs front rest text each.1 cc

-- items whose texts are equal are equal, where each text is that of one item
pub map-same : {X : Type 0} (f : X → List ℕ) (V : X → Type 0) → ((x y : X) → V x → V y → f x ≡ f y → x ≡ y) → (xs ys : List X) → AllByRecursion V xs → AllByRecursion V ys → map f xs ≡ map f ys → xs ≡ ys
map-same f V one [] [] p q e = refl
map-same f V one [] (y ∷ ys) p q e = absurd cc
map-same f V one (x ∷ xs) [] p q e = absurd cc
map-same f V one (x ∷ xs) (y ∷ ys) p q e =
    let head : x ≡ y = one x y p.0 q.0 cc in
    let tail : xs ≡ ys = map-same f V one xs ys p.1 q.1 cc in
    cc

-- the front before the first separator, and what is behind it
pub same_cut : (c : ℕ) (text front rest part behind : List ℕ) → lacks c front ≡ true → front ++ c ∷ rest ≡ text → All (λ b. b ≢ c) part → text ≡ part ++ c ∷ behind → (front ≡ part) × (rest ≡ behind)
same_cut c text front rest part behind before e first whole =
    let x : parts c text ≡ front ∷ parts c rest = ap (λ t. parts c t) (sym e) ∙ slice_split_at (λ b. b == c) front c rest (lacks-all c front before) (eq-eqb c c refl) in
    let y : parts c text ≡ part ∷ parts c behind = ap (λ t. parts c t) whole ∙ slice_split_at (λ b. b == c) part c behind (unequal-all c part first) (eq-eqb c c refl) in
    let head : front ≡ part = cc in
    let rests : parts c rest ≡ parts c behind = cc in
    (head, sym (join_with_byte-slice_split c rest) ∙ ap (λ ps. join_with_byte c ps) rests ∙ join_with_byte-slice_split c behind)

-- the next cut of what is left of a text
pub next_part : (c : ℕ) (front whole : List (List ℕ)) (left : Option (Bor (List ℕ))) (here : Bor (List ℕ)) (part : List ℕ) (behind : Option (Bor (List ℕ)))
    → front ++ left_parts c left ≡ whole → left ≡ Some here → MatchOption behind (here.now ≡ part) (λ b. here.now ≡ part ++ c ∷ b.now) → All (λ b. b ≢ c) part
    → front ++ part ∷ left_parts c behind ≡ whole
next_part c front whole left here part behind so_far is cut first =
    ap (λ ps. front ++ ps) (sym (ap (λ o. left_parts c o) is ∙ cut_parts c here.now part behind cut first)) ∙ so_far

-- one more item, whose text was the next part
pub push_part : {X : Type 0} (f : X → List ℕ) (xs : List X) (x : X) (part : List ℕ) (left whole : List (List ℕ))
    → map f xs ++ part ∷ left ≡ whole → f x ≡ part → map f (xs ++ x ∷ []) ++ left ≡ whole
push_part f xs x part left whole so_far is = rw (map-append, append_assoc, is) so_far

pub each-push : {X : Type 0} (P : X → Type 0) (xs : List X) (x : X) → AllByRecursion P xs → P x → AllByRecursion P (xs ++ x ∷ [])
each-push P [] x each last = (last, tt)
each-push P (y ∷ xs) x each last = (each.0, each-push P xs x each.1 last)
