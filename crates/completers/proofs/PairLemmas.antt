-- One character's step on the brackets that stand open, by what the character is.
use Rattle.std.proofs.Common.{◌≡◌, ℕ, Bool, true, false, cond, ◌&&◌, ◌||◌, ◌==◌, List, ◌∷◌, Some, None, refl, sym, ap, ◌∙◌, ⊎_elim}
use Rattle.std.proofs.lemmas.Bool.{cases_Bool, and_parts, or_cases, eqb-true}
use Rattle.completers.specs.declared.brackets.Opened.{Opened}
use Rattle.completers.specs.Pairs.{is_opening, is_closing, are_pair, closed_by, after_character}

-- what the characters of a pair are
abbrev pub ArePair : ℕ → ℕ → Type 0
ArePair opening closing = (is_opening opening ≡ true) × (is_opening closing ≡ false) × (is_closing closing ≡ true)

pair_by : (opening closing o c : ℕ) → (opening == o) ≡ true → (closing == c) ≡ true → ArePair o c → ArePair opening closing
pair_by opening closing o c is_opened is_closed pair =
    let e = eqb-true opening o is_opened in
    let f = eqb-true closing c is_closed in
    (ap is_opening e ∙ pair.0, ap is_opening f ∙ pair.1, ap is_closing f ∙ pair.2)

-- whether the two are a square or a curly pair
abbrev later : ℕ → ℕ → Bool
later opening closing = cond (opening == 91) (closing == 93) (opening == 123 && closing == 125)

pub pair_parts : (opening closing : ℕ) → are_pair opening closing ≡ true → ArePair opening closing
pair_parts opening closing is =
    ⊎_elim
    (λ a. pair_by opening closing 40 41 a (sym (ap (λ b. cond b (closing == 41) (later opening closing)) a) ∙ is) (refl, refl, refl))
    (λ other. let is' : later opening closing ≡ true = sym (ap (λ b. cond b (closing == 41) (later opening closing)) other) ∙ is in
    ⊎_elim
    (λ a. pair_by opening closing 91 93 a (sym (ap (λ b. cond b (closing == 93) (opening == 123 && closing == 125)) a) ∙ is') (refl, refl, refl))
    (λ not_it. let parts = and_parts (opening == 123) (closing == 125) (sym (ap (λ b. cond b (closing == 93) (opening == 123 && closing == 125)) not_it) ∙ is') in
    pair_by opening closing 123 125 parts.0 parts.1 (refl, refl, refl))
    (cases_Bool (opening == 91)))
    (cases_Bool (opening == 40))

-- an opening bracket stands open
pub opens : (n c : ℕ) (s : List Opened) → is_opening c ≡ true → after_character (Some s) (n, c) ≡ Some (record { place = n; bracket = c } ∷ s)
opens n c s is = ap (λ b. cond b (Some (record { place = n; bracket = c } ∷ s)) (cond (is_closing c) (closed_by c s) (Some s))) is

-- a closing bracket closes the last one
pub closes : (n c : ℕ) (s : List Opened) → is_opening c ≡ false → is_closing c ≡ true → after_character (Some s) (n, c) ≡ closed_by c s
closes n c s other is =
    ap (λ b. cond b (Some (record { place = n; bracket = c } ∷ s)) (cond (is_closing c) (closed_by c s) (Some s))) other
    ∙ ap (λ b. cond b (closed_by c s) (Some s)) is

-- any other character changes nothing
pub passes : (n c : ℕ) (s : List Opened) → is_opening c ≡ false → is_closing c ≡ false → after_character (Some s) (n, c) ≡ Some s
passes n c s other none =
    ap (λ b. cond b (Some (record { place = n; bracket = c } ∷ s)) (cond (is_closing c) (closed_by c s) (Some s))) other
    ∙ ap (λ b. cond b (closed_by c s) (Some s)) none

pub closes_pair : (n c : ℕ) (last : Opened) (s : List Opened) → are_pair last.bracket c ≡ true → after_character (Some (last ∷ s)) (n, c) ≡ Some s
closes_pair n c last s is =
    let parts = pair_parts last.bracket c is in
    closes n c (last ∷ s) parts.1 parts.2 ∙ ap (λ b. cond b (Some s) None) is

-- the closing bracket of an opening one
abbrev pub partner : ℕ → ℕ
partner opening = cond (opening == 40) 41 (cond (opening == 91) 93 125)

pub partner_pairs : (opening : ℕ) → is_opening opening ≡ true → are_pair opening (partner opening) ≡ true
partner_pairs opening is =
    ⊎_elim (λ two. ⊎_elim (λ a. ap (λ o. are_pair o (partner o)) (eqb-true opening 40 a)) (λ a. ap (λ o. are_pair o (partner o)) (eqb-true opening 91 a)) (or_cases (opening == 40) (opening == 91) two))
    (λ a. ap (λ o. are_pair o (partner o)) (eqb-true opening 123 a))
    (or_cases (opening == 40 || opening == 91) (opening == 123) is)

-- a bracket does not both open and close
pub opening_closes_not : (c : ℕ) → is_opening c ≡ true → is_closing c ≡ false
opening_closes_not c is =
    ⊎_elim (λ two. ⊎_elim (λ a. ap is_closing (eqb-true c 40 a)) (λ a. ap is_closing (eqb-true c 91 a)) (or_cases (c == 40) (c == 91) two))
    (λ a. ap is_closing (eqb-true c 123 a))
    (or_cases (c == 40 || c == 91) (c == 123) is)
