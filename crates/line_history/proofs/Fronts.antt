-- The front of a text tells whether the text is too long.
use Rattle.std.proofs.Common.{◌≡◌, ℕ, ◌+◌, ◌<◌, ◌≤◌, List, [], ◌∷◌, ◌++◌, length, take, Some, sym, ap, ◌∙◌, arith, ⊎_elim, length-append, take_all}
use Rattle.std.proofs.lemmas.Bool.{cases_lt, cond-false, lt-leb}
use Rattle.std.proofs.lemmas.List.{take-append-le, length-take-le}
use Rattle.text_doc.specs.declared.documents.TheConstants.{MAX_LENGTH}
use Rattle.line_history.specs.History.{is_short}
use Rattle.line_history.specs.Reading.{front, kept}

take-take_append : (n : ℕ) (a b : List ℕ) → take n (take n a ++ b) ≡ take n (a ++ b)
take-take_append n a b =
    ⊎_elim
    (λ (long : n < length a).
    let exact : length (take n a) ≡ n = length-take-le n a (omega arith) in
    take-append-le n (take n a) b (omega arith) ∙ take_all n (take n a) (omega arith) ∙ sym (take-append-le n a b (omega arith)))
    (λ (short : length a ≤ n). ap (λ t. take n (t ++ b)) (take_all n a short))
    (cases_lt n (length a))

-- a front with more behind it has the front of all
pub front-front_append : (a b : List ℕ) → front (front a ++ b) ≡ front (a ++ b)
front-front_append a b = take-take_append (MAX_LENGTH + 1) a b

-- a text that is at most one character too long is its own front
pub front_all : (a : List ℕ) → length a ≤ MAX_LENGTH + 1 → front a ≡ a
front_all a short = take_all (MAX_LENGTH + 1) a short

-- a text that is one character too long stays as it is
pub front_full : (a b : List ℕ) → MAX_LENGTH < length a → length a ≤ MAX_LENGTH + 1 → front (a ++ b) ≡ a
front_full a b long short = take-append-le (MAX_LENGTH + 1) a b (omega arith) ∙ front_all a short

kept_long : (a : List ℕ) → MAX_LENGTH < length a → kept (Some a) ≡ []
kept_long a long = cond-false (is_short a) (a ∷ []) [] (lt-leb (length a) MAX_LENGTH long)

-- a text is kept exactly where it would be with all that its front leaves out
pub kept_front : (a b : List ℕ) → kept (Some (front a ++ b)) ≡ kept (Some (a ++ b))
kept_front a b =
    ⊎_elim
    (λ (long : MAX_LENGTH + 1 < length a).
    let exact : length (front a) ≡ MAX_LENGTH + 1 = length-take-le (MAX_LENGTH + 1) a (omega arith) in
    kept_long (front a ++ b) (omega (arith, length-append (front a) b)) ∙ sym (kept_long (a ++ b) (omega (arith, length-append a b))))
    (λ (short : length a ≤ MAX_LENGTH + 1). ap (λ t. kept (Some (t ++ b))) (front_all a short))
    (cases_lt (MAX_LENGTH + 1) (length a))
