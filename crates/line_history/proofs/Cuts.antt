-- How a list is cut into parts.
use Rattle.std.proofs.Common.{◌≡◌, Bool, true, List, [], ◌∷◌, ◌++◌, refl, sym, ap, ◌∙◌, ⊎_elim}
use Rattle.std.specs.List.{slice_split, onto_first}
use Rattle.std.proofs.lemmas.Bool.{cases_Bool}
use Rattle.std.proofs.lemmas.List.Splits.{slice_split-cons_yes, slice_split-cons_no}

-- there is a first part
pub record HasFirst {X : Type 0} (parts : List (List X)) : Type 0 where
  pub first : List X
  pub rest : List (List X)
  pub is : parts ≡ first ∷ rest

-- a list is cut into one part at least
pub HasFirst-split : {X : Type 0} (p : X → Bool) (xs : List X) → HasFirst (slice_split p xs)
HasFirst-split p [] = record { first = []; rest = []; is = refl }
HasFirst-split p (x ∷ xs) =
    ⊎_elim
    (λ yes. record { first = []; rest = slice_split p xs; is = slice_split-cons_yes p x xs yes })
    (λ no. let later = HasFirst-split p xs in record {
      first = x ∷ later.first;
      rest = later.rest;
      is = slice_split-cons_no p x xs no ∙ ap (onto_first x) later.is;
    })
    (cases_Bool (p x))

pub onto_first-append : {X : Type 0} (x : X) (parts more : List (List X)) → HasFirst parts
    → onto_first x (parts ++ more) ≡ onto_first x parts ++ more
onto_first-append x parts more has =
    ap (λ ps. onto_first x (ps ++ more)) has.is ∙ sym (ap (λ ps. onto_first x ps ++ more) has.is)

-- what stands before an element at which a list is cut, and what stands behind it, are cut each by itself
pub split-append : {X : Type 0} (p : X → Bool) (xs : List X) (y : X) (ys : List X) → p y ≡ true
    → slice_split p (xs ++ y ∷ ys) ≡ slice_split p xs ++ slice_split p ys
split-append p [] y ys cut = slice_split-cons_yes p y ys cut
split-append p (x ∷ xs) y ys cut =
    ⊎_elim
    (λ yes. slice_split-cons_yes p x (xs ++ y ∷ ys) yes ∙ ap (λ ps. [] ∷ ps) (split-append p xs y ys cut)
    ∙ sym (ap (λ ps. ps ++ slice_split p ys) (slice_split-cons_yes p x xs yes)))
    (λ no. slice_split-cons_no p x (xs ++ y ∷ ys) no ∙ ap (onto_first x) (split-append p xs y ys cut)
    ∙ onto_first-append x (slice_split p xs) (slice_split p ys) (HasFirst-split p xs)
    ∙ sym (ap (λ ps. ps ++ slice_split p ys) (slice_split-cons_no p x xs no)))
    (cases_Bool (p x))
