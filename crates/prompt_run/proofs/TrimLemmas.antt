-- Lists without the things at their end that pass a test, told from their front.
use Rattle.std.proofs.Common.{◌≡◌, ℕ, ◌+◌, ◌<◌, Bool, true, false, List, [], ◌∷◌, ◌++◌, length, take, if◌then◌else◌, get_or, refl, sym, ap, ◌∙◌, add-one}
use Rattle.std.specs.Prelude.{◌&&◌}
use Rattle.std.specs.List.{list_all}
use Rattle.std.proofs.Math.Seq.{take-suc}
use Rattle.std.proofs.lemmas.List.Folds.{list_all-append}
use Rattle.prompt_run.specs.Report.{has_no_text, without_last}

all_more : {A : Type 0} → (test : A → Bool) (things : List A) (last : A) (passes : Bool) → test last ≡ passes → list_all test (things ++ last ∷ []) ≡ (list_all test things && passes)
all_more test things last true is = list_all-append test things (last ∷ []) ∙ rw is refl
all_more test things last false is = list_all-append test things (last ∷ []) ∙ rw is refl

and_true : (b : Bool) → (b && true) ≡ b
and_true true = refl
and_true false = refl

and_false : (b : Bool) → (b && false) ≡ false
and_false true = refl
and_false false = refl

-- one more thing that passes
without_last-same : {A : Type 0} → (test : A → Bool) (things : List A) (last : A) → test last ≡ true → without_last test (things ++ last ∷ []) ≡ without_last test things
without_last-same test [] last passes = rw passes refl
without_last-same test (thing ∷ things) last passes =
    ap (λ b. if b then [] else thing ∷ without_last test (things ++ last ∷ [])) (all_more test (thing ∷ things) last true passes ∙ and_true (list_all test (thing ∷ things)))
    ∙ ap (λ rest. if list_all test (thing ∷ things) then [] else thing ∷ rest) (without_last-same test things last passes)

-- one more thing that doesn't
without_last-more : {A : Type 0} → (test : A → Bool) (things : List A) (last : A) → test last ≡ false → without_last test (things ++ last ∷ []) ≡ things ++ last ∷ []
without_last-more test [] last fails = rw fails refl
without_last-more test (thing ∷ things) last fails =
    ap (λ b. if b then [] else thing ∷ without_last test (things ++ last ∷ [])) (all_more test (thing ∷ things) last false fails ∙ and_false (list_all test (thing ∷ things)))
    ∙ ap (λ rest. thing ∷ rest) (without_last-more test things last fails)

front_more : {A : Type 0} → (things : List A) (at : ℕ) (d : A) → at < length things → take (at + 1) things ≡ take at things ++ get_or things at d ∷ []
front_more things at d within = ap (λ n. take n things) (add-one at) ∙ take-suc things at d within

-- what is left of the front stays where the next thing passes
pub end_kept : {A : Type 0} → (test : A → Bool) (things : List A) (at end : ℕ) (thing : A) → at < length things → thing ≡ get_or things at thing → test thing ≡ true
    → take end things ≡ without_last test (take at things) → take end things ≡ without_last test (take (at + 1) things)
end_kept test things at end thing within is passes so_far =
    so_far ∙ sym (without_last-same test (take at things) (get_or things at thing) (ap test (sym is) ∙ passes)) ∙ ap (without_last test) (sym (front_more things at thing within))

-- and is the whole front where it doesn't
pub end_moved : {A : Type 0} → (test : A → Bool) (things : List A) (at : ℕ) (thing : A) → at < length things → thing ≡ get_or things at thing → test thing ≡ false
    → take (at + 1) things ≡ without_last test (take (at + 1) things)
end_moved test things at thing within is fails =
    front_more things at thing within ∙ sym (without_last-more test (take at things) (get_or things at thing) (ap test (sym is) ∙ fails)) ∙ ap (without_last test) (sym (front_more things at thing within))

-- an empty text
pub none_passes : (text : List ℕ) → text ≡ [] → has_no_text text ≡ true
none_passes text is = ap has_no_text is

-- a text that is not
pub some_fails : (text : List ℕ) → (text ≡ [] → ⊥) → has_no_text text ≡ false
some_fails [] some = absurd (some refl)
some_fails (char ∷ chars) some = refl
