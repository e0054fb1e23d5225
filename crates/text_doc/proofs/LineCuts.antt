-- How the first line of a text lies in it.
use Rattle.std.proofs.Common.{◌≡◌, ℕ, zero, suc, ◌+◌, ◌<◌, Bool, true, false, List, [], ◌∷◌, length, take, drop, get_or, ap, arith, ◌∙◌, add-one}
use Rattle.std.specs.List.{slice_split, onto_first}
use Rattle.std.proofs.lemmas.List.Splits.{slice_split-cons_yes, slice_split-cons_no, slice_split_none}

-- where the first line feed stands, the first line ends, and the other lines are behind it
cut-suc : {X : Type 0} (p : X → Bool) (text : List X) (d : X) (at : ℕ) → at < length text → ((k : ℕ) (d : X) → k < at → p (get_or text k d) ≡ false) → p (get_or text at d) ≡ true
    → slice_split p text ≡ take at text ∷ slice_split p (drop (suc at) text)
cut-suc p [] d at within before here = absurd (omega arith)
cut-suc p (x ∷ xs) d zero within before here = slice_split-cons_yes p x xs here
cut-suc p (x ∷ xs) d (suc at) within before here =
    let rest : slice_split p xs ≡ take at xs ∷ slice_split p (drop (suc at) xs) = cut-suc p xs d at (omega arith) (λ k d h. before (suc k) d (omega arith)) here in
    slice_split-cons_no p x xs (before 0 d (omega arith)) ∙ ap (onto_first x) rest

pub cut_at_feed : {X : Type 0} (p : X → Bool) (text : List X) (d : X) (at : ℕ) → at < length text → ((k : ℕ) (d : X) → k < at → p (get_or text k d) ≡ false) → p (get_or text at d) ≡ true
    → slice_split p text ≡ take at text ∷ slice_split p (drop (at + 1) text)
cut_at_feed p text d at within before here = rw add-one (cut-suc p text d at within before here)

-- a text without a line feed is one line
pub one_line : {X : Type 0} (p : X → Bool) (text : List X) → ((k : ℕ) (d : X) → k < length text → p (get_or text k d) ≡ false) → slice_split p text ≡ text ∷ []
one_line p text none = slice_split_none p text (λ k d h. none k d h)
