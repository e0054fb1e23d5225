-- The newest line, entry by entry.
use Rattle.std.proofs.Common.{◌≡◌, Bor, ℕ, ◌+◌, ◌-◌, ◌<◌, Bool, true, false, cond, List, [], ◌∷◌, ◌++◌, length, take, drop, get_or, reverse, Option, Some, None, nat_eq, refl, sym, ap, ◌∙◌, arith}
use Rattle.std.specs.List.{find, flat_map, starts_with}
use Rattle.std.specs.Option.{option_map, option_or, option_copied, is_some}
use Rattle.std.proofs.lemmas.List.{take_more, reverse-append, append-nil}
use Rattle.std.proofs.lemmas.List.Concat.{flat_map-append}
use Rattle.std.proofs.lemmas.List.Folds.{find-append}
use Rattle.text_doc.specs.Lines.{lines_of}
use Rattle.completers.specs.Suggested.{rest_of_line, rest_of_newest}

option_map-option_or : (n : ℕ) (a b : Option (List ℕ)) → option_map (drop n) (option_or a b) ≡ option_or (option_map (drop n) a) (option_map (drop n) b)
option_map-option_or n None b = refl
option_map-option_or n (Some x) b = refl

option_or-some : (a b : Option (List ℕ)) → is_some a ≡ true → option_or a b ≡ a
option_or-some None b is = cc
option_or-some (Some x) b is = refl

option_or-none : (a b : Option (List ℕ)) → is_some a ≡ false → option_or a b ≡ b
option_or-none None b is = refl
option_or-none (Some x) b is = cc

-- the newest entry comes first
newest_more : (history : List (List ℕ)) (line : List ℕ) (at : ℕ) (entry : List ℕ) → at < length history → entry ≡ get_or history at entry
    → rest_of_newest (take (at + 1) history) line ≡ option_or (rest_of_newest (entry ∷ []) line) (rest_of_newest (take at history) line)
newest_more history line at entry within is =
    let older = take at history in
    let fits : List ℕ → Bool = λ old. starts_with nat_eq old line in
    let cut : take (at + 1) history ≡ older ++ entry ∷ [] = take_more history at entry within ∙ ap (λ e. older ++ e ∷ []) (sym is) in
    let back : reverse (flat_map lines_of (older ++ entry ∷ [])) ≡ reverse (flat_map lines_of (entry ∷ [])) ++ reverse (flat_map lines_of older) =
    ap reverse (flat_map-append lines_of older (entry ∷ [])) ∙ reverse-append (flat_map lines_of older) (flat_map lines_of (entry ∷ [])) in
    ap (λ h. rest_of_newest h line) cut
    ∙ ap (λ ls. option_map (drop (length line)) (find fits ls)) back
    ∙ ap (option_map (drop (length line))) (find-append fits (reverse (flat_map lines_of (entry ∷ []))) (reverse (flat_map lines_of older)))
    ∙ option_map-option_or (length line) _ _

-- the entry before the place `at` is looked at, and then the older ones
newest_step : (history : List (List ℕ)) (line : List ℕ) (at : ℕ) (entry : List ℕ) → 0 < at → at - 1 < length history → entry ≡ get_or history (at - 1) entry
    → rest_of_newest (take at history) line ≡ option_or (rest_of_newest (entry ∷ []) line) (rest_of_newest (take (at - 1) history) line)
newest_step history line at entry some within is =
    let e : at ≡ at - 1 + 1 = omega arith in
    ap (λ n. rest_of_newest (take n history) line) e ∙ newest_more history line (at - 1) entry within is

-- the entry has the line
pub newest_found : (history : List (List ℕ)) (line : List ℕ) (at : ℕ) (entry : List ℕ) (found : Option (List ℕ)) → 0 < at → at - 1 < length history → entry ≡ get_or history (at - 1) entry
    → found ≡ rest_of_newest (entry ∷ []) line → is_some found ≡ true → found ≡ rest_of_newest (take at history) line
newest_found history line at entry found some within is rest has =
    rest ∙ sym (newest_step history line at entry some within is ∙ option_or-some (rest_of_newest (entry ∷ []) line) _ (ap is_some (sym rest) ∙ has))

-- it has none
pub newest_older : (history : List (List ℕ)) (line : List ℕ) (at : ℕ) (entry : List ℕ) (found : Option (List ℕ)) → 0 < at → at - 1 < length history → entry ≡ get_or history (at - 1) entry
    → found ≡ rest_of_newest (entry ∷ []) line → is_some found ≡ false → rest_of_newest (take (at - 1) history) line ≡ rest_of_newest (take at history) line
newest_older history line at entry found some within is rest lacks =
    sym (newest_step history line at entry some within is ∙ option_or-none (rest_of_newest (entry ∷ []) line) _ (ap is_some (sym rest) ∙ lacks))

pub is_some-option_copied : (o : Option (Bor (List ℕ))) → is_some (option_copied o) ≡ is_some o
is_some-option_copied None = refl
is_some-option_copied (Some x) = refl

-- the rest of the last of some lines that starts with `line`
abbrev pub latest : List ℕ → List (List ℕ) → Option (List ℕ)
latest line lines = option_map (drop (length line)) (find (λ old. starts_with nat_eq old line) (reverse lines))

one_line : (b : Bool) (line old : List ℕ) → option_map (drop (length line)) (cond b (Some old) None) ≡ cond b (Some (drop (length line) old)) None
one_line true line old = refl
one_line false line old = refl

latest-cons : (line old : List ℕ) (lines : List (List ℕ)) → latest line (old ∷ lines) ≡ option_or (latest line lines) (rest_of_line line old)
latest-cons line old lines =
    let fits : List ℕ → Bool = λ o. starts_with nat_eq o line in
    ap (λ ls. option_map (drop (length line)) (find fits ls)) (reverse-append (old ∷ []) lines)
    ∙ ap (option_map (drop (length line))) (find-append fits (reverse lines) (old ∷ []))
    ∙ option_map-option_or (length line) (find fits (reverse lines)) (find fits (old ∷ []))
    ∙ ap (option_or (latest line lines)) (one_line (fits old) line old)

option_or_assoc : (a b c : Option (List ℕ)) → option_or (option_or a b) c ≡ option_or a (option_or b c)
option_or_assoc None b c = refl
option_or_assoc (Some x) b c = refl

-- one more line of an entry was looked at
pub latest_more : (line left old rest : List ℕ) (found next all : Option (List ℕ)) → lines_of left ≡ old ∷ lines_of rest
    → next ≡ option_or (rest_of_line line old) found → option_or (latest line (lines_of left)) found ≡ all → option_or (latest line (lines_of rest)) next ≡ all
latest_more line left old rest found next all cut is before =
    ap (option_or (latest line (lines_of rest))) is ∙ sym (option_or_assoc (latest line (lines_of rest)) (rest_of_line line old) found)
    ∙ sym (ap (λ o. option_or o found) (ap (latest line) cut ∙ latest-cons line old (lines_of rest))) ∙ before

-- and now the last one
pub latest_all : (line left : List ℕ) (found last all : Option (List ℕ)) → lines_of left ≡ left ∷ []
    → last ≡ option_or (rest_of_line line left) found → option_or (latest line (lines_of left)) found ≡ all → last ≡ all
latest_all line left found last all one is before =
    is ∙ sym (ap (λ o. option_or o found) (ap (latest line) one ∙ latest-cons line left [])) ∙ before

-- the lines of one entry
pub rest_of_newest-one : (entry line : List ℕ) → latest line (lines_of entry) ≡ rest_of_newest (entry ∷ []) line
rest_of_newest-one entry line = sym (ap (latest line) (append-nil (lines_of entry)))
