-- The lines of a text, and those of its front.
use Prim.Native.Nat.{suc, zero}
use Rattle.std.proofs.Common.{◌≡◌, ℕ, ◌+◌, ◌-◌, ◌≤◌, ◌==◌, Bool, true, false, cond, List, [], ◌∷◌, ◌++◌, length, get_or, take, refl, sym, ap, ◌∙◌, arith, length-append, sum_by}
use Rattle.std.specs.List.{onto_first, join_with_byte}
use Rattle.std.proofs.lemmas.List.Splits.{length-slice_split, join_with_byte-slice_split}
use Rattle.std.proofs.lemmas.List.Sums.{sum_by-cons}
use Rattle.text_doc.specs.Lines.{lines_of}
use Rattle.text_rows.specs.Places.{last_line}

pub some_lines : (text : List ℕ) → 1 ≤ length (lines_of text)
some_lines text = omega (arith, length-slice_split (λ c. c == 10) text)

-- the text is its first line, a line feed and the others
join_more : (line : List ℕ) (lines : List (List ℕ)) → 1 ≤ length lines → join_with_byte 10 (line ∷ lines) ≡ line ++ 10 ∷ join_with_byte 10 lines
join_more line [] some = absurd (omega (arith, some))
join_more line (next ∷ lines) some = refl

pub cut_length : (text line rest : List ℕ) → lines_of text ≡ line ∷ lines_of rest → length text ≡ length line + 1 + length rest
cut_length text line rest cut =
    let whole : text ≡ line ++ 10 ∷ rest =
    sym (join_with_byte-slice_split 10 text) ∙ ap (join_with_byte 10) cut ∙ join_more line (lines_of rest) (some_lines rest)
    ∙ ap (λ (those : List ℕ). line ++ 10 ∷ those) (join_with_byte-slice_split 10 rest)
    in
    omega (arith, ap length whole, length-append line (10 ∷ rest))

pub last-cons : (line : List ℕ) (lines : List (List ℕ)) → 1 ≤ length lines → last_line (line ∷ lines) ≡ last_line lines
last-cons line [] some = absurd (omega (arith, some))
last-cons line (next ∷ lines) some =
    let none : List ℕ = [] in
    let place : length (line ∷ next ∷ lines) - 1 ≡ suc (length (next ∷ lines) - 1) = omega arith in
    ap (λ (n : ℕ). get_or (line ∷ next ∷ lines) n none) place

pub last-cut : (text line rest : List ℕ) → lines_of text ≡ line ∷ lines_of rest → last_line (lines_of rest) ≡ last_line (lines_of text)
last-cut text line rest cut = sym (ap last_line cut ∙ last-cons line (lines_of rest) (some_lines rest))

-- ---- the lines of a front of a text

-- some lines are those of a front: as many, and the last one begins the line with its number
abbrev pub AreFront : List (List ℕ) → List (List ℕ) → Type 0
AreFront [] lines = ⊥
AreFront (part ∷ []) [] = ⊥
AreFront (part ∷ []) (line ∷ lines) = (more : List ℕ) × (line ≡ part ++ more)
AreFront (part ∷ next ∷ parts) [] = ⊥
AreFront (part ∷ next ∷ parts) (line ∷ lines) = AreFront (next ∷ parts) lines

front-onto : (c : ℕ) (parts lines : List (List ℕ)) → AreFront parts lines → AreFront (onto_first c parts) (onto_first c lines)
front-onto c [] lines front = absurd front
front-onto c (part ∷ []) [] front = absurd front
front-onto c (part ∷ []) (line ∷ lines) front = (front.0, ap (λ (those : List ℕ). c ∷ those) front.1)
front-onto c (part ∷ next ∷ parts) [] front = absurd front
front-onto c (part ∷ next ∷ parts) (line ∷ lines) front = front

front-below : (part line : List ℕ) (parts lines : List (List ℕ)) → AreFront parts lines → AreFront (part ∷ parts) (line ∷ lines)
front-below part line [] lines front = absurd front
front-below part line (next ∷ parts) lines front = front

front-by : (b : Bool) (c : ℕ) (parts lines : List (List ℕ)) → AreFront parts lines → AreFront (cond b ([] ∷ parts) (onto_first c parts)) (cond b ([] ∷ lines) (onto_first c lines))
front-by true c parts lines front = front-below [] [] parts lines front
front-by false c parts lines front = front-onto c parts lines front

front-none : (lines : List (List ℕ)) → 1 ≤ length lines → AreFront ([] ∷ []) lines
front-none [] some = absurd (omega (arith, some))
front-none (line ∷ lines) some = (line, refl)

pub front_of : (at : ℕ) (text : List ℕ) → AreFront (lines_of (take at text)) (lines_of text)
front_of zero text = front-none (lines_of text) (some_lines text)
front_of (suc at) [] = ([], refl)
front_of (suc at) (c ∷ text) = front-by (c == 10) c (lines_of (take at text)) (lines_of text) (front_of at text)

-- ---- lines and characters are few

few-by : (b : Bool) (c n : ℕ) (lines : List (List ℕ)) → 1 ≤ length lines → length lines + sum_by length lines ≤ suc n → length (cond b ([] ∷ lines) (onto_first c lines)) + sum_by length (cond b ([] ∷ lines) (onto_first c lines)) ≤ suc (suc n)
few-by true c n lines some few = let none : List ℕ = [] in omega (arith, few, sum_by-cons length none lines)
few-by false c n [] some few = absurd (omega (arith, some))
few-by false c n (line ∷ lines) some few = omega (arith, few, sum_by-cons length line lines, sum_by-cons length (c ∷ line) lines)

pub few_lines : (text : List ℕ) → length (lines_of text) + sum_by length (lines_of text) ≤ suc (length text)
few_lines [] = omega arith
few_lines (c ∷ text) = few-by (c == 10) c (length text) (lines_of text) (some_lines text) (few_lines text)
