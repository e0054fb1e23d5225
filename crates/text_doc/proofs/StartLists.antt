-- Where the row starts of a text stand in their list, and how the list parts where its text is parted.
use Prim.Native.Nat.{zero, suc}
use Rattle.std.proofs.Common.{◌≡◌, ℕ, ◌+◌, ◌-◌, ◌<◌, ◌≤◌, Bool, true, false, cond, List, [], ◌∷◌, ◌++◌, length, map, take, drop, get_or, refl, sym, ap, ◌∙◌, arith, eqb, inl, inr}
use Rattle.std.specs.List.{count_by}
use Rattle.std.proofs.lemmas.List.{length-append, length-take-le, get_or_append_left, get_or-append_right, take-append-drop}
use Rattle.std.proofs.lemmas.List.Sums.{count_by-le-length, sum_by-cons}
use Rattle.std.proofs.lemmas.Bool.{cases_lt}
use Rattle.std.proofs.lemmas.Bool.Decides.{nat_tests}
use Rattle.text_doc.specs.Rows.{row_of}
use Rattle.text_doc.specs.RowStarts.{starts_from, row_starts}

append_if : (here : Bool) (x : ℕ) (all front back : List ℕ) → all ≡ front ++ back → cond here (x ∷ all) all ≡ cond here (x ∷ front) front ++ back
append_if true x all front back is = ap (λ xs. x ∷ xs) is
append_if false x all front back is = is

-- the row starts of a text of two parts
pub starts_from-append : (at b : ℕ) (xs ys : List ℕ) → b ≡ at + length xs → starts_from at (xs ++ ys) ≡ starts_from at xs ++ starts_from b ys
starts_from-append at b [] ys is = let same : at ≡ b = omega arith in ap (λ n. starts_from n ys) same
starts_from-append at b (c ∷ xs) ys is =
    append_if (eqb c 10) (at + 1) (starts_from (at + 1) (xs ++ ys)) (starts_from (at + 1) xs) (starts_from b ys)
    (starts_from-append (at + 1) b xs ys (omega arith))

shift_if : (here : Bool) (x y n : ℕ) (low high : List ℕ) → y ≡ x + n → high ≡ map (λ p. p + n) low → cond here (y ∷ high) high ≡ map (λ p. p + n) (cond here (x ∷ low) low)
shift_if true x y n low high first is = rw (first, is) refl
shift_if false x y n low high first is = is

-- the row starts of a text that stands elsewhere
pub starts_from-shift : (at n b : ℕ) (xs : List ℕ) → b ≡ at + n → starts_from b xs ≡ map (λ p. p + n) (starts_from at xs)
starts_from-shift at n b [] is = refl
starts_from-shift at n b (c ∷ xs) is =
    shift_if (eqb c 10) (at + 1) (b + 1) n (starts_from (at + 1) xs) (starts_from (b + 1) xs) (omega arith) (starts_from-shift (at + 1) n (b + 1) xs (omega arith))

count_if : (here : Bool) (x n : ℕ) (xs : List ℕ) → length xs ≡ n → length (cond here (x ∷ xs) xs) ≡ cond here 1 0 + n
count_if true x n xs is = omega arith
count_if false x n xs is = omega arith

-- a row starts behind each line feed
pub length-starts_from : (at : ℕ) (xs : List ℕ) → length (starts_from at xs) ≡ count_by (λ c. eqb c 10) xs
length-starts_from at [] = refl
length-starts_from at (c ∷ xs) =
    count_if (eqb c 10) (at + 1) (count_by (λ c. eqb c 10) xs) (starts_from (at + 1) xs) (length-starts_from (at + 1) xs)
    ∙ sym (sum_by-cons (λ c. cond (eqb c 10) 1 0) c xs)

pub length_row_starts : (xs : List ℕ) → length (row_starts xs) ≡ count_by (λ c. eqb c 10) xs
length_row_starts xs = length-starts_from 0 xs

pub length-starts_from-le : (at : ℕ) (xs : List ℕ) → length (starts_from at xs) ≤ length xs
length-starts_from-le at xs = rw (length-starts_from at xs) (count_by-le-length (λ c. eqb c 10) xs)

-- a place of a text that stands at `at`, behind a line feed
pub record IsStart (text : List ℕ) (at place : ℕ) : Type 0 where
  pub above : at < place
  pub within : place ≤ at + length text
  pub feed : get_or text (place - at - 1) 0 ≡ 10

IsStart-later : (c at place : ℕ) (text : List ℕ) → IsStart text (at + 1) place → IsStart (c ∷ text) at place
IsStart-later c at place text is =
    let above = is.above in
    let within = is.within in
    let next : place - at - 1 ≡ suc (place - (at + 1) - 1) = omega arith in
    record { above = omega arith; within = omega arith; feed = rw next is.feed }

IsStart-if : (c : ℕ) (here : Bool) → eqb c 10 ≡ here → (at : ℕ) (text : List ℕ) (k : ℕ) → k < length (cond here ((at + 1) ∷ starts_from (at + 1) text) (starts_from (at + 1) text))
    → ((i : ℕ) → i < length (starts_from (at + 1) text) → IsStart text (at + 1) (get_or (starts_from (at + 1) text) i 0))
    → IsStart (c ∷ text) at (get_or (cond here ((at + 1) ∷ starts_from (at + 1) text) (starts_from (at + 1) text)) k 0)
IsStart-if c true is at text zero below rest =
    let first : at + 1 - at - 1 ≡ 0 = omega arith in
    record { above = omega arith; within = omega arith; feed = rw first (grind (arith, nat_tests)) }
IsStart-if c true is at text (suc k) below rest = IsStart-later c at (get_or (starts_from (at + 1) text) k 0) text (rest k (omega arith))
IsStart-if c false is at text k below rest = IsStart-later c at (get_or (starts_from (at + 1) text) k 0) text (rest k below)

-- each of the row starts is one
pub IsStart-nth : (at : ℕ) (text : List ℕ) (k : ℕ) → k < length (starts_from at text) → IsStart text at (get_or (starts_from at text) k 0)
IsStart-nth at [] k below = absurd (omega arith)
IsStart-nth at (c ∷ text) k below = IsStart-if c (eqb c 10) refl at text k below (IsStart-nth (at + 1) text)

-- as many row starts stand before a place as its row has rows before it
pub row_of-starts : (text : List ℕ) (place : ℕ) → length (row_starts (take place text)) ≡ row_of text place
unfolding row_of
row_of-starts text place = length-starts_from 0 (take place text)

-- the row starts up to a place, and those behind it
pub row_starts-parted : (text : List ℕ) (place : ℕ) → place ≤ length text → row_starts text ≡ row_starts (take place text) ++ starts_from place (drop place text)
row_starts-parted text place within =
    let size : place ≡ 0 + length (take place text) = omega (arith, length-take-le place text within) in
    ap row_starts (sym (take-append-drop place text)) ∙ starts_from-append 0 place (take place text) (drop place text) size

-- the row starts with a number less than that of a place's row are those up to the place
pub record IsSided (text : List ℕ) (place k start : ℕ) : Type 0 where
  pub before : k < row_of text place → start ≤ place
  pub behind : row_of text place ≤ k → place < start

pub IsSided-nth : (text : List ℕ) (place k : ℕ) → place ≤ length text → k < length (row_starts text) → IsSided text place k (get_or (row_starts text) k 0)
IsSided-nth text place k within below =
    let front : List ℕ = row_starts (take place text) in
    let back : List ℕ = starts_from place (drop place text) in
    let parted : row_starts text ≡ front ++ back = row_starts-parted text place within in
    let number : length front ≡ row_of text place = row_of-starts text place in
    let all : length (row_starts text) ≡ length front + length back = ap length parted ∙ length-append front back in
    record {
      before = λ less.
          let in_front : k < length front = omega arith in
          let is : get_or (row_starts text) k 0 ≡ get_or front k 0 = ap (λ xs. get_or xs k 0) parted ∙ get_or_append_left front back 0 k in_front in
          let start = IsStart-nth 0 (take place text) k in_front in
          let top = start.within in
          let size = length-take-le place text within in
          omega arith;
      behind = λ more.
          let past : length front ≤ k = omega arith in
          let is : get_or (row_starts text) k 0 ≡ get_or back (k - length front) 0 = ap (λ xs. get_or xs k 0) parted ∙ get_or-append_right front back (length front) k 0 refl past in
          let start = IsStart-nth place (drop place text) (k - length front) (omega arith) in
          let above = start.above in
          omega arith;
    }

-- a search for the row of a place has come to a row that starts up to the place, or behind it
pub is_reached : (text : List ℕ) (place k : ℕ) → place ≤ length text → k < length (row_starts text) → get_or (row_starts text) k 0 ≤ place → k < row_of text place
is_reached text place k within below reached = elim (cases_lt k (row_of text place)) [
  | inl less ↦ less
  | inr more ↦ (let side = IsSided-nth text place k within below in let behind = side.behind more in absurd (omega arith))
]

pub is_not_reached : (text : List ℕ) (place k : ℕ) → place ≤ length text → k < length (row_starts text) → place < get_or (row_starts text) k 0 → row_of text place ≤ k
is_not_reached text place k within below not_reached = elim (cases_lt k (row_of text place)) [
  | inl less ↦ (let side = IsSided-nth text place k within below in let before = side.before less in absurd (omega arith))
  | inr more ↦ more
]

-- a place is in no later row than the last
pub row_of-within : (text : List ℕ) (place : ℕ) → place ≤ length text → row_of text place ≤ length (row_starts text)
row_of-within text place within =
    omega (arith, row_of-starts text place, ap length (row_starts-parted text place within), length-append (row_starts (take place text)) (starts_from place (drop place text)))
