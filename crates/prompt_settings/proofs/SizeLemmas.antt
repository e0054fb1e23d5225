-- What is read as a size is what is written for it, and no other text.
use Rattle.std.proofs.Common.{◌≡◌, ℕ, ◌+◌, ◌<◌, ◌≤◌, ◌↔◌, Bool, true, false, List, [], ◌∷◌, ◌++◌, length, get_or, take, drop, Option, Some, None, IsSome, IfSome, nat_le, refl, sym, ap, ◌∙◌, arith, ⊎_elim, length-append}
use Rattle.std.specs.Prelude.{◌==◌, ◌&&◌, decimal, position}
use Rattle.std.specs.Char.{is_ascii_digit}
use Rattle.std.specs.Int.{IsInRange}
use Rattle.std.specs.List.{position_or_len, before_first, after_first}
use Rattle.std.proofs.Math.ListN.{drop_of_length-le, get_or-append}
use Rattle.std.proofs.Math.Seq.{drop-append-add, get_or-append_seam, take-append_seam}
use Rattle.std.proofs.lemmas.Bool.{cases_Bool, cases_lt, cond-true, cond-false, and_parts, and_from, eq-eqb, eqb-true, ne_eqb, le-leb, leb-true, lt-ltb, le-ltb, false≢true}
use Rattle.std.proofs.lemmas.Fmt.{digits_decimal}
use Rattle.std.proofs.lemmas.List.Sums.{passes_at_first, position_or_len_is, split_at_first}
use Rattle.cell_grid.specs.Size.{Extent, IsScreen}
use Rattle.prompt_settings.specs.Number.{number_of}
use Rattle.prompt_settings.specs.Size.{size_from, size_of, spelled_size}
use Rattle.prompt_settings.proofs.NumberLemmas.{digits_are, AreDigits, IsNumber, is_number, may_not_begin, no_number, number_of-decimal}

-- the separator
abbrev is_at : ℕ → ℕ → Bool
is_at separator c = c == separator

-- the place of the first separator
place_is : (separator : ℕ) (text : List ℕ) (at : ℕ) → position (is_at separator) text ≡ Some at → (position_or_len (is_at separator) text ≡ at) × (at < length text)
place_is separator text at found =
    let place = position_or_len (is_at separator) text in
    ⊎_elim
    (λ (inside : place < length text).
    let same : place ≡ at = let h = cond-true _ (Some place) None (lt-ltb place (length text) inside) in cc in
    (same, omega arith))
    (λ (outside : length text ≤ place). absurd (let h = cond-false _ (Some place) None (le-ltb place (length text) outside) in cc))
    (cases_lt place (length text))

no_place : (separator : ℕ) (text : List ℕ) → position (is_at separator) text ≡ None → length text ≤ position_or_len (is_at separator) text
no_place separator text none =
    let place = position_or_len (is_at separator) text in
    ⊎_elim
    (λ (inside : place < length text). absurd (let h = cond-true _ (Some place) None (lt-ltb place (length text) inside) in cc))
    (λ (outside : length text ≤ place). outside)
    (cases_lt place (length text))

size_from-no_cols : (rows : Option ℕ) → size_from rows None ≡ None
size_from-no_cols None = refl
size_from-no_cols (Some rows) = refl

number_of-nil : (most : ℕ) → most ≤ 1000 → number_of most [] ≡ None
number_of-nil most few = sym (no_number most [] (may_not_begin most [] (omega arith) (λ may. omega (arith, may.0))))

-- a text without the separator is no size
pub size_of-uncut : (separator : ℕ) (text : List ℕ) → position (is_at separator) text ≡ None → size_of separator text ≡ None
size_of-uncut separator text none =
    let outside = no_place separator text none in
    let rows = number_of 500 (before_first (is_at separator) text) in
    let behind : after_first (is_at separator) text ≡ [] = drop_of_length-le text (omega arith) in
    ap (λ t. size_from rows (number_of 1000 t)) behind ∙ ap (size_from rows) (number_of-nil 1000 (omega arith)) ∙ size_from-no_cols rows

-- a text that is cut at the first separator
pub size_of-cut : (separator : ℕ) (text : List ℕ) (at : ℕ) → position (is_at separator) text ≡ Some at
    → size_of separator text ≡ size_from (number_of 500 (take at text)) (number_of 1000 (drop (at + 1) text))
size_of-cut separator text at found =
    ap (λ i. size_from (number_of 500 (take i text)) (number_of 1000 (drop (i + 1) text))) (place_is separator text at found).0

-- the size with these numbers of rows and columns, where a screen has it
pub size_from-screen : (rows cols : ℕ) (size : Option Extent) → rows ≤ 500 → cols ≤ 1000 → IsSome size ↔ IsScreen rows cols
    → IfSome size (λ s. s ≡ record { rows = rows; cols = cols }) → size ≡ size_from (Some rows) (Some cols)
size_from-screen rows cols None few narrow within value =
    let test : Bool = nat_le 1 rows && nat_le 1 cols in
    ⊎_elim
    (λ (yes : test ≡ true).
    let both = and_parts (nat_le 1 rows) (nat_le 1 cols) yes in
    absurd (false≢true (within.1 (leb-true 1 rows both.0, few, leb-true 1 cols both.1, narrow))))
    (λ (no : test ≡ false). sym (cond-false test (Some (record { rows = rows; cols = cols })) None no))
    (cases_Bool test)
size_from-screen rows cols (Some size) few narrow within value =
    let screen : IsScreen rows cols = within.0 refl in
    ap (λ s. Some s) value
    ∙ sym (cond-true (nat_le 1 rows && nat_le 1 cols) (Some (record { rows = rows; cols = cols })) None
    (and_from (nat_le 1 rows) (nat_le 1 cols) (le-leb 1 rows screen.0) (le-leb 1 cols screen.2)))

-- what a size that was read tells of the text before and behind the separator
pub record IsSize (before behind : List ℕ) (size : Extent) : Type 0 where
  pub rows : IsNumber 500 before size.rows
  pub cols : IsNumber 1000 behind size.cols
  pub screen : IsScreen size.rows size.cols

sizes_from : (before behind : List ℕ) (rows cols : Option ℕ) (size : Extent) → number_of 500 before ≡ rows → number_of 1000 behind ≡ cols
    → size_from rows cols ≡ Some size → IsSize before behind size
sizes_from before behind None cols size of_rows of_cols read = absurd (cc)
sizes_from before behind (Some rows) None size of_rows of_cols read = absurd (cc)
sizes_from before behind (Some rows) (Some cols) size of_rows of_cols read =
    let test : Bool = nat_le 1 rows && nat_le 1 cols in
    let whole : Extent = record { rows = rows; cols = cols } in
    ⊎_elim
    (λ (yes : test ≡ true).
    let both = and_parts (nat_le 1 rows) (nat_le 1 cols) yes in
    let same : whole ≡ size = let h = cond-true test (Some whole) None yes in cc in
    let rows_are : rows ≡ size.rows = ap (λ (s : Extent). s.rows) same in
    let cols_are : cols ≡ size.cols = ap (λ (s : Extent). s.cols) same in
    let high = is_number 500 before size.rows (of_rows ∙ ap (λ n. Some n) rows_are) in
    let wide = is_number 1000 behind size.cols (of_cols ∙ ap (λ n. Some n) cols_are) in
    record {
      rows = high;
      cols = wide;
      screen = (omega (arith, rows_are, leb-true 1 rows both.0), high.within, omega (arith, cols_are, leb-true 1 cols both.1), wide.within);
    })
    (λ (no : test ≡ false). absurd (let h = cond-false test (Some whole) None no in cc))
    (cases_Bool test)

-- a size that is read is what the text is written for
pub is_size : (separator : ℕ) (text : List ℕ) (size : Extent) → size_of separator text ≡ Some size
    → (text ≡ spelled_size separator size) × IsScreen size.rows size.cols
is_size separator text size read =
    let place = position_or_len (is_at separator) text in
    let before = before_first (is_at separator) text in
    let behind = after_first (is_at separator) text in
    let parts = sizes_from before behind (number_of 500 before) (number_of 1000 behind) size refl refl read in
    ⊎_elim
    (λ (inside : place < length text).
    let mark : get_or text place 0 ≡ separator = eqb-true (get_or text place 0) separator (passes_at_first (is_at separator) text 0 inside) in (
      split_at_first (is_at separator) text 0 inside
          ∙ ap (λ c. before ++ c ∷ behind) mark
          ∙ ap (λ t. t ++ separator ∷ behind) parts.rows.written
          ∙ ap (λ t. decimal size.rows ++ separator ∷ t) parts.cols.written,
      parts.screen,
    ))
    (λ (outside : length text ≤ place).
    let nothing : behind ≡ [] = drop_of_length-le text (omega arith) in
    absurd (may_not_begin 1000 behind (omega arith) (λ may. omega (arith, may.0, ap length nothing)) size.cols parts.cols))
    (cases_lt place (length text))

-- each size of a screen is read from what it is written as
pub size_of-spelled : (separator : ℕ) (size : Extent) → is_ascii_digit separator ≡ false → IsScreen size.rows size.cols
    → size_of separator (spelled_size separator size) ≡ Some size
size_of-spelled separator size no_digit screen =
    let front = decimal size.rows in
    let tail = decimal size.cols in
    let text = spelled_size separator size in
    let digits : AreDigits front = digits_decimal digits_are size.rows (omega (arith, screen.1)) in
    let other : (c : ℕ) → IsInRange 48 57 c → c == separator ≡ false = λ c digit.
    ne_eqb c separator (λ same. false≢true (sym no_digit ∙ and_from (nat_le 48 separator) (nat_le separator 57)
    (le-leb 48 separator (omega (arith, digit.0))) (le-leb separator 57 (omega (arith, digit.1))))) in
    let place : position_or_len (is_at separator) text ≡ length front =
    position_or_len_is (is_at separator) text (length front) 0 (omega (arith, length-append front (separator ∷ tail)))
    (λ k below. ap (is_at separator) (get_or-append front (separator ∷ tail) 0 k below) ∙ other (get_or front k 0) (digits k below))
    (λ inside. eq-eqb (get_or text (length front) 0) separator (get_or-append_seam front separator tail 0)) in
    let before : before_first (is_at separator) text ≡ front =
    ap (λ i. take i text) place ∙ take-append_seam front (separator ∷ tail) in
    let behind : after_first (is_at separator) text ≡ tail =
    ap (λ i. drop (i + 1) text) place ∙ drop-append-add front (separator ∷ tail) 1 in
    ap (λ t. size_from (number_of 500 t) (number_of 1000 (after_first (is_at separator) text))) before
    ∙ ap (λ t. size_from (number_of 500 front) (number_of 1000 t)) behind
    ∙ ap (λ n. size_from n (number_of 1000 tail)) (number_of-decimal 500 size.rows (omega arith) screen.1)
    ∙ ap (size_from (Some size.rows)) (number_of-decimal 1000 size.cols (omega arith) screen.3)
    ∙ cond-true (nat_le 1 size.rows && nat_le 1 size.cols) (Some size) None
    (and_from (nat_le 1 size.rows) (nat_le 1 size.cols) (le-leb 1 size.rows screen.0) (le-leb 1 size.cols screen.2))
