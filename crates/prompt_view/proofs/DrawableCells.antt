-- Each cell of a scene's text can be drawn, where its attributes can.
use Rattle.std.proofs.Common.{Bool, true, false, if◌then◌else◌, ◌≡◌, ℕ, ◌+◌, ◌-◌, ◌/◌, ◌%◌, ◌≤◌, ◌<◌, nat_eq, nat_lt, refl, sym, ◌∙◌, ap, List, [], ◌∷◌, ◌++◌, length, map, replicate, All, Option, Some, None, arith}
use Rattle.std.specs.Prelude.{unwrap_or}
use Rattle.std.specs.Option.{is_none}
use Rattle.std.proofs.lemmas.Bool.{eqb-true, false≢true}
use Rattle.std.proofs.lemmas.Bool.Decides.{nat_tests}
use Rattle.std.proofs.lemmas.List.Elements.{All-append, All-cons, All-head, All-nil, All-replicate, All-tail}
use Rattle.unicode_width.specs.Width.{char_width}
use Rattle.cell_grid.specs.declared.attrs.Attrs.{Attrs}
use Rattle.cell_grid.specs.declared.cell.Cell.{Cell}
use Rattle.cell_grid.specs.declared.cell.Cell.TheVariants.{Lead, Tail}
use Rattle.cell_grid.specs.Cell.{joined, narrow, spread}
use Rattle.cell_grid.specs.Drawable.{AllDrawable, AllJoining, AllRowsDrawable, IsDrawable, IsPen}
use Rattle.cell_grid.specs.TextCells.{has_lead, hex_digit, is_control, joined_last, lead_of, spelled, with_char, with_chars, with_next}
use Rattle.cell_grid.proofs.ReplacementWidth.{replacement_width}

-- ---- one cell

-- a character is a control character exactly where it has no width
control_or_width : (char : ℕ) → is_control char ≡ is_none (char_width false char)
unfolding char_width
control_or_width char = grind (arith, nat_tests)

width_is : (char : ℕ) → is_control char ≡ false → char_width false char ≡ Some (unwrap_or (char_width false char) 0)
width_is char other = by (char_width false char) (sym (control_or_width char) ∙ other)
  where
    by : (width : Option ℕ) → is_none width ≡ false → width ≡ Some (unwrap_or width 0)
    by None none = absurd (false≢true (sym none))
    by (Some width) some = refl

printable_width : (char : ℕ) → 32 ≤ char → char ≤ 126 → char_width false char ≡ Some 1
unfolding char_width
printable_width char low high = grind (arith, nat_tests)

pub narrow_drawable : (char : ℕ) (attrs : Attrs) → IsPen attrs → 32 ≤ char → char ≤ 126 → IsDrawable (narrow char attrs)
narrow_drawable char attrs pen low high = ((printable_width char low high, tt), pen)

pub replacement_drawable : (attrs : Attrs) → IsPen attrs → IsDrawable (narrow 65533 attrs)
replacement_drawable attrs pen = ((replacement_width, tt), pen)

-- ---- the spelling of a control character

hex_printable : (digit : ℕ) → digit < 16 → (32 ≤ hex_digit digit) × (hex_digit digit ≤ 126)
hex_printable digit small = by (nat_lt digit 10) refl
  where
    by : (b : Bool) → nat_lt digit 10 ≡ b → (32 ≤ (if b then 48 + digit else 87 + digit)) × ((if b then 48 + digit else 87 + digit) ≤ 126)
    by true low = (omega arith, omega (arith, small))
    by false high = (omega arith, omega (arith, small))

hex_drawable : (digit : ℕ) (attrs : Attrs) → IsPen attrs → digit < 16 → IsDrawable (narrow (hex_digit digit) attrs)
hex_drawable digit attrs pen small =
    let printable = hex_printable digit small in narrow_drawable (hex_digit digit) attrs pen printable.0 printable.1

two : (a b : Cell) → IsDrawable a → IsDrawable b → All IsDrawable (a ∷ b ∷ [])
two a b one other = All-cons IsDrawable a (b ∷ []) one (All-cons IsDrawable b [] other (All-nil IsDrawable))

spelled_drawable : (char : ℕ) (attrs : Attrs) → IsPen attrs → is_control char ≡ true → All IsDrawable (map (λ piece. narrow piece attrs) (spelled char))
spelled_drawable char attrs pen control = by (nat_lt char 32) (nat_eq char 127) refl
  where
    few : nat_lt char 32 ≡ false → char < 160
    few high = grind (arith, nat_tests)

    by : (low last : Bool) → nat_lt char 32 ≡ low
        → All IsDrawable (map (λ piece. narrow piece attrs) (if low then 94 ∷ (64 + char) ∷ [] else if last then 94 ∷ 63 ∷ [] else 60 ∷ hex_digit (char / 16) ∷ hex_digit (char % 16) ∷ 62 ∷ []))
    by true last is =
        let small : char < 32 = grind (arith, nat_tests) in
        two (narrow 94 attrs) (narrow (64 + char) attrs) (narrow_drawable 94 attrs pen (omega arith) (omega arith)) (narrow_drawable (64 + char) attrs pen (omega arith) (omega (arith, small)))
    by false true is = two (narrow 94 attrs) (narrow 63 attrs) (narrow_drawable 94 attrs pen (omega arith) (omega arith)) (narrow_drawable 63 attrs pen (omega arith) (omega arith))
    by false false is =
        let most : char < 160 = few is in
        All-append IsDrawable (narrow 60 attrs ∷ narrow (hex_digit (char / 16)) attrs ∷ []) (narrow (hex_digit (char % 16)) attrs ∷ narrow 62 attrs ∷ [])
        (two (narrow 60 attrs) (narrow (hex_digit (char / 16)) attrs) (narrow_drawable 60 attrs pen (omega arith) (omega arith)) (hex_drawable (char / 16) attrs pen (omega (arith, most))))
        (two (narrow (hex_digit (char % 16)) attrs) (narrow 62 attrs) (hex_drawable (char % 16) attrs pen (omega arith)) (narrow_drawable 62 attrs pen (omega arith) (omega arith)))

-- ---- a character of no width

joining-more : (chars : List ℕ) (next : ℕ) → AllJoining chars → char_width false next ≡ Some 0 → AllJoining (chars ++ next ∷ [])
joining-more [] next all width = (width, tt)
joining-more (c ∷ cs) next all width = (all.0, joining-more cs next all.1 width)

joined_drawable : (cell : Cell) (next : ℕ) → IsDrawable cell → char_width false next ≡ Some 0 → IsDrawable (joined cell next)
joined_drawable Tail next drawable width = tt
joined_drawable (Lead [] columns attrs) next drawable width = absurd drawable.0
joined_drawable (Lead (c ∷ cs) columns attrs) next drawable width = by (nat_lt (length (c ∷ cs)) 8)
  where
    by : (b : Bool) → IsDrawable (Lead (if b then c ∷ cs ++ next ∷ [] else c ∷ cs) columns attrs)
    by true = ((drawable.0.0, joining-more cs next drawable.0.1 width), drawable.1)
    by false = drawable

joined_last_drawable : (cells : List Cell) (next : ℕ) → All IsDrawable cells → char_width false next ≡ Some 0 → All IsDrawable (joined_last cells next)
joined_last_drawable [] next all width = all
joined_last_drawable (Tail ∷ cells) next all width =
    All-cons IsDrawable Tail (joined_last cells next) tt (joined_last_drawable cells next (All-tail IsDrawable Tail cells all) width)
joined_last_drawable (Lead text columns attrs ∷ cells) next all width =
    by (has_lead cells) (joined_last_drawable cells next (All-tail IsDrawable (Lead text columns attrs) cells all) width)
  where
    by : (b : Bool) → All IsDrawable (joined_last cells next)
        → All IsDrawable (if b then Lead text columns attrs ∷ joined_last cells next else joined (Lead text columns attrs) next ∷ cells)
    by true rest = All-cons IsDrawable (Lead text columns attrs) (joined_last cells next) (All-head IsDrawable (Lead text columns attrs) cells all) rest
    by false rest =
        All-cons IsDrawable (joined (Lead text columns attrs) next) cells
        (joined_drawable (Lead text columns attrs) next (All-head IsDrawable (Lead text columns attrs) cells all) width)
        (All-tail IsDrawable (Lead text columns attrs) cells all)

-- ---- the cells of a text

lead_drawable : (char width : ℕ) (attrs : Attrs) → IsPen attrs → char_width false char ≡ Some width → All IsDrawable (spread (lead_of char width attrs))
lead_drawable char width attrs pen is = by (nat_lt 2 width)
  where
    by : (b : Bool) → All IsDrawable (spread (if b then narrow 65533 attrs else Lead (char ∷ []) width attrs))
    by true = All-cons IsDrawable (narrow 65533 attrs) [] (replacement_drawable attrs pen) (All-nil IsDrawable)
    by false = All-cons IsDrawable (Lead (char ∷ []) width attrs) (replicate (width - 1) Tail) ((is, tt), pen) (All-replicate IsDrawable (width - 1) Tail tt)

char_drawable : (attrs : Attrs) (cells : List Cell) (char width : ℕ) → IsPen attrs → All IsDrawable cells → char_width false char ≡ Some width → All IsDrawable (with_char cells char width attrs)
char_drawable attrs cells char width pen all is = by (nat_eq char 160) (nat_eq width 0) refl
  where
    by : (space none : Bool) → nat_eq width 0 ≡ none
        → All IsDrawable (if space then cells ++ narrow 32 attrs ∷ [] else if none then joined_last cells char else cells ++ spread (lead_of char width attrs))
    by true none same =
        All-append IsDrawable cells (narrow 32 attrs ∷ []) all (All-cons IsDrawable (narrow 32 attrs) [] (narrow_drawable 32 attrs pen (omega arith) (omega arith)) (All-nil IsDrawable))
    by false true same = joined_last_drawable cells char all (is ∙ ap (λ (w : ℕ). Some w) (eqb-true width 0 same))
    by false false same = All-append IsDrawable cells (spread (lead_of char width attrs)) all (lead_drawable char width attrs pen is)

next_drawable : (attrs control : Attrs) (cells : List Cell) (char : ℕ) → IsPen attrs → IsPen control → All IsDrawable cells → All IsDrawable (with_next attrs control cells char)
next_drawable attrs control cells char pen other all = by (is_control char) refl
  where
    by : (b : Bool) → is_control char ≡ b
        → All IsDrawable (if b then cells ++ map (λ piece. narrow piece control) (spelled char) else with_char cells char (unwrap_or (char_width false char) 0) attrs)
    by true is = All-append IsDrawable cells (map (λ piece. narrow piece control) (spelled char)) all (spelled_drawable char control other is)
    by false is = char_drawable attrs cells char (unwrap_or (char_width false char) 0) pen all (width_is char is)

pub chars_drawable : (attrs control : Attrs) (cells : List Cell) (chars : List ℕ) → IsPen attrs → IsPen control → All IsDrawable cells → All IsDrawable (with_chars attrs control cells chars)
chars_drawable attrs control cells [] pen other all = all
chars_drawable attrs control cells (c ∷ cs) pen other all =
    chars_drawable attrs control (with_next attrs control cells c) cs pen other (next_drawable attrs control cells c pen other all)

-- ---- as `diff_render` asks it

all_drawable : (cells : List Cell) → All IsDrawable cells → AllDrawable cells
all_drawable [] all = tt
all_drawable (cell ∷ cells) all = (All-head IsDrawable cell cells all, all_drawable cells (All-tail IsDrawable cell cells all))

pub rows_drawable : (rows : List (List Cell)) → All (λ row. All IsDrawable row) rows → AllRowsDrawable rows
rows_drawable [] all = tt
rows_drawable (row ∷ rows) all = (
  all_drawable row (All-head (λ cells. All IsDrawable cells) row rows all),
  rows_drawable rows (All-tail (λ cells. All IsDrawable cells) row rows all),
)
