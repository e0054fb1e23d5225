-- What the sequence of a pen reads as, and how long it is.
use Rattle.std.proofs.Common.{◌≡◌, ℕ, ◌+◌, ◌-◌, ◌<◌, ◌≤◌, Bool, true, false, List, [], ◌∷◌, ◌++◌, length, ◌||◌}
use Rattle.std.proofs.Common.{nat_eq, nat_lt, nat_le, Option, Some, None, refl, ap, ◌∙◌, arith, append_assoc}
use Rattle.std.proofs.Common.{append-nil, length-append, ⊎_elim, if◌then◌else◌}
use Rattle.std.specs.Int.{is_in_range}
use Rattle.std.specs.Fmt.{decimal}
use Rattle.std.proofs.lemmas.Fmt.{length-decimal-le}
use Rattle.std.proofs.lemmas.Bool.{cases_lt, and_from}
use Rattle.std.proofs.lemmas.Bool.Decides.{nat_tests}
use Rattle.cell_grid.specs.declared.attrs.Attrs.{Attrs}
use Rattle.cell_grid.specs.declared.attrs.Colour.{Colour}
use Rattle.cell_grid.specs.declared.attrs.Colour.TheVariants.{Ansi, Rgb}
use Rattle.cell_grid.specs.Attrs.{plain}
use Rattle.term_model.specs.Rendition.{styled, styled_past, styled_by, styled_once, direct_colour, taken_by}
use Rattle.cell_grid.specs.Drawable.{IsColour, IsPen}
use Rattle.diff_render.specs.Spelling.{flagged, coloured, listed, listed_by, numbers_of, joined, colour_over}
use Rattle.diff_render.specs.Spelling.{spelled_pen, IsByteColour, IsBytePen}
use Rattle.diff_render.proofs.Reading.{AllSmall, listed-append}

-- ---- what the numbers do

-- a number that begins no direct colour
next : (p : Attrs) (n : ℕ) (ns : List ℕ) → nat_eq n 38 ≡ false → nat_eq n 48 ≡ false → styled_past 0 p (n ∷ ns) ≡ styled_past 0 (styled_once p n) ns
next p n ns a b = rw (a, b) refl

bold_next : (p : Attrs) (b : Bool) (rest : List ℕ) → styled_past 0 p (flagged 1 b ++ rest) ≡ styled_past 0 (record p { bold = b || p.bold }) rest
bold_next p true rest = next p 1 rest refl refl
bold_next p false rest = refl

italic_next : (p : Attrs) (b : Bool) (rest : List ℕ) → styled_past 0 p (flagged 3 b ++ rest) ≡ styled_past 0 (record p { italic = b || p.italic }) rest
italic_next p true rest = next p 3 rest refl refl
italic_next p false rest = refl

underline_next : (p : Attrs) (b : Bool) (rest : List ℕ) → styled_past 0 p (flagged 4 b ++ rest) ≡ styled_past 0 (record p { underline = b || p.underline }) rest
underline_next p true rest = next p 4 rest refl refl
underline_next p false rest = refl

blink_next : (p : Attrs) (b : Bool) (rest : List ℕ) → styled_past 0 p (flagged 5 b ++ rest) ≡ styled_past 0 (record p { blink = b || p.blink }) rest
blink_next p true rest = next p 5 rest refl refl
blink_next p false rest = refl

reverse_next : (p : Attrs) (b : Bool) (rest : List ℕ) → styled_past 0 p (flagged 7 b ++ rest) ≡ styled_past 0 (record p { reverse = b || p.reverse }) rest
reverse_next p true rest = next p 7 rest refl refl
reverse_next p false rest = refl

hidden_next : (p : Attrs) (b : Bool) (rest : List ℕ) → styled_past 0 p (flagged 8 b ++ rest) ≡ styled_past 0 (record p { hidden = b || p.hidden }) rest
hidden_next p true rest = next p 8 rest refl refl
hidden_next p false rest = refl

strike_next : (p : Attrs) (b : Bool) (rest : List ℕ) → styled_past 0 p (flagged 9 b ++ rest) ≡ styled_past 0 (record p { strike = b || p.strike }) rest
strike_next p true rest = next p 9 rest refl refl
strike_next p false rest = refl

-- a number above those of the flags that begins no direct colour
high_once : (p : Attrs) (n : ℕ) → 30 ≤ n → styled_once p n ≡
    (if is_in_range 30 37 n then record p { fg = Some (Ansi (n - 30)) }
    else if is_in_range 40 47 n then record p { bg = Some (Ansi (n - 40)) }
    else if is_in_range 90 97 n then record p { fg = Some (Ansi (n - 82)) }
    else if is_in_range 100 107 n then record p { bg = Some (Ansi (n - 92)) }
    else p)
high_once p n h =
    let a : nat_eq n 0 ≡ false = grind (arith, nat_tests) in
    let b : nat_eq n 1 ≡ false = grind (arith, nat_tests) in
    let c : nat_eq n 3 ≡ false = grind (arith, nat_tests) in
    let d : nat_eq n 4 ≡ false = grind (arith, nat_tests) in
    let e : nat_eq n 5 ≡ false = grind (arith, nat_tests) in
    let f : nat_eq n 7 ≡ false = grind (arith, nat_tests) in
    let g : nat_eq n 8 ≡ false = grind (arith, nat_tests) in
    let k : nat_eq n 9 ≡ false = grind (arith, nat_tests) in
    rw (a, b, c, d, e, f, g, k) refl

in_range : (low high n : ℕ) → low ≤ n → n ≤ high → is_in_range low high n ≡ true
in_range low high n a b = and_from (nat_le low n) (nat_le n high) (grind (arith, nat_tests)) (grind (arith, nat_tests))

above_range : (low high n : ℕ) → high < n → is_in_range low high n ≡ false
above_range low high n a = grind (arith, nat_tests)

fg_ansi : (p : Attrs) (m n : ℕ) (rest : List ℕ) → is_in_range 30 37 m ≡ true → m ≡ 30 + n → n < 8 → styled_past 0 p (m ∷ rest) ≡ styled_past 0 (record p { fg = Some (Ansi n) }) rest
fg_ansi p m n rest r e h =
    let a : nat_eq m 38 ≡ false = grind (arith, nat_tests) in
    let b : nat_eq m 48 ≡ false = grind (arith, nat_tests) in
    let is : m - 30 ≡ n = omega arith in
    next p m rest a b ∙ ap (λ q. styled_past 0 q rest) (high_once p m (omega arith) ∙ rw (r, is) refl)

fg_bright : (p : Attrs) (m n : ℕ) (rest : List ℕ) → is_in_range 90 97 m ≡ true → m ≡ 82 + n → 8 ≤ n → styled_past 0 p (m ∷ rest) ≡ styled_past 0 (record p { fg = Some (Ansi n) }) rest
fg_bright p m n rest r e h =
    let a : nat_eq m 38 ≡ false = grind (arith, nat_tests) in
    let b : nat_eq m 48 ≡ false = grind (arith, nat_tests) in
    let c : is_in_range 30 37 m ≡ false = above_range 30 37 m (omega arith) in
    let d : is_in_range 40 47 m ≡ false = above_range 40 47 m (omega arith) in
    let is : m - 82 ≡ n = omega arith in
    next p m rest a b ∙ ap (λ q. styled_past 0 q rest) (high_once p m (omega arith) ∙ rw (c, d, r, is) refl)

bg_ansi : (p : Attrs) (m n : ℕ) (rest : List ℕ) → is_in_range 40 47 m ≡ true → m ≡ 40 + n → n < 8 → styled_past 0 p (m ∷ rest) ≡ styled_past 0 (record p { bg = Some (Ansi n) }) rest
bg_ansi p m n rest r e h =
    let a : nat_eq m 38 ≡ false = grind (arith, nat_tests) in
    let b : nat_eq m 48 ≡ false = grind (arith, nat_tests) in
    let c : is_in_range 30 37 m ≡ false = above_range 30 37 m (omega arith) in
    let is : m - 40 ≡ n = omega arith in
    next p m rest a b ∙ ap (λ q. styled_past 0 q rest) (high_once p m (omega arith) ∙ rw (c, r, is) refl)

bg_bright : (p : Attrs) (m n : ℕ) (rest : List ℕ) → is_in_range 100 107 m ≡ true → m ≡ 92 + n → 8 ≤ n → styled_past 0 p (m ∷ rest) ≡ styled_past 0 (record p { bg = Some (Ansi n) }) rest
bg_bright p m n rest r e h =
    let a : nat_eq m 38 ≡ false = grind (arith, nat_tests) in
    let b : nat_eq m 48 ≡ false = grind (arith, nat_tests) in
    let c : is_in_range 30 37 m ≡ false = above_range 30 37 m (omega arith) in
    let d : is_in_range 40 47 m ≡ false = above_range 40 47 m (omega arith) in
    let g : is_in_range 90 97 m ≡ false = above_range 90 97 m (omega arith) in
    let is : m - 92 ≡ n = omega arith in
    next p m rest a b ∙ ap (λ q. styled_past 0 q rest) (high_once p m (omega arith) ∙ rw (c, d, g, r, is) refl)

direct : (r g b : ℕ) (rest : List ℕ) → r ≤ 255 → g ≤ 255 → b ≤ 255 → direct_colour (2 ∷ r ∷ g ∷ b ∷ rest) ≡ Some (Rgb r g b)
direct r g b rest h k l =
    let x : nat_le r 255 ≡ true = grind (arith, nat_tests) in
    let y : nat_le g 255 ≡ true = grind (arith, nat_tests) in
    let z : nat_le b 255 ≡ true = grind (arith, nat_tests) in
    rw (x, y, z) refl

fg_next : (p : Attrs) (colour : Option Colour) (rest : List ℕ) → IsColour colour → IsByteColour colour
    → styled_past 0 p (coloured 30 colour ++ rest) ≡ styled_past 0 (record p { fg = colour_over colour p.fg }) rest
fg_next p None rest c s = refl
fg_next p (Some (Ansi n)) rest c s = ⊎_elim
    (λ (low : n < 8). let t : nat_lt n 8 ≡ true = grind (arith, nat_tests) in
    ap (λ v. styled_past 0 p ((if v then 30 + n else 30 + 52 + n) ∷ rest)) t ∙ fg_ansi p (30 + n) n rest (in_range 30 37 (30 + n) (omega arith) (omega arith)) refl low)
    (λ (high : 8 ≤ n). let t : nat_lt n 8 ≡ false = grind (arith, nat_tests) in
    ap (λ v. styled_past 0 p ((if v then 30 + n else 30 + 52 + n) ∷ rest)) t ∙ fg_bright p (82 + n) n rest (in_range 90 97 (82 + n) (omega arith) (omega arith)) refl high)
    (cases_lt n 8)
fg_next p (Some (Rgb r g b)) rest c s =
    ap (λ d. styled_past (taken_by d) (styled_by p 38 d) (2 ∷ r ∷ g ∷ b ∷ rest)) (direct r g b rest s.0 s.1 s.2)

bg_next : (p : Attrs) (colour : Option Colour) (rest : List ℕ) → IsColour colour → IsByteColour colour
    → styled_past 0 p (coloured 40 colour ++ rest) ≡ styled_past 0 (record p { bg = colour_over colour p.bg }) rest
bg_next p None rest c s = refl
bg_next p (Some (Ansi n)) rest c s = ⊎_elim
    (λ (low : n < 8). let t : nat_lt n 8 ≡ true = grind (arith, nat_tests) in
    ap (λ v. styled_past 0 p ((if v then 40 + n else 40 + 52 + n) ∷ rest)) t ∙ bg_ansi p (40 + n) n rest (in_range 40 47 (40 + n) (omega arith) (omega arith)) refl low)
    (λ (high : 8 ≤ n). let t : nat_lt n 8 ≡ false = grind (arith, nat_tests) in
    ap (λ v. styled_past 0 p ((if v then 40 + n else 40 + 52 + n) ∷ rest)) t ∙ bg_bright p (92 + n) n rest (in_range 100 107 (92 + n) (omega arith) (omega arith)) refl high)
    (cases_lt n 8)
bg_next p (Some (Rgb r g b)) rest c s =
    ap (λ d. styled_past (taken_by d) (styled_by p 48 d) (2 ∷ r ∷ g ∷ b ∷ rest)) (direct r g b rest s.0 s.1 s.2)

-- nine lists, grouped from the right
grouped : (a b c d e f g h k : List ℕ) → (((((((a ++ b) ++ c) ++ d) ++ e) ++ f) ++ g) ++ h) ++ k ≡ a ++ (b ++ (c ++ (d ++ (e ++ (f ++ (g ++ (h ++ (k ++ []))))))))
grouped a b c d e f g h k = simp (append_assoc, append-nil)

pub styled_added : (p pen : Attrs) → IsPen pen → IsBytePen pen → styled p (numbers_of pen) ≡ joined p pen
styled_added p pen h s =
    ap (styled_past 0 p) (grouped (flagged 1 pen.bold) (flagged 3 pen.italic) (flagged 4 pen.underline) (flagged 5 pen.blink) (flagged 7 pen.reverse)
    (flagged 8 pen.hidden) (flagged 9 pen.strike) (coloured 30 pen.fg) (coloured 40 pen.bg))
    ∙ bold_next p pen.bold _
    ∙ italic_next (record p { bold = pen.bold || p.bold }) pen.italic _
    ∙ underline_next (record p { bold = pen.bold || p.bold; italic = pen.italic || p.italic }) pen.underline _
    ∙ blink_next (record p { bold = pen.bold || p.bold; italic = pen.italic || p.italic; underline = pen.underline || p.underline }) pen.blink _
    ∙ reverse_next (record p { bold = pen.bold || p.bold; italic = pen.italic || p.italic; underline = pen.underline || p.underline; blink = pen.blink || p.blink }) pen.reverse _
    ∙ hidden_next (record p { bold = pen.bold || p.bold; italic = pen.italic || p.italic; underline = pen.underline || p.underline; blink = pen.blink || p.blink; reverse = pen.reverse || p.reverse }) pen.hidden _
    ∙ strike_next (record p { bold = pen.bold || p.bold; italic = pen.italic || p.italic; underline = pen.underline || p.underline; blink = pen.blink || p.blink; reverse = pen.reverse || p.reverse; hidden = pen.hidden || p.hidden }) pen.strike _
    ∙ fg_next (record p { bold = pen.bold || p.bold; italic = pen.italic || p.italic; underline = pen.underline || p.underline; blink = pen.blink || p.blink; reverse = pen.reverse || p.reverse; hidden = pen.hidden || p.hidden; strike = pen.strike || p.strike }) pen.fg _ h.0 s.0
    ∙ bg_next (record p { bold = pen.bold || p.bold; italic = pen.italic || p.italic; underline = pen.underline || p.underline; blink = pen.blink || p.blink; reverse = pen.reverse || p.reverse; hidden = pen.hidden || p.hidden; strike = pen.strike || p.strike; fg = colour_over pen.fg p.fg }) pen.bg [] h.1 s.1

or_false : (b : Bool) → b || false ≡ b
or_false true = refl
or_false false = refl

over_none : (colour : Option Colour) → colour_over colour None ≡ colour
over_none None = refl
over_none (Some colour) = refl

joined_plain : (pen : Attrs) → joined plain pen ≡ pen
joined_plain pen = λ i. record {
  fg = over_none pen.fg i;
  bg = over_none pen.bg i;
  bold = or_false pen.bold i;
  italic = or_false pen.italic i;
  underline = or_false pen.underline i;
  blink = or_false pen.blink i;
  reverse = or_false pen.reverse i;
  hidden = or_false pen.hidden i;
  strike = or_false pen.strike i;
}

pub styled_numbers : (old pen : Attrs) → IsPen pen → IsBytePen pen → styled old (0 ∷ numbers_of pen) ≡ pen
styled_numbers old pen h s = next old 0 (numbers_of pen) refl refl ∙ styled_added plain pen h s ∙ joined_plain pen

-- ---- attributes of no number

flag_none : (n : ℕ) (b : Bool) → length (flagged n b) ≡ 0 → b ≡ false
flag_none n true h = absurd (omega arith)
flag_none n false h = refl

colour_none : (base : ℕ) (colour : Option Colour) → length (coloured base colour) ≡ 0 → colour ≡ None
colour_none base None h = refl
colour_none base (Some (Ansi n)) h = absurd (omega arith)
colour_none base (Some (Rgb r g b)) h = absurd (omega arith)

-- attributes that are not plain have a number
pub some_numbers : (pen : Attrs) → (pen ≡ plain → ⊥) → numbers_of pen ≡ [] → ⊥
some_numbers pen some none =
    let a = flagged 1 pen.bold in let b = flagged 3 pen.italic in let c = flagged 4 pen.underline in let d = flagged 5 pen.blink in
    let e = flagged 7 pen.reverse in let f = flagged 8 pen.hidden in let g = flagged 9 pen.strike in
    let fg = coloured 30 pen.fg in let bg = coloured 40 pen.bg in
    let all : length a + length b + length c + length d + length e + length f + length g + length fg + length bg ≡ 0 = omega (
      arith,
      ap length none,
      length-append (a ++ b ++ c ++ d ++ e ++ f ++ g ++ fg) bg,
      length-append (a ++ b ++ c ++ d ++ e ++ f ++ g) fg,
      length-append (a ++ b ++ c ++ d ++ e ++ f) g,
      length-append (a ++ b ++ c ++ d ++ e) f,
      length-append (a ++ b ++ c ++ d) e,
      length-append (a ++ b ++ c) d,
      length-append (a ++ b) c,
      length-append a b,
    ) in
    some (λ i. record {
      fg = colour_none 30 pen.fg (omega (arith, all)) i;
      bg = colour_none 40 pen.bg (omega (arith, all)) i;
      bold = flag_none 1 pen.bold (omega (arith, all)) i;
      italic = flag_none 3 pen.italic (omega (arith, all)) i;
      underline = flag_none 4 pen.underline (omega (arith, all)) i;
      blink = flag_none 5 pen.blink (omega (arith, all)) i;
      reverse = flag_none 7 pen.reverse (omega (arith, all)) i;
      hidden = flag_none 8 pen.hidden (omega (arith, all)) i;
      strike = flag_none 9 pen.strike (omega (arith, all)) i;
    })

-- ---- how the sequence reads

small_append : (ms ns : List ℕ) → AllSmall ms → AllSmall ns → AllSmall (ms ++ ns)
small_append [] ns h k = k
small_append (m ∷ ms) ns h k = (h.0, small_append ms ns h.1 k)

small_flag : (n : ℕ) (b : Bool) → n ≤ 9 → AllSmall (flagged n b)
small_flag n true h = (omega arith, tt)
small_flag n false h = tt

small_colour : (base : ℕ) (colour : Option Colour) → base ≤ 40 → IsColour colour → IsByteColour colour → AllSmall (coloured base colour)
small_colour base None h c s = tt
small_colour base (Some (Ansi n)) h c s = ⊎_elim
    (λ (low : n < 8). let t : nat_lt n 8 ≡ true = grind (arith, nat_tests) in rw t (omega arith, tt))
    (λ (high : 8 ≤ n). let t : nat_lt n 8 ≡ false = grind (arith, nat_tests) in rw t (omega arith, tt))
    (cases_lt n 8)
small_colour base (Some (Rgb r g b)) h c s = (omega arith, (omega arith, (omega (arith, s.0), (omega (arith, s.1), (omega (arith, s.2), tt)))))

pub small_numbers : (pen : Attrs) → IsPen pen → IsBytePen pen → AllSmall (numbers_of pen)
small_numbers pen h s =
    small_append _ _ (small_append _ _ (small_append _ _ (small_append _ _ (small_append _ _ (small_append _ _ (small_append _ _ (small_append _ _
    (small_flag 1 pen.bold (omega arith)) (small_flag 3 pen.italic (omega arith))) (small_flag 4 pen.underline (omega arith))) (small_flag 5 pen.blink (omega arith)))
    (small_flag 7 pen.reverse (omega arith))) (small_flag 8 pen.hidden (omega arith))) (small_flag 9 pen.strike (omega arith)))
    (small_colour 30 pen.fg (omega arith) h.0 s.0)) (small_colour 40 pen.bg (omega arith) h.1 s.1)

-- ---- how long it is

digits_1 : (n : ℕ) → n < 10 → length (decimal n) ≤ 1
digits_1 n h = length-decimal-le 1 n (omega arith) h (omega arith)

digits_3 : (n : ℕ) → n < 1000 → length (decimal n) ≤ 3
digits_3 n h = length-decimal-le 3 n (omega arith) h (omega arith)

flag_length : (n : ℕ) (b : Bool) → n ≤ 9 → length (listed (flagged n b)) ≤ 2
flag_length n true h = omega (arith, length-append (decimal n) [], digits_1 n (omega arith))
flag_length n false h = omega arith

one_length : (n : ℕ) → n < 1000 → length (listed (n ∷ [])) ≤ 4
one_length n h = omega (arith, length-append (decimal n) [], digits_3 n h)

colour_length : (base : ℕ) (colour : Option Colour) → base ≤ 40 → IsColour colour → IsByteColour colour → length (listed (coloured base colour)) ≤ 17
colour_length base None h c s = omega arith
colour_length base (Some (Ansi n)) h c s = ⊎_elim
    (λ (low : n < 8). let t : nat_lt n 8 ≡ true = grind (arith, nat_tests) in rw t (omega (arith, one_length (base + n) (omega arith))))
    (λ (high : 8 ≤ n). let t : nat_lt n 8 ≡ false = grind (arith, nat_tests) in rw t (omega (arith, one_length (base + 52 + n) (omega arith))))
    (cases_lt n 8)
colour_length base (Some (Rgb r g b)) h c s =
    let two : length (decimal (base + 8)) ≤ 2 = length-decimal-le 2 (base + 8) (omega arith) (omega arith) (omega arith) in
    omega (
      arith,
      length-append (decimal (base + 8)) (listed (2 ∷ r ∷ g ∷ b ∷ [])),
      length-append (decimal 2) (listed (r ∷ g ∷ b ∷ [])),
      length-append (decimal r) (listed (g ∷ b ∷ [])),
      length-append (decimal g) (listed (b ∷ [])),
      length-append (decimal b) [],
      two,
      digits_1 2 (omega arith),
      digits_3 r (omega (arith, s.0)),
      digits_3 g (omega (arith, s.1)),
      digits_3 b (omega (arith, s.2)),
    )

listed_length : (ms ns : List ℕ) → length (listed (ms ++ ns)) ≡ length (listed ms) + length (listed ns)
listed_length ms ns = ap length (listed-append ms ns) ∙ length-append (listed ms) (listed ns)

-- without the first separator it is no longer
listed_by_length : (first : Bool) (ns : List ℕ) → length (listed_by first ns) ≤ length (listed ns)
listed_by_length first [] = omega arith
listed_by_length true (n ∷ ns) = omega arith
listed_by_length false (n ∷ ns) = omega arith

pub pen_length : (adds : Bool) (pen : Attrs) → IsPen pen → IsBytePen pen → length (spelled_pen adds pen) ≤ 52
pen_length adds pen h s =
    let a = flagged 1 pen.bold in let b = flagged 3 pen.italic in let c = flagged 4 pen.underline in let d = flagged 5 pen.blink in
    let e = flagged 7 pen.reverse in let f = flagged 8 pen.hidden in let g = flagged 9 pen.strike in
    let fg = coloured 30 pen.fg in let bg = coloured 40 pen.bg in
    omega (
      arith,
      length-append (27 ∷ 91 ∷ listed_by adds (numbers_of pen)) (109 ∷ []),
      listed_by_length adds (numbers_of pen),
      listed_length (a ++ b ++ c ++ d ++ e ++ f ++ g ++ fg) bg,
      listed_length (a ++ b ++ c ++ d ++ e ++ f ++ g) fg,
      listed_length (a ++ b ++ c ++ d ++ e ++ f) g,
      listed_length (a ++ b ++ c ++ d ++ e) f,
      listed_length (a ++ b ++ c ++ d) e,
      listed_length (a ++ b ++ c) d,
      listed_length (a ++ b) c,
      listed_length a b,
      flag_length 1 pen.bold (omega arith),
      flag_length 3 pen.italic (omega arith),
      flag_length 4 pen.underline (omega arith),
      flag_length 5 pen.blink (omega arith),
      flag_length 7 pen.reverse (omega arith),
      flag_length 8 pen.hidden (omega arith),
      flag_length 9 pen.strike (omega arith),
      colour_length 30 pen.fg (omega arith) h.0 s.0,
      colour_length 40 pen.bg (omega arith) h.1 s.1,
    )
