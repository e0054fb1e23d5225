-- The columns of a line that a window shows: they are whole, and how they are written.
use Prim.Native.Nat.{zero, suc}
use Rattle.std.proofs.Common.{◌≡◌, ℕ, ◌-◌, ◌≤◌, ◌<◌, ◌⊎◌, min, inl, inr, Bool, true, false, List, [], ◌∷◌, ◌++◌, length, get_or, take, drop, refl, sym, ap, ◌∙◌, arith, length-take}
use Rattle.std.proofs.lemmas.Bool.{cases_lt}
use Rattle.std.proofs.lemmas.List.{drop_all, take_all, take_min, get_or_default}
use Rattle.cell_grid.specs.declared.attrs.Attrs.{Attrs}
use Rattle.cell_grid.specs.declared.cell.Cell.{Cell}
use Rattle.cell_grid.specs.declared.cell.Cell.TheVariants.{Lead, Tail}
use Rattle.cell_grid.specs.Cell.{blank, is_wide}
use Rattle.cell_grid.specs.Row.{IsWholeAfter, IsWhole}
use Rattle.win_view.specs.Views.{attrs_of, columns_from, half_of, spaced, spaced_end, spaced_start}

-- ---- a half at either end

-- a Tail at the start is a half, and the cells behind it are cut by themselves
pub spaced_tail : (cells : List Cell) (cell : Cell) (attrs : Attrs) → 1 ≤ length cells → cell ≡ get_or cells 0 cell → cell ≡ Tail → spaced_end (spaced_start attrs cells) ≡ half_of attrs ∷ spaced_end (drop 1 cells)
spaced_tail [] cell attrs some is tail = absurd (omega arith)
spaced_tail (Lead text columns own ∷ cells) cell attrs some is tail = cc
spaced_tail (Tail ∷ []) cell attrs some is tail = refl
spaced_tail (Tail ∷ next ∷ cells) cell attrs some is tail = refl

-- a wide Lead at the end is a half
pub spaced_end-wide : (cells front : List Cell) (last : ℕ) (cell other half : Cell) (attrs : Attrs) → suc last ≡ length cells → front ≡ take last cells → cell ≡ get_or cells last cell → true ≡ is_wide cell → other ≡ get_or cells last other → attrs ≡ attrs_of other → half ≡ half_of attrs → spaced_end cells ≡ front ++ half ∷ []
spaced_end-wide [] front last cell other half attrs long is f wide g own h = absurd (omega arith)
spaced_end-wide (first ∷ []) front zero cell other half attrs long is f wide g own h =
    rw (sym (wide ∙ ap is_wide f)) (sym (ap (λ (one : Cell). front ++ one ∷ []) (h ∙ ap half_of (own ∙ ap attrs_of g)) ∙ ap (λ (before : List Cell). before ++ half_of (attrs_of first) ∷ []) is))
spaced_end-wide (first ∷ []) front (suc last) cell other half attrs long is f wide g own h = absurd (omega arith)
spaced_end-wide (first ∷ next ∷ cells) front zero cell other half attrs long is f wide g own h = absurd (omega arith)
spaced_end-wide (first ∷ next ∷ cells) front (suc last) cell other half attrs long is f wide g own h =
    ap (λ (rest : List Cell). first ∷ rest) (spaced_end-wide (next ∷ cells) (take last (next ∷ cells)) last cell other half attrs (omega arith) refl f wide g own h)
    ∙ ap (λ (before : List Cell). before ++ half ∷ []) (sym is)

-- the cells before it are whole
pub whole-before : (after : Bool) (front : List Cell) (attrs : Attrs) → IsWholeAfter after (front ++ half_of attrs ∷ []) → IsWholeAfter after front
whole-before false [] attrs whole = tt
whole-before true [] attrs whole = whole
whole-before false (Lead text columns own ∷ front) attrs whole =
    elim whole [ inl one ↦ inl (one.0, whole-before false front attrs one.1) | inr two ↦ inr (two.0, whole-before true front attrs two.1) ]
whole-before true (Lead text columns own ∷ front) attrs whole = absurd whole
whole-before false (Tail ∷ front) attrs whole = absurd whole
whole-before true (Tail ∷ front) attrs whole = whole-before false front attrs whole

pub spaced_end-other : (cells : List Cell) (last : ℕ) (cell : Cell) → suc last ≡ length cells → cell ≡ get_or cells last cell → false ≡ is_wide cell → cells ≡ spaced_end cells
spaced_end-other [] last cell e f other = refl
spaced_end-other (first ∷ []) zero cell e f other = rw (sym (other ∙ ap is_wide f)) refl
spaced_end-other (first ∷ []) (suc last) cell e f other = absurd (omega arith)
spaced_end-other (first ∷ next ∷ rest) zero cell e f other = absurd (omega arith)
spaced_end-other (first ∷ next ∷ rest) (suc last) cell e f other = ap (λ cells. first ∷ cells) (spaced_end-other (next ∷ rest) last cell (omega arith) f other)

pub spaced_end-empty : (cells : List Cell) → length cells ≡ 0 → cells ≡ spaced_end cells
spaced_end-empty [] e = refl
spaced_end-empty (first ∷ rest) e = absurd (omega arith)

-- ---- the cut columns

take-spaced_start : (width : ℕ) (attrs : Attrs) (cells : List Cell) → take width (spaced_start attrs cells) ≡ spaced_start attrs (take width cells)
take-spaced_start zero attrs cells = refl
take-spaced_start (suc width) attrs [] = refl
take-spaced_start (suc width) attrs (Lead text columns own ∷ cells) = refl
take-spaced_start (suc width) attrs (Tail ∷ cells) = refl

-- whole cells have no half at the start
spaced_start-whole : (attrs : Attrs) (cells : List Cell) → IsWhole cells → spaced_start attrs cells ≡ cells
spaced_start-whole attrs [] whole = refl
spaced_start-whole attrs (Lead text columns own ∷ cells) whole = refl
spaced_start-whole attrs (Tail ∷ cells) whole = absurd whole

take_short : (width count : ℕ) (cells : List Cell) → count ≡ min width (length cells) → take count cells ≡ take width cells
take_short width count cells many = ap (λ (n : ℕ). take n cells) many ∙ take_min width cells

-- behind the line
nothing : (width start count across : ℕ) (attrs own : Attrs) (line shown : List Cell) → length line ≤ start → length line ≤ across → shown ≡ take count (drop start line) → spaced_end (spaced_start attrs shown) ≡ spaced_end (take width (spaced_start own (drop across line)))
nothing width start count across attrs own line shown past behind is =
    let none : shown ≡ [] = is ∙ ap (take count) (drop_all start line past) ∙ take_all count [] (omega arith) in
    ap (λ (cells : List Cell). spaced_end (spaced_start attrs cells)) none
    ∙ sym (ap (λ (cells : List Cell). spaced_end (take width (spaced_start own cells))) (drop_all across line behind) ∙ ap spaced_end (take_all width [] (omega arith)))

-- from the first column on
columns_from-first : (across width start count : ℕ) (attrs : Attrs) (line shown : List Cell) → IsWhole line → start ≡ min across (length line) → start ≡ 0 → count ≡ min width (length (drop start line)) → shown ≡ take count (drop start line) → spaced_end (spaced_start attrs shown) ≡ columns_from across width line
columns_from-first across width start count attrs [] shown whole begins first many is =
    nothing width start count across attrs (attrs_of blank) [] shown (omega arith) (omega arith) is
columns_from-first across width start count attrs (cell ∷ line) shown whole begins first many is =
    let all : across ≡ 0 = omega arith in
    let at = λ (n : ℕ). drop n (cell ∷ line) in
    let own = attrs_of (get_or (cell ∷ line) (across - 1) blank) in
    let front : shown ≡ take width (cell ∷ line) = is ∙ take_short width count (at start) many ∙ ap (λ (n : ℕ). take width (at n)) first in
    ap (λ (cells : List Cell). spaced_end (spaced_start attrs cells)) front
    ∙ ap spaced_end (sym (take-spaced_start width attrs (cell ∷ line)) ∙ ap (take width) (spaced_start-whole attrs (cell ∷ line) whole ∙ sym (spaced_start-whole own (cell ∷ line) whole)))
    ∙ ap (λ (n : ℕ). spaced_end (take width (spaced_start own (at n)))) (sym all)

-- from a later one on
columns_from-later : (across width start count : ℕ) (line shown : List Cell) (before : Cell) → start ≡ min across (length line) → 0 < start → before ≡ get_or line (start - 1) before → count ≡ min width (length (drop start line)) → shown ≡ take count (drop start line) → spaced_end (spaced_start (attrs_of before) shown) ≡ columns_from across width line
columns_from-later across width start count line shown before begins later is_before many is =
    let own = attrs_of (get_or line (across - 1) blank) in
    elim (cases_lt (length line) across) [
      | inl past ↦ nothing width start count across (attrs_of before) own line shown (omega arith) (omega arith) is
      | inr within ↦
          let here : start ≡ across = omega arith in
          let same : attrs_of before ≡ own =
          ap attrs_of (is_before ∙ get_or_default line (start - 1) before blank (omega arith) ∙ ap (λ (n : ℕ). get_or line (n - 1) blank) here)
          in
          ap (λ (attrs : Attrs). spaced_end (spaced_start attrs shown)) same
          ∙ ap (λ (cells : List Cell). spaced_end (spaced_start own cells))
          (is ∙ take_short width count (drop start line) many ∙ ap (λ (n : ℕ). take width (drop n line)) here)
          ∙ ap spaced_end (sym (take-spaced_start width own (drop across line)))
    ]

-- from any on
pub columns_from-cut : (across width start count : ℕ) (attrs : Attrs) (line shown : List Cell) → IsWhole line → start ≡ min across (length line) → (0 < start → attrs ≡ attrs_of (get_or line (start - 1) blank)) → count ≡ min width (length (drop start line)) → shown ≡ take count (drop start line) → spaced_end (spaced_start attrs shown) ≡ columns_from across width line
columns_from-cut across width start count attrs line shown whole begins own many is =
    elim (cases_lt 0 start) [
      | inl later ↦
          let before = get_or line (start - 1) blank in
          ap (λ (those : Attrs). spaced_end (spaced_start those shown)) (own later)
          ∙ columns_from-later across width start count line shown before begins later (get_or_default line (start - 1) blank before (omega arith)) many is
      | inr first ↦ columns_from-first across width start count attrs line shown whole begins (omega arith) many is
    ]

-- ---- they are whole, and as many as fit

length-spaced_end : (cells : List Cell) → length (spaced_end cells) ≡ length cells
length-spaced_end [] = refl
length-spaced_end (cell ∷ []) = refl
length-spaced_end (cell ∷ next ∷ rest) = ap suc (length-spaced_end (next ∷ rest))

length-spaced_start : (attrs : Attrs) (cells : List Cell) → length (spaced_start attrs cells) ≡ length cells
length-spaced_start attrs [] = refl
length-spaced_start attrs (Lead text columns own ∷ cells) = refl
length-spaced_start attrs (Tail ∷ cells) = refl

pub length-spaced : (attrs : Attrs) (cells : List Cell) → length (spaced_end (spaced_start attrs cells)) ≡ length cells
length-spaced attrs cells = length-spaced_end (spaced_start attrs cells) ∙ length-spaced_start attrs cells

pub length-columns_from : (across width : ℕ) (line : List Cell) → length (columns_from across width line) ≤ width
length-columns_from across width line =
    let rest = spaced_start (attrs_of (get_or line (across - 1) blank)) (drop across line) in
    omega (arith, length-spaced_end (take width rest), length-take width rest)

tail_stays : (rest : List Cell) → IsWhole (spaced_end rest) → IsWholeAfter true (spaced_end (Tail ∷ rest))
tail_stays [] whole = tt
tail_stays (next ∷ rest) whole = whole

lead_alone : (text : List ℕ) (columns : ℕ) (attrs : Attrs) → (columns ≡ 1) ⊎ (columns ≡ 2) → IsWhole (spaced (Lead text columns attrs) ∷ [])
lead_alone text columns attrs lead = elim lead [ inl e ↦ rw e (inl (refl, tt)) | inr e ↦ rw e (inl (refl, tt)) ]

front-spaced : (at : ℕ) (row : List Cell) → IsWhole row → IsWhole (spaced_end (take at row))
front-spaced zero row whole = tt
front-spaced (suc at) [] whole = tt
front-spaced (suc at) (Tail ∷ rest) whole = absurd whole
front-spaced (suc zero) (Lead text columns attrs ∷ rest) whole = lead_alone text columns attrs (elim whole [ inl h ↦ inl h.0 | inr h ↦ inr h.0 ])
front-spaced (suc (suc at)) (Lead text columns attrs ∷ []) whole = lead_alone text columns attrs (elim whole [ inl h ↦ inl h.0 | inr h ↦ inr h.0 ])
front-spaced (suc (suc at)) (Lead text columns attrs ∷ Lead more width others ∷ rest) whole =
    elim whole [ inl h ↦ inl (h.0, front-spaced (suc at) (Lead more width others ∷ rest) h.1) | inr h ↦ absurd h.1 ]
front-spaced (suc (suc at)) (Lead text columns attrs ∷ Tail ∷ rest) whole =
    elim whole [ inl h ↦ absurd h.1 | inr h ↦ inr (h.0, tail_stays (take at rest) (front-spaced at rest h.1)) ]

back-spaced : (at : ℕ) (own : Attrs) (row : List Cell) → IsWhole row → IsWhole (spaced_start own (drop at row))
back-spaced zero own [] whole = tt
back-spaced zero own (Lead text columns attrs ∷ rest) whole = whole
back-spaced zero own (Tail ∷ rest) whole = absurd whole
back-spaced (suc at) own [] whole = tt
back-spaced (suc at) own (Tail ∷ rest) whole = absurd whole
back-spaced (suc zero) own (Lead text columns attrs ∷ []) whole = tt
back-spaced (suc (suc at)) own (Lead text columns attrs ∷ []) whole = tt
back-spaced (suc at) own (Lead text columns attrs ∷ Lead more width others ∷ rest) whole =
    elim whole [ inl h ↦ back-spaced at own (Lead more width others ∷ rest) h.1 | inr h ↦ absurd h.1 ]
back-spaced (suc zero) own (Lead text columns attrs ∷ Tail ∷ rest) whole = elim whole [ inl h ↦ absurd h.1 | inr h ↦ inl (refl, h.1) ]
back-spaced (suc (suc at)) own (Lead text columns attrs ∷ Tail ∷ rest) whole =
    elim whole [ inl h ↦ absurd h.1 | inr h ↦ back-spaced at own rest h.1 ]

pub whole-columns_from : (across width : ℕ) (line : List Cell) → IsWhole line → IsWhole (columns_from across width line)
whole-columns_from across width line whole =
    let own = attrs_of (get_or line (across - 1) blank) in
    front-spaced width (spaced_start own (drop across line)) (back-spaced across own line whole)
