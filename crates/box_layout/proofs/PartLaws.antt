-- The parts of a divided area: inside it, in order, and each place before the sum of the sizes in one of them.
use Rattle.std.proofs.Common.{Bool, true, false, cond, ◌&&◌, ℕ, zero, suc, ◌≡◌, ◌+◌, ◌≤◌, refl, sym, ◌∙◌, ap, subst, List, [], ◌∷◌, sum, All, add-one, Some, arith}
use Rattle.std.specs.Prelude.{count_by, slice_get}
use Rattle.std.proofs.lemmas.Bool.Decides.{nat_tests}
use Rattle.std.proofs.lemmas.List.Elements.{All-cons, All-nil}
use Rattle.std.proofs.lemmas.List.Sums.{sum_by-cons}
use Rattle.layout_dims.specs.Numbers.{Numbers}
use Rattle.layout_dims.specs.Division.{Division}
use Rattle.layout_dims.proofs.Parts.{division_filled}
use Rattle.box_layout.specs.declared.areas.Area.{Area}
use Rattle.box_layout.specs.Areas.{IsInside, room_of, part_of}
use Rattle.box_layout.specs.Parts.{parts_from, parts_of, begin_of, end_of, is_among, has_place}

part_inside : (across : Bool) (area : Area) (before size : ℕ) → before + size ≤ room_of across area → IsInside area (part_of across area before size)
part_inside true area before size h = record { above = omega arith; below = omega arith; left = omega arith; right = omega arith }
part_inside false area before size h = record { above = omega arith; below = omega arith; left = omega arith; right = omega arith }

inside_from : (across : Bool) (area : Area) (before : ℕ) (sizes : List ℕ) → before + sum sizes ≤ room_of across area → All (IsInside area) (parts_from across area before sizes)
inside_from across area before [] h = All-nil (IsInside area)
inside_from across area before (size ∷ sizes) h =
    let total = sum_by-cons (λ (n : ℕ). n) size sizes in
    All-cons (IsInside area) (part_of across area before size) (parts_from across area (before + size) sizes) (part_inside across area before size (omega (arith, total)))
    (inside_from across area (before + size) sizes (omega (arith, total)))

pub all_inside : (across done : Bool) (area : Area) (dims : List Numbers) (sizes : List ℕ) → Division dims (room_of across area) done sizes → All (IsInside area) (parts_of across area sizes)
all_inside across done area dims sizes divided =
    let filled = division_filled dims (room_of across area) done sizes divided in
    inside_from across area 0 sizes (omega (arith, filled))

-- places among so many, and among so many behind them, are those among all
amounts : (from size rest place : ℕ) → cond (is_among from size place) 1 0 + cond (is_among (from + size) rest place) 1 0 ≡ cond (is_among from (size + rest) place) 1 0
amounts from size rest place = grind (arith, nat_tests)

-- a place in two parts, where the other direction holds it or not
abbrev Count : Bool → ℕ
Count b = cond b 1 0

beside : (held a b both : Bool) → Count a + Count b ≡ Count both → Count (held && a) + Count (held && b) ≡ Count (held && both)
beside true a b both e = e
beside false a b both e = refl

below : (held a b both : Bool) → Count a + Count b ≡ Count both → Count (a && held) + Count (b && held) ≡ Count (both && held)
below true true true true e = omega (arith, e)
below true true true false e = omega (arith, e)
below true true false true e = refl
below true true false false e = e
below true false true true e = refl
below true false true false e = e
below true false false true e = e
below true false false false e = refl
below false true true true e = refl
below false true true false e = refl
below false true false true e = refl
below false true false false e = refl
below false false true true e = refl
below false false true false e = refl
below false false false true e = refl
below false false false false e = refl

in_two : (across : Bool) (area : Area) (before size rest row col : ℕ) → Count (has_place (part_of across area before size) row col) + Count (has_place (part_of across area (before + size) rest) row col) ≡ Count (has_place (part_of across area before (size + rest)) row col)
in_two true area before size rest row col =
    let shifted : area.col + (before + size) ≡ area.col + before + size = omega arith in
    beside (is_among area.row area.size.rows row) _ _ _ (rw shifted (amounts (area.col + before) size rest col))
in_two false area before size rest row col =
    let shifted : area.row + (before + size) ≡ area.row + before + size = omega arith in
    below (is_among area.col area.size.cols col) _ _ _ (rw shifted (amounts (area.row + before) size rest row))

in_none : (across : Bool) (area : Area) (before row col : ℕ) → 0 ≡ Count (has_place (part_of across area before 0) row col)
in_none true area before row col = grind (arith, nat_tests)
in_none false area before row col = grind (arith, nat_tests)

covers_from : (across : Bool) (area : Area) (before : ℕ) (sizes : List ℕ) (row col : ℕ) → count_by (λ part. has_place part row col) (parts_from across area before sizes) ≡ Count (has_place (part_of across area before (sum sizes)) row col)
covers_from across area before [] row col = in_none across area before row col
covers_from across area before (size ∷ sizes) row col =
    let total = sum_by-cons (λ (n : ℕ). n) size sizes in
    sum_by-cons (λ (part : Area). Count (has_place part row col)) (part_of across area before size) (parts_from across area (before + size) sizes)
    ∙ ap (λ n. Count (has_place (part_of across area before size) row col) + n) (covers_from across area (before + size) sizes row col)
    ∙ in_two across area before size (sum sizes) row col
    ∙ ap (λ n. Count (has_place (part_of across area before n) row col)) (sym total)

pub covers : (across : Bool) (area : Area) (sizes : List ℕ) (row col : ℕ) → count_by (λ part. has_place part row col) (parts_of across area sizes) ≡ Count (has_place (part_of across area 0 (sum sizes)) row col)
covers across area sizes row col = covers_from across area 0 sizes row col

next_begins : (across : Bool) (area : Area) (before size more : ℕ) → begin_of across (part_of across area (before + size) more) ≡ end_of across (part_of across area before size)
next_begins true area before size more = omega arith
next_begins false area before size more = omega arith

order_from : (across : Bool) (area : Area) (before : ℕ) (sizes : List ℕ) (i : ℕ) (one next : Area) → slice_get (parts_from across area before sizes) i ≡ Some one → slice_get (parts_from across area before sizes) (suc i) ≡ Some next → begin_of across next ≡ end_of across one
order_from across area before [] i one next e f = cc
order_from across area before (size ∷ []) zero one next e f = cc
order_from across area before (size ∷ more ∷ sizes) zero one next e f =
    let first : part_of across area before size ≡ one = cc in
    let second : part_of across area (before + size) more ≡ next = cc in
    subst (λ a. begin_of across next ≡ end_of across a) first (subst (λ a. begin_of across a ≡ end_of across (part_of across area before size)) second (next_begins across area before size more))
order_from across area before (size ∷ sizes) (suc i) one next e f = order_from across area (before + size) sizes i one next e f

pub in_order : (across : Bool) (area : Area) (sizes : List ℕ) (i : ℕ) (one next : Area) → slice_get (parts_of across area sizes) i ≡ Some one → slice_get (parts_of across area sizes) (i + 1) ≡ Some next → begin_of across next ≡ end_of across one
in_order across area sizes i one next e f = order_from across area 0 sizes i one next e (ap (slice_get (parts_of across area sizes)) (sym (add-one i)) ∙ f)
