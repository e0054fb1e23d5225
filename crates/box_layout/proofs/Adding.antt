-- What the parts of a layout add, by what its nodes add.
use Rattle.std.proofs.Common.{Bool, true, false, cond, ℕ, ◌≡◌, ◌≤◌, sym, ◌∙◌, ap, subst, List, [], ◌∷◌, ◌++◌, append-nil, filter, length, take, drop, Option, Some, arith}
use Rattle.std.proofs.lemmas.List.Elements.{All-nil, All-cons}
use Rattle.std.proofs.Math.Seq.{take-append_seam, drop-append_seam}
use Rattle.box_layout.specs.declared.nodes.Float.{Float}
use Rattle.box_layout.specs.declared.nodes.Node.TheVariants.{FloatBox}
use Rattle.box_layout.specs.Floats.{with_floats}
use Rattle.box_layout.proofs.FloatAreas.{floats_inside}
use Rattle.box_layout.proofs.Placing.{box_some}
use Rattle.box_layout.specs.declared.areas.Area.{Area}
use Rattle.box_layout.specs.declared.nodes.Node.{Node}
use Rattle.box_layout.specs.Adding.{Adds}
use Rattle.box_layout.specs.Areas.{IsInside}
use Rattle.box_layout.specs.Boxes.{Boxes, Meaning}
use Rattle.box_layout.specs.Placed.{PlacedFields, area_of}

-- what a part adds it adds also under another name of its meaning
pub adds_by : (means same : Meaning) (area : Area) (before after : List PlacedFields) (fits : Bool) → means ≡ same → Adds (means area) area before after fits → Adds (same area) area before after fits
adds_by means same area before after fits e adds = subst (λ (m : Meaning). Adds (m area) area before after fits) e adds

-- what adds nothing
pub adds_none : (means : Option (List PlacedFields) → Type 0) (area : Area) (before : List PlacedFields) → means (Some []) → Adds means area before before true
adds_none means area before is = ([], sym (append-nil before), is, All-nil (λ q. IsInside area (area_of q)))

shorter : {A : Type 0} (b : Bool) (x : A) (xs ys : List A) → length ys ≤ length xs → length (cond b (x ∷ ys) ys) ≤ length (x ∷ xs)
shorter true x xs ys h = omega arith
shorter false x xs ys h = omega arith

-- a filter makes no list longer
pub filter_short : {A : Type 0} (p : A → Bool) (xs : List A) → length (filter p xs) ≤ length xs
filter_short p [] = omega arith
filter_short p (x ∷ xs) = shorter (p x) x xs (filter p xs) (filter_short p xs)

-- what was added to a list holds its panes behind it
pub adds_one : (means : Option (List PlacedFields) → Type 0) (area : Area) (before after : List PlacedFields) (p : PlacedFields) → after ≡ before ++ p ∷ [] → means (Some (p ∷ [])) → IsInside area (area_of p) → Adds means area before after true
adds_one means area before after p is gives inside = (p ∷ [], is, gives, All-cons (λ q. IsInside area (area_of q)) p [] inside (All-nil (λ q. IsInside area (area_of q))))

-- what a box with floats adds
pub adds_floats : (done : Bool) (child : Node) (floats : List Float) (area : Area) (first : ℕ) (before middle after : List PlacedFields) → 1 ≤ area.size.rows → first ≡ length before → Adds (Boxes done child area) area before middle true → after ≡ take first middle ++ with_floats area (drop first middle) floats → Adds (Boxes done (FloatBox child floats) area) area before after true
adds_floats done child floats area first before middle after some n (under, is, gives, inside) e =
    let front : take first middle ≡ before = rw (n, is) (take-append_seam before under) in
    let back : drop first middle ≡ under = rw (n, is) (drop-append_seam before under) in
    (with_floats area under floats, e ∙ (λ i. front i ++ with_floats area (back i) floats), box_some done child floats area under gives, floats_inside area under floats some inside)

-- what a part adds, where it is known whether it fits
pub adds_at : (means : Option (List PlacedFields) → Type 0) (area : Area) (before after : List PlacedFields) (fits known : Bool) → fits ≡ known → Adds means area before after fits → Adds means area before after known
adds_at means area before after fits known e adds = subst (Adds means area before after) e adds

-- what was added to nothing is all there is
pub adds_alone : (means : Option (List PlacedFields) → Type 0) (area : Area) (before after : List PlacedFields) → before ≡ [] → Adds means area before after true → means (Some after)
adds_alone means area before after none (those, is, gives, inside) = subst (λ (l : List PlacedFields). means (Some l)) (sym (is ∙ ap (λ l. l ++ those) none)) gives
