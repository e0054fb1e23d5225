-- The children of a split, placed one after another.
use Rattle.std.proofs.Common.{Bool, true, false, ℕ, zero, suc, ◌≡◌, ◌+◌, ◌<◌, ◌≤◌, inl, inr, refl, sym, ◌∙◌, ap, subst, List, [], ◌∷◌, ◌++◌, append-nil, append_assoc, filter, length, drop, Option, None, Some, sum, add-zero, add-one, drop-cons, length-drop, get_or, arith}
use Rattle.std.specs.Prelude.{zip, option_map}
use Rattle.std.proofs.lemmas.List.Elements.{All-append}
use Rattle.std.proofs.lemmas.List.Sums.{sum_by-cons}
use Rattle.box_layout.specs.declared.areas.Area.{Area}
use Rattle.box_layout.specs.declared.nodes.Node.{Node}
use Rattle.box_layout.specs.Adding.{Adds, PartGives}
use Rattle.box_layout.specs.Areas.{IsInside}
use Rattle.box_layout.specs.Boxes.{Boxes, InTurn}
use Rattle.box_layout.specs.Placed.{PlacedFields, AllInside, area_of}
use Rattle.box_layout.proofs.Asking.{IsPresent}
use Rattle.box_layout.proofs.Lists.{picked, passed}

-- the children from a place on, with the sizes from a place on
abbrev Left : Bool → Bool → Area → List Node → List ℕ → ℕ → Option (List PlacedFields) → Type 0
Left done across area children sizes = InTurn Node (Boxes done) across area (zip (filter IsPresent children) sizes)

joined : (those first : List PlacedFields) (answer : Option (List PlacedFields)) → option_map (λ more. those ++ more) (option_map (λ more. first ++ more) answer) ≡ option_map (λ more. (those ++ first) ++ more) answer
joined those first None = refl
joined those first (Some more) = ap Some (sym (append_assoc those first more))

none_before : (first : List PlacedFields) (answer : Option (List PlacedFields)) → first ≡ [] → answer ≡ option_map (λ more. first ++ more) answer
none_before first None e = refl
none_before first (Some more) e = ap (λ l. Some (l ++ more)) (sym e)

-- a child and those behind it
turn_one : (done across : Bool) (area : Area) (child : Node) (size : ℕ) (rest : List (Node × ℕ)) (before : ℕ) (first : List PlacedFields) (answer : Option (List PlacedFields)) → PartGives done across area child before size (Some first) → InTurn Node (Boxes done) across area rest (before + size) answer → InTurn Node (Boxes done) across area ((child, size) ∷ rest) before (option_map (λ more. first ++ more) answer)
turn_one done across area child zero rest before first answer gives turn =
    let none : first ≡ [] = cc in
    subst (λ (a : Option (List PlacedFields)). InTurn Node (Boxes done) across area rest before a) (none_before first answer none)
    (subst (λ (b : ℕ). InTurn Node (Boxes done) across area rest b answer) (add-zero before) turn)
turn_one done across area child (suc less) rest before first answer gives turn = inr (first, gives, (answer, turn, refl))

turn_none : (done across : Bool) (area : Area) (child : Node) (size : ℕ) (rest : List (Node × ℕ)) (before : ℕ) → PartGives done across area child before size None → InTurn Node (Boxes done) across area ((child, size) ∷ rest) before None
turn_none done across area child zero rest before gives = cc
turn_none done across area child (suc less) rest before gives = inl (gives, refl)

-- the children before those left are placed: what they added, and what those left add makes what all do
pub record Begun (done across : Bool) (area : Area) (children : List Node) (sizes : List ℕ) (left : List Node) (next before : ℕ) (old now : List PlacedFields) : Type 0 where
  pub those : List PlacedFields
  pub is : now ≡ old ++ those
  pub inside : AllInside area those
  pub rest : (answer : Option (List PlacedFields)) → Left done across area left (drop next sizes) before answer → Left done across area children sizes 0 (option_map (λ more. those ++ more) answer)

-- one more child that is there
pub begun_more : (done across : Bool) (area : Area) (children : List Node) (sizes : List ℕ) (left others : List Node) (next before : ℕ) (old now later : List PlacedFields) (child : Node) (size : ℕ) → left ≡ child ∷ others → IsPresent child ≡ true → drop next sizes ≡ size ∷ drop (next + 1) sizes → Begun done across area children sizes left next before old now → Adds (PartGives done across area child before size) area now later true → Begun done across area children sizes others (next + 1) (before + size) old later
begun_more done across area children sizes left others next before old now later child size e p s begun (first, is, gives, inside) = record {
  those = begun.those ++ first;
  is = is ∙ ap (λ l. l ++ first) begun.is ∙ append_assoc old begun.those first;
  inside = All-append (λ q. IsInside area (area_of q)) begun.those first begun.inside inside;
  rest = λ answer turn.
      let here : zip (filter IsPresent left) (drop next sizes) ≡ (child, size) ∷ zip (filter IsPresent others) (drop (next + 1) sizes) =
      ap (λ l. zip (filter IsPresent l) (drop next sizes)) e ∙ ap (λ l. zip l (drop next sizes)) (picked IsPresent child others p) ∙ ap (zip (child ∷ filter IsPresent others)) s in
      subst (Left done across area children sizes 0) (joined begun.those first answer)
      (begun.rest (option_map (λ more. first ++ more) answer)
      (subst (λ (l : List (Node × ℕ)). InTurn Node (Boxes done) across area l before (option_map (λ more. first ++ more) answer)) (sym here)
      (turn_one done across area child size _ before first answer gives turn)));
}

-- one more child that is not there
pub begun_same : (done across : Bool) (area : Area) (children : List Node) (sizes : List ℕ) (left others : List Node) (next before : ℕ) (old now : List PlacedFields) (child : Node) → left ≡ child ∷ others → IsPresent child ≡ false → Begun done across area children sizes left next before old now → Begun done across area children sizes others next before old now
begun_same done across area children sizes left others next before old now child e p begun = record {
  those = begun.those;
  is = begun.is;
  inside = begun.inside;
  rest = λ answer turn.
      let here : filter IsPresent left ≡ filter IsPresent others =
      ap (filter IsPresent) e ∙ passed IsPresent child others p in
      begun.rest answer (subst (λ (l : List Node). InTurn Node (Boxes done) across area (zip l (drop next sizes)) before answer) (sym here) turn);
}

-- a child in whose part a division has too little room
pub begun_ends : (done across : Bool) (area : Area) (children : List Node) (sizes : List ℕ) (left others : List Node) (next before : ℕ) (old now later : List PlacedFields) (child : Node) (size : ℕ) → left ≡ child ∷ others → IsPresent child ≡ true → drop next sizes ≡ size ∷ drop (next + 1) sizes → Begun done across area children sizes left next before old now → Adds (PartGives done across area child before size) area now later false → Left done across area children sizes 0 None
begun_ends done across area children sizes left others next before old now later child size e p s begun gives =
    let here : zip (filter IsPresent left) (drop next sizes) ≡ (child, size) ∷ zip (filter IsPresent others) (drop (next + 1) sizes) =
    ap (λ l. zip (filter IsPresent l) (drop next sizes)) e ∙ ap (λ l. zip l (drop next sizes)) (picked IsPresent child others p) ∙ ap (zip (child ∷ filter IsPresent others)) s in
    begun.rest None (subst (λ (l : List (Node × ℕ)). InTurn Node (Boxes done) across area l before None) (sym here) (turn_none done across area child size _ before gives))

-- all children
pub begun_all : (done across : Bool) (area : Area) (children : List Node) (sizes : List ℕ) (left : List Node) (next before : ℕ) (old now : List PlacedFields) → left ≡ [] → Begun done across area children sizes left next before old now → Adds (Left done across area children sizes 0) area old now true
begun_all done across area children sizes left next before old now e begun =
    let rest = subst (λ (l : List Node). InTurn Node (Boxes done) across area (zip (filter IsPresent l) (drop next sizes)) before (Some [])) (sym e) refl in
    (begun.those, begun.is, subst (λ l. Left done across area children sizes 0 (Some l)) (append-nil begun.those) (begun.rest (Some []) rest), begun.inside)

-- the same place in the loop, its numbers named otherwise
pub moved : (done across : Bool) (area : Area) (children : List Node) (sizes : List ℕ) (left : List Node) (next before : ℕ) (old now : List PlacedFields) (next' before' : ℕ) (now' : List PlacedFields) → Begun done across area children sizes left next before old now → next' ≡ next → before' ≡ before → now' ≡ now → Begun done across area children sizes left next' before' old now'
moved done across area children sizes left next before old now next' before' now' begun e f g =
    subst (λ n. Begun done across area children sizes left n before' old now') (sym e)
    (subst (λ b. Begun done across area children sizes left next b old now') (sym f)
    (subst (λ l. Begun done across area children sizes left next before old l) (sym g) begun))

-- there is a size for a child that is there
pub has_size : (left others : List Node) (sizes : List ℕ) (next : ℕ) (child : Node) → length (drop next sizes) ≡ length (filter IsPresent left) → left ≡ child ∷ others → IsPresent child ≡ true → next < length sizes
has_size left others sizes next child lengths e p =
    let more : length (filter IsPresent left) ≡ suc (length (filter IsPresent others)) =
    ap (λ l. length (filter IsPresent l)) e ∙ ap length (picked IsPresent child others p) in
    omega (arith, length-drop next sizes, lengths, more)

pub size_at : (sizes : List ℕ) (next : ℕ) → next < length sizes → drop next sizes ≡ get_or sizes next 0 ∷ drop (next + 1) sizes
size_at sizes next h = rw (add-one, drop-cons sizes next 0) refl

-- as many sizes are left as children, behind one that is there and behind one that is not
pub lengths_more : (left others : List Node) (sizes : List ℕ) (next next' : ℕ) (child : Node) → next' ≡ next + 1 → length (drop next sizes) ≡ length (filter IsPresent left) → left ≡ child ∷ others → IsPresent child ≡ true → length (drop next' sizes) ≡ length (filter IsPresent others)
lengths_more left others sizes next next' child n lengths e p =
    let more : length (filter IsPresent left) ≡ suc (length (filter IsPresent others)) =
    ap (λ l. length (filter IsPresent l)) e ∙ ap length (picked IsPresent child others p) in
    let h = has_size left others sizes next child lengths e p in
    rw n (omega (arith, lengths, more, ap length (size_at sizes next h)))

pub lengths_same : (left others : List Node) (sizes : List ℕ) (next next' : ℕ) (child : Node) → next' ≡ next → length (drop next sizes) ≡ length (filter IsPresent left) → left ≡ child ∷ others → IsPresent child ≡ false → length (drop next' sizes) ≡ length (filter IsPresent others)
lengths_same left others sizes next next' child n lengths e p =
    ap (λ k. length (drop k sizes)) n ∙ lengths ∙ ap (λ l. length (filter IsPresent l)) e ∙ ap length (passed IsPresent child others p)

-- the room holds the sizes left behind the next one
pub room_more : (sizes : List ℕ) (next next' before before' room : ℕ) → next < length sizes → next' ≡ next + 1 → before' ≡ before + get_or sizes next 0 → before + sum (drop next sizes) ≤ room → before' + sum (drop next' sizes) ≤ room
room_more sizes next next' before before' room h n b fits = rw (n, b) (omega (arith, fits, ap sum (size_at sizes next h), sum_by-cons (λ (n : ℕ). n) (get_or sizes next 0) (drop (next + 1) sizes)))

pub room_same : (sizes : List ℕ) (next next' before before' room : ℕ) → next' ≡ next → before' ≡ before → before + sum (drop next sizes) ≤ room → before' + sum (drop next' sizes) ≤ room
room_same sizes next next' before before' room n b fits = rw (n, b) fits
