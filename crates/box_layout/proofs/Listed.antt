-- The nodes of a layout in a list, read from its front.
use Rattle.std.proofs.Common.{true, false, ℕ, ◌≡◌, ◌+◌, ◌-◌, ◌<◌, ◌≤◌, refl, sym, ◌∙◌, ap, subst, List, [], ◌∷◌, ◌++◌, flat_map, take, drop, get_or, length, add-one, append-nil, drop-drop, length-append, length-drop, arith}
use Rattle.std.proofs.lemmas.List.{map-id, take_all}
use Rattle.std.proofs.Math.ListN.{set}
use Rattle.std.proofs.lemmas.List.Folds.{flat_map-map}
use Rattle.std.proofs.Math.Seq.{take-append_seam, drop-append_seam}
use mathlib.Core.List.{map-map}
use Rattle.box_layout.specs.declared.nodes.Float.{Float}
use Rattle.box_layout.specs.declared.nodes.Node.{Node}
use Rattle.box_layout.specs.declared.nodes.Node.TheOpen as layer
use Rattle.box_layout.specs.declared.nodes.Node.TheVariants.{HSplit, VSplit, When, FloatBox, rolls-HSplit, rolls-VSplit, rolls-When, rolls-FloatBox}
use Rattle.box_layout.specs.declared.nodes.Node.TheFolds.{para-roll-Node, map-Node}
use Rattle.box_layout.specs.declared.nodes.Node.TheViews.{out-Node, roll-Node, roll-out-Node, out-roll-Node}
use Rattle.box_layout.specs.Asked.{asked}
use Rattle.box_layout.specs.Children.{EachChild, HasFewChildren}
use Rattle.box_layout.specs.Listing.{Listed, parts_by, inside, listed_with, listing, listing_by, tops, tops_behind, IsFirst, IsListing}
use Rattle.box_layout.proofs.Few.{few_HSplit, few_VSplit}
use Rattle.box_layout.proofs.Lists.{first_is, next_is}

abbrev paired : Node → Node × List Listed
paired node = (node, listing node)

-- the nodes of a layer whose nodes were listed
unpaired : (x : layer.Node-F Node) → map-Node (Node × List Listed) Node (λ p. p.0) (map-Node Node (Node × List Listed) paired x) ≡ x
unpaired (layer.HSplit children) = ap layer.HSplit (map-map (λ (p : Node × List Listed). p.0) paired children ∙ map-id children)
unpaired (layer.VSplit children) = ap layer.VSplit (map-map (λ (p : Node × List Listed). p.0) paired children ∙ map-id children)
unpaired (layer.Window pane) = refl
unpaired (layer.When shown child) = refl
unpaired (layer.FloatBox child floats) = refl

inner_of : (x : layer.Node-F Node) → flat_map (λ p. p.1) (parts_by (Node × List Listed) (map-Node Node (Node × List Listed) paired x)) ≡ flat_map listing (parts_by Node x)
inner_of (layer.HSplit children) = flat_map-map (λ (p : Node × List Listed). p.1) paired children
inner_of (layer.VSplit children) = flat_map-map (λ (p : Node × List Listed). p.1) paired children
inner_of (layer.Window pane) = refl
inner_of (layer.When true child) = refl
inner_of (layer.When false child) = refl
inner_of (layer.FloatBox child floats) = refl

listing_roll : (x : layer.Node-F Node) → listing (roll-Node x) ≡ listed_with (roll-Node x) (flat_map listing (parts_by Node x))
listing_roll x = para-roll-Node (List Listed) listing_by x ∙ (λ i. listed_with (roll-Node (unpaired x i)) (inner_of x i))

-- a node stands before those inside it
pub listing_is : (node : Node) → listing node ≡ listed_with node (flat_map listing (inside node))
listing_is node = subst (λ n. listing n ≡ listed_with n (flat_map listing (inside node))) (roll-out-Node node) (listing_roll (out-Node node))

-- those inside one are passed over
passed_over : (inner rest : List Listed) → tops_behind (length inner) (inner ++ rest) ≡ tops rest
passed_over [] rest = refl
passed_over (one ∷ inner) rest = passed_over inner rest

-- the nodes that were listed are those inside no other
pub tops_listing : (nodes : List Node) → tops (flat_map listing nodes) ≡ nodes
tops_listing [] = refl
tops_listing (node ∷ nodes) =
    let inner = flat_map listing (inside node) in
    ap (λ l. tops (l ++ flat_map listing nodes)) (listing_is node)
    ∙ ap (λ l. node ∷ l) (passed_over inner (flat_map listing nodes) ∙ tops_listing nodes)

pub is_listing : (nodes : List Node) (listed : List Listed) → listed ≡ flat_map listing nodes → IsListing listed
is_listing nodes listed e = e ∙ ap (flat_map listing) (sym (ap tops e ∙ tops_listing nodes))

drop_one : (count : ℕ) (one : Listed) (behind : List Listed) → drop count behind ≡ drop (count + 1) (one ∷ behind)
drop_one count one behind = rw add-one refl

head_is : (x y : Listed) (xs ys : List Listed) → x ∷ xs ≡ y ∷ ys → x ≡ y
head_is x y xs ys e = cc

tail_is : (x y : Listed) (xs ys : List Listed) → x ∷ xs ≡ y ∷ ys → xs ≡ ys
tail_is x y xs ys e = cc

-- of a list that begins with a node, that node and those inside it
first_part : (one : Listed) (behind : List Listed) → IsListing (one ∷ behind) → (one.inner ≤ length behind) × IsFirst (one ∷ behind) one (take one.inner behind)
first_part one behind listing_of =
    let inner = flat_map listing (inside one.node) in
    let nodes = tops_behind one.inner behind in
    let more = flat_map listing nodes in
    let whole : one ∷ behind ≡ listed_with one.node inner ++ more = listing_of ∙ ap (λ l. l ++ more) (listing_is one.node) in
    let own : one ≡ record { node = one.node; asked = asked one.node; inner = length inner } = head_is _ _ _ _ whole in
    let rest : behind ≡ inner ++ more = tail_is _ _ _ _ whole in
    let count : one.inner ≡ length inner = ap (λ (l : Listed). l.inner) own in
    let within : one.inner ≤ length behind = omega (arith, count, ap length rest, length-append inner more) in
    let taken : take one.inner behind ≡ inner = (λ i. take (count i) (rest i)) ∙ take-append_seam inner more in
    let others : drop (length (take one.inner behind)) behind ≡ more = (λ i. drop (length (taken i)) (rest i)) ∙ drop-append_seam inner more in (
      within,
      record {
        asks = ap (λ (l : Listed). l.asked) own;
        inside = taken;
        behind = is_listing nodes _ (sym (drop_one (length (take one.inner behind)) one behind) ∙ others);
        tops = ap (λ l. one.node ∷ l) (sym (tops_listing nodes) ∙ ap tops (sym others ∙ drop_one (length (take one.inner behind)) one behind));
        within = omega (arith, ap length taken, ap length rest, length-append inner more);
      },
    )

-- a slice up to the end of a list
pub rest_is : (from : ℕ) (listed : List Listed) → take (length listed - from) (drop from listed) ≡ drop from listed
rest_is from listed = take_all (length listed - from) (drop from listed) (omega (arith, length-drop from listed))

-- the first node of a list and those inside it, as they are read
pub first_in : (listed : List Listed) (first : Listed) (count : ℕ) → IsListing listed → 1 ≤ length listed → first ≡ get_or listed 0 first → count ≡ first.inner → (count ≤ length (take (length listed - 1) (drop 1 listed))) × IsFirst listed first (take count (take (length listed - 1) (drop 1 listed)))
first_in listed first count listing_of some is counted =
    let e : listed ≡ first ∷ drop 1 listed = next_is listed 0 first some is in
    let part = first_part first (drop 1 listed) (subst IsListing e listing_of) in
    let both : (first.inner ≤ length (drop 1 listed)) × IsFirst listed first (take first.inner (drop 1 listed)) =
    (part.0, subst (λ (l : List Listed). IsFirst l first (take first.inner (drop 1 listed))) (sym e) part.1) in
    subst (λ (n : ℕ). (n ≤ length (take (length listed - 1) (drop 1 listed))) × IsFirst listed first (take n (take (length listed - 1) (drop 1 listed)))) (sym counted)
    (subst (λ (l : List Listed). (first.inner ≤ length l) × IsFirst listed first (take first.inner l)) (sym (rest_is 1 listed)) both)

-- the list from the next node on that is inside no other
pub record Onward (all : List Listed) (at behind : ℕ) (first : Node) : Type 0 where
  pub left : tops (drop at all) ≡ first ∷ tops (drop behind all)
  pub listing : IsListing (drop behind all)
  pub within : behind ≤ length all

pub onward : (all : List Listed) (at : ℕ) (first : Listed) (inner : List Listed) → at ≤ length all → IsFirst (take (length all - at) (drop at all)) first inner → Onward all at (at + (length inner + 1)) first.node
onward all at first inner h of_slice =
    let is : IsFirst (drop at all) first inner = subst (λ (l : List Listed). IsFirst l first inner) (rest_is at all) of_slice in
    let there : drop (length inner + 1) (drop at all) ≡ drop (at + (length inner + 1)) all = drop-drop (length inner + 1) at all in
    record {
      left = is.tops ∙ ap (λ l. first.node ∷ tops l) there;
      listing = subst IsListing there is.behind;
      within = omega (arith, is.within, length-drop at all);
    }

-- what was added behind others
pub added : (old all more : List Listed) (first : ℕ) → first ≡ length old → all ≡ old ++ more → drop first all ≡ more
added old all more first n e = (λ i. drop (n i) (e i)) ∙ drop-append_seam old more

-- the children that were added behind others, as they are read
pub children_added : (old all : List Listed) (children : List Node) (first : ℕ) → first ≡ length old → all ≡ old ++ flat_map listing children → take (length all - first) (drop first all) ≡ flat_map listing children
children_added old all children first n e = rest_is first all ∙ added old all (flat_map listing children) first n e

-- the first node of what was added
pub first_added : (old all : List Listed) (node : Node) (first : ℕ) → first ≡ length old → all ≡ old ++ listing node → (first < length all) × ((d : Listed) → (get_or all first d).asked ≡ asked node)
first_added old all node first n e =
    let there = added old all (listing node) first n e ∙ listing_is node in
    (omega (arith, ap length e, length-append old (listing node), ap length (listing_is node), n), λ d. ap (λ (l : Listed). l.asked) (first_is all first _ _ there d))

put_first : (old inner : List Listed) (x y : Listed) → set ((old ++ x ∷ []) ++ inner) (length old) y ≡ old ++ y ∷ inner
put_first [] inner x y = refl
put_first (z ∷ old) inner x y = ap (λ l. z ∷ l) (put_first old inner x y)

-- the list so far with the first one of a node put in
pub put_in : (old inner all : List Listed) (x y : Listed) (at : ℕ) → all ≡ (old ++ x ∷ []) ++ inner → at ≡ length old → set all at y ≡ old ++ y ∷ inner
put_in old inner all x y at e n = rw (e, n) (put_first old inner x y)

-- as many nodes behind the first as those inside it
pub count_inner : (old all : List Listed) (x : Listed) (inner : List Listed) (at len : ℕ) → all ≡ (old ++ x ∷ []) ++ inner → at ≡ length old → len ≡ length all → len - at - 1 ≡ length inner
count_inner old all x inner at len e n m =
    omega (arith, n, m, ap length e, length-append (old ++ x ∷ []) inner, length-append old (x ∷ []))

-- what stands inside each kind of node
pub inside_HSplit : (children : List Node) → inside (HSplit children) ≡ children
inside_HSplit children = ap inside (sym (rolls-HSplit children)) ∙ ap (parts_by Node) (out-roll-Node (layer.HSplit children))

pub inside_VSplit : (children : List Node) → inside (VSplit children) ≡ children
inside_VSplit children = ap inside (sym (rolls-VSplit children)) ∙ ap (parts_by Node) (out-roll-Node (layer.VSplit children))

pub inside_shown : (part : Node) → inside (When true part) ≡ part ∷ []
inside_shown part = ap inside (sym (rolls-When true part)) ∙ ap (parts_by Node) (out-roll-Node (layer.When true part))

pub inside_FloatBox : (part : Node) (floats : List Float) → inside (FloatBox part floats) ≡ part ∷ []
inside_FloatBox part floats = ap inside (sym (rolls-FloatBox part floats)) ∙ ap (parts_by Node) (out-roll-Node (layer.FloatBox part floats))

-- a list that holds the children of a split and those inside them
pub record IsSplit (inner : List Listed) (children : List Node) : Type 0 where
  pub listing : IsListing inner
  pub tops_are : tops inner ≡ children
  pub few : length (tops inner) ≤ 1000
  pub each : EachChild Node HasFewChildren (tops inner)

split_of : (children : List Node) (inner : List Listed) → inner ≡ flat_map listing children → (length children ≤ 1000) × EachChild Node HasFewChildren children → IsSplit inner children
split_of children inner e few =
    let are : tops inner ≡ children = ap tops e ∙ tops_listing children in
    record {
      listing = is_listing children inner e;
      tops_are = are;
      few = subst (λ (l : List Node). length l ≤ 1000) (sym are) few.0;
      each = subst (EachChild Node HasFewChildren) (sym are) few.1;
    }

pub rows_split : (node : Node) (children : List Node) (inner : List Listed) → node ≡ HSplit children → HasFewChildren node → inner ≡ flat_map listing (inside node) → IsSplit inner children
rows_split node children inner is few e =
    split_of children inner (e ∙ ap (λ n. flat_map listing (inside n)) is ∙ ap (flat_map listing) (inside_HSplit children)) (few_HSplit children (subst HasFewChildren is few))

pub columns_split : (node : Node) (children : List Node) (inner : List Listed) → node ≡ VSplit children → HasFewChildren node → inner ≡ flat_map listing (inside node) → IsSplit inner children
columns_split node children inner is few e =
    split_of children inner (e ∙ ap (λ n. flat_map listing (inside n)) is ∙ ap (flat_map listing) (inside_VSplit children)) (few_VSplit children (subst HasFewChildren is few))

-- a list that holds one node and those inside it
pub record IsOnly (listed : List Listed) (node : Node) : Type 0 where
  pub listing : IsListing listed
  pub some : 1 ≤ length listed
  pub first : (first : Listed) (inner : List Listed) → IsFirst listed first inner → first.node ≡ node

first_same : (x y : Node) (xs ys : List Node) → x ∷ xs ≡ y ∷ ys → y ≡ x
first_same x y xs ys e = cc

pub one_part : (part : Node) (listed : List Listed) → listed ≡ flat_map listing (part ∷ []) → IsOnly listed part
one_part part listed e =
    let whole : listed ≡ listed_with part (flat_map listing (inside part)) = e ∙ append-nil (listing part) ∙ listing_is part in
    record {
      listing = is_listing (part ∷ []) listed e;
      some = omega (arith, ap length whole);
      first = λ first inner is. first_same _ _ _ _ (sym (ap tops e ∙ tops_listing (part ∷ [])) ∙ is.tops);
    }

pub is_only : (node : Node) (listed : List Listed) → listed ≡ listing node → IsOnly listed node
is_only node listed e = one_part node listed (e ∙ sym (append-nil (listing node)))

-- the part of a node that holds one is the only one listed inside it
pub shown_part : (node part : Node) (inner : List Listed) → node ≡ When true part → inner ≡ flat_map listing (inside node) → IsOnly inner part
shown_part node part inner is e = one_part part inner (e ∙ ap (λ n. flat_map listing (inside n)) is ∙ ap (flat_map listing) (inside_shown part))

pub boxed_part : (node part : Node) (floats : List Float) (inner : List Listed) → node ≡ FloatBox part floats → inner ≡ flat_map listing (inside node) → IsOnly inner part
boxed_part node part floats inner is e = one_part part inner (e ∙ ap (λ n. flat_map listing (inside n)) is ∙ ap (flat_map listing) (inside_FloatBox part floats))
