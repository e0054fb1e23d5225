-- The changes for a name, and for the prefixes of a name.
use Rattle.std.proofs.Common.{◌≡◌, ℕ, ◌+◌, Bool, true, false, cond, List, [], ◌∷◌, ◌++◌, map, length, take, refl, sym, ap, ◌∙◌, add-zero, add-one, zero-add, arith}
use Prim.Native.Nat.{zero, suc}
use Rattle.std.specs.Prelude.{◌==◌, filter, fold, slice_index}
use Rattle.std.specs.List.{flat_map, range_with_len}
use Rattle.std.proofs.lemmas.Bool.{false_from_ne_true, cond-false, cond-true}
use Rattle.std.proofs.lemmas.Grind.{flat_map-append}
use Rattle.std.proofs.lemmas.List.{map-append, append-nil}
use Rattle.std.proofs.lemmas.List.Elements.{filter-append}
use Rattle.std.proofs.lemmas.List.Sums.{fold-append}
use Rattle.std.proofs.lemmas.Slice.Eq.{bytes_eq-Decides}
use Rattle.cell_grid.specs.declared.attrs.Attrs.{Attrs}
use Rattle.cell_grid.specs.Attrs.{plain}
use Rattle.style_sheet.specs.declared.classes.Class.{Class}
use Rattle.style_sheet.specs.ClassName.{class_name, classes, default_of}
use Rattle.style_sheet.specs.StyleRule.{StyleRule}
use Rattle.style_sheet.specs.Cascade.{changed, is_named, default_for, rules_for, changes_for, dots_before, class_attrs}

filter_none : {X : Type 0} (p : X → Bool) (xs : List X) → ((x : X) → p x ≡ false) → filter p xs ≡ []
filter_none p [] none = refl
filter_none p (x ∷ xs) none = cond-false (p x) (x ∷ filter p xs) (filter p xs) (none x) ∙ filter_none p xs none

-- a name that is no class's
unnamed : (name : List ℕ) → ((class : Class) → class_name class ≡ name → ⊥) → (class : Class) → is_named name class ≡ false
unnamed name none class = false_from_ne_true (is_named name class) (λ yes. none class ((bytes_eq-Decides (class_name class) name).0 yes))

-- no changes come with a name that is no class's
pub changes_for-none : (rules : List StyleRule) (name : List ℕ) → ((class : Class) → class_name class ≡ name → ⊥) → changes_for rules name ≡ []
changes_for-none rules name none =
    let defaults : default_for name ≡ [] = ap (λ found. flat_map default_of found) (filter_none (is_named name) classes (unnamed name none)) in
    let others : rules_for rules name ≡ [] = ap (λ found. flat_map (λ (rule : StyleRule). rule.changes) found) (filter_none (λ (rule : StyleRule). is_named name rule.class) rules (λ rule. unnamed name none rule.class)) in
    rw (defaults, others) refl

range_suc : (a n : ℕ) → range_with_len a (suc n) ≡ range_with_len a n ++ (a + n) ∷ []
range_suc a zero = rw add-zero refl
range_suc a (suc n) =
    let next : a + 1 + n ≡ a + suc n = omega arith in
    ap (λ rest. a ∷ rest) (range_suc (a + 1) n ∙ ap (λ m. range_with_len (a + 1) n ++ m ∷ []) next)

-- the dots among one more byte
dots_before-more : (name : List ℕ) (n : ℕ) → dots_before name (n + 1) ≡ dots_before name n ++ cond (slice_index name n == 46) (n ∷ []) []
dots_before-more name n =
    let test : ℕ → Bool = λ i. slice_index name i == 46 in
    let range : range_with_len 0 (n + 1) ≡ range_with_len 0 n ++ n ∷ [] = rw (add-one, range_suc, zero-add) refl in
    ap (λ places. filter test places) range ∙ filter-append test (range_with_len 0 n) (n ∷ [])

-- the prefixes that end at one of the first n places
abbrev pub prefixes_before : List ℕ → ℕ → List (List ℕ)
prefixes_before name n = map (λ i. take i name) (dots_before name n)

-- the attributes after the changes for these prefixes
abbrev pub attrs_before : List StyleRule → List ℕ → ℕ → Attrs
attrs_before rules name n = fold changed plain (flat_map (changes_for rules) (prefixes_before name n))

-- one more prefix
then_prefix : (rules : List StyleRule) (front : List (List ℕ)) (prefix : List ℕ) → fold changed plain (flat_map (changes_for rules) (front ++ prefix ∷ [])) ≡ fold changed (fold changed plain (flat_map (changes_for rules) front)) (changes_for rules prefix)
then_prefix rules front prefix =
    rw (flat_map-append, fold-append changed plain (flat_map (changes_for rules) front) (flat_map (changes_for rules) (prefix ∷ []))) (ap (λ changes. fold changed (fold changed plain (flat_map (changes_for rules) front)) changes) (append-nil (changes_for rules prefix)))

-- the byte after these places is a dot
pub attrs_before-dot : (rules : List StyleRule) (name : List ℕ) (n : ℕ) → (slice_index name n == 46) ≡ true → fold changed (attrs_before rules name n) (changes_for rules (take n name)) ≡ attrs_before rules name (n + 1)
attrs_before-dot rules name n dot =
    let dots : dots_before name (n + 1) ≡ dots_before name n ++ n ∷ [] = dots_before-more name n ∙ ap (λ places. dots_before name n ++ places) (cond-true (slice_index name n == 46) (n ∷ []) [] dot) in
    let all : prefixes_before name (n + 1) ≡ prefixes_before name n ++ take n name ∷ [] = ap (λ places. map (λ i. take i name) places) dots ∙ map-append (λ i. take i name) (dots_before name n) (n ∷ []) in
    sym (ap (λ ps. fold changed plain (flat_map (changes_for rules) ps)) all ∙ then_prefix rules (prefixes_before name n) (take n name))

-- it is none
pub attrs_before-other : (rules : List StyleRule) (name : List ℕ) (n : ℕ) → (slice_index name n == 46) ≡ false → attrs_before rules name n ≡ attrs_before rules name (n + 1)
attrs_before-other rules name n other =
    let dots : dots_before name (n + 1) ≡ dots_before name n = dots_before-more name n ∙ ap (λ places. dots_before name n ++ places) (cond-false (slice_index name n == 46) (n ∷ []) [] other) ∙ append-nil (dots_before name n) in
    ap (λ places. fold changed plain (flat_map (changes_for rules) (map (λ i. take i name) places))) (sym dots)

-- the whole name is the last prefix
pub class_attrs-last : (rules : List StyleRule) (name : List ℕ) → class_attrs rules name ≡ fold changed (attrs_before rules name (length name)) (changes_for rules name)
unfolding class_attrs
class_attrs-last rules name = then_prefix rules (prefixes_before name (length name)) name
