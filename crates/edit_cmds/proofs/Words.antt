-- From the end of a word its characters lead back to its start.
use Prim.Native.Nat.{zero, suc}
use Rattle.std.proofs.Common.{◌≡◌, ◌⊎◌, ℕ, ◌+◌, ◌-◌, ◌<◌, ◌≤◌, Bool, true, false, not, ◌&&◌, ◌||◌, List, length, Option, Some, None, unwrap_or, refl, sym, ap, ◌∙◌, subst, arith, inl, inr}
use Rattle.std.specs.Prelude.{◌==◌, nat_lt}
use Rattle.std.proofs.lemmas.Bool.{cases_lt, and_parts, and_right, not-true}
use Rattle.std.proofs.lemmas.Bool.Decides.{nat_tests}
use Rattle.text_doc.specs.declared.words.Class.{Class}
use Rattle.text_doc.specs.declared.words.Class.TheVariants.{White, Word, Other}
use Rattle.text_doc.specs.Words.{same_class, class_at, is_word_start, is_word_end, prev_word, next_word_end}
use Rattle.text_doc.proofs.Walks.{first_found, first_none, last_found, last_none}
use Rattle.edit_state.specs.WordMoves.{word_back, word_end_ahead}
use Rattle.edit_cmds.specs.Laws.{IsWord, IsLastStart, EndAndStart}

same_is : (a b : Class) → same_class a b ≡ true → a ≡ b
same_is White White e = refl
same_is Word Word e = refl
same_is Other Other e = refl
same_is _ _ e = cc

self_same : (a : Class) → same_class a a ≡ true
self_same White = refl
self_same Word = refl
self_same Other = refl

-- the last place below another that passes a test
record LastBelow (p : ℕ → Bool) (top : ℕ) : Type 0 where
  at : ℕ
  below : at < top
  passes : p at ≡ true
  none_above : (k : ℕ) → at < k → k < top → p k ≡ false

below_or : (p : ℕ → Bool) (top k : ℕ) → p top ≡ false → k < suc top → (k < top → p k ≡ false) → p k ≡ false
below_or p top k here hi below =
    elim (cases_lt k top) [
      | inl lt ↦ below lt
      | inr ge ↦ (let same : k ≡ top = omega arith in ap p same ∙ here)
    ]

last_by : (p : ℕ → Bool) (top : ℕ) (here : Bool) → p top ≡ here → LastBelow p top ⊎ ((k : ℕ) → k < top → p k ≡ false) → LastBelow p (suc top) ⊎ ((k : ℕ) → k < suc top → p k ≡ false)
last_by p top true is before = inl (record { at = top; below = omega arith; passes = is; none_above = λ k lo hi. absurd (omega arith) })
last_by p top false is before =
    elim before [
      | inl found ↦ (let low = found.below in inl (record { at = found.at; below = omega arith; passes = found.passes; none_above = λ k lo hi. below_or p top k is hi (found.none_above k lo) }))
      | inr none ↦ inr (λ k hi. below_or p top k is hi (none k))
    ]

last_below : (top : ℕ) (p : ℕ → Bool) → LastBelow p top ⊎ ((k : ℕ) → k < top → p k ≡ false)
last_below zero p = inr (λ k hi. absurd (omega arith))
last_below (suc top) p = last_by p top (p top) refl (last_below top p)

-- the first place from another on that passes a test
record FirstFrom (p : ℕ → Bool) (from to : ℕ) : Type 0 where
  at : ℕ
  behind : from ≤ at
  within : at < to
  passes : p at ≡ true
  none_before : (k : ℕ) → from ≤ k → k < at → p k ≡ false

above_or : (p : ℕ → Bool) (from k : ℕ) → p from ≡ false → from ≤ k → (from + 1 ≤ k → p k ≡ false) → p k ≡ false
above_or p from k here lo above =
    elim (cases_lt from k) [
      | inl gt ↦ above (omega arith)
      | inr le ↦ (let same : k ≡ from = omega arith in ap p same ∙ here)
    ]

first_by : (p : ℕ → Bool) (from to : ℕ) (here : Bool) → p from ≡ here → from < to → FirstFrom p (from + 1) to ⊎ ((k : ℕ) → from + 1 ≤ k → k < to → p k ≡ false) → FirstFrom p from to ⊎ ((k : ℕ) → from ≤ k → k < to → p k ≡ false)
first_by p from to true is some behind = inl (record { at = from; behind = omega arith; within = some; passes = is; none_before = λ k lo hi. absurd (omega arith) })
first_by p from to false is some behind =
    elim behind [
      | inl found ↦ (let high = found.behind in inl (record { at = found.at; behind = omega arith; within = found.within; passes = found.passes; none_before = λ k lo hi. above_or p from k is lo (λ gt. found.none_before k gt hi) }))
      | inr none ↦ inr (λ k lo hi. above_or p from k is lo (λ gt. none k gt hi))
    ]

first_from : (count : ℕ) (p : ℕ → Bool) (from to : ℕ) → from + count ≡ to → FirstFrom p from to ⊎ ((k : ℕ) → from ≤ k → k < to → p k ≡ false)
first_from zero p from to e = inr (λ k lo hi. absurd (omega arith))
first_from (suc count) p from to e = first_by p from to (p from) refl (omega arith) (first_from count p (from + 1) to (omega arith))

-- no word starts where the class stays the same
not_start : (text : List ℕ) (k : ℕ) → 0 < k → class_at false text (k - 1) ≡ class_at false text k → is_word_start false text k ≡ false
unfolding is_word_start
not_start text k some e =
    let same : same_class (class_at false text (k - 1)) (class_at false text k) ≡ true = ap (λ c. same_class c (class_at false text k)) e ∙ self_same (class_at false text k) in
    let first : (k == 0) ≡ false = grind (arith, nat_tests) in
    let other : (k == 0 || not (same_class (class_at false text (k - 1)) (class_at false text k))) ≡ false = rw (first, same) refl in
    and_right _ _ other

-- a word starts at the first character, where it is not white space, and where the class becomes another one
starts_first : (text : List ℕ) → 0 < length text → same_class (class_at false text 0) White ≡ false → is_word_start false text 0 ≡ true
unfolding is_word_start
starts_first text some solid =
    let lt : nat_lt 0 (length text) ≡ true = grind (arith, nat_tests) in
    rw (lt, solid) refl

starts_apart : (text : List ℕ) (k : ℕ) → k + 1 < length text → same_class (class_at false text (k + 1)) White ≡ false → same_class (class_at false text k) (class_at false text (k + 1)) ≡ false → is_word_start false text (k + 1) ≡ true
unfolding is_word_start
starts_apart text k within solid apart =
    let lt : nat_lt (k + 1) (length text) ≡ true = grind (arith, nat_tests) in
    let back : k + 1 - 1 ≡ k = omega arith in
    let other : same_class (class_at false text (k + 1 - 1)) (class_at false text (k + 1)) ≡ false = ap (λ n. same_class (class_at false text n) (class_at false text (k + 1))) back ∙ apart in
    let first : (k + 1 == 0) ≡ false = grind (arith, nat_tests) in
    rw (lt, solid, first, other) refl

-- before the end of a word stands a character that is not white space
solid_before : (text : List ℕ) (stop : ℕ) → is_word_end false text stop ≡ true → (0 < stop) × (same_class (class_at false text (stop - 1)) White ≡ false)
unfolding is_word_end
solid_before text stop is =
    let before = same_class (class_at false text (stop - 1)) White in
    let parts : ((not (stop == 0) && not before) ≡ true) × ((stop == length text || not (same_class (class_at false text (stop - 1)) (class_at false text stop))) ≡ true) = and_parts _ _ is in
    let inner : (not (stop == 0) ≡ true) × (not before ≡ true) = and_parts _ _ parts.0 in
    let first : (stop == 0) ≡ false = not-true _ inner.0 in
    (grind (arith, nat_tests), not-true _ inner.1)

-- where the run of one class starts that a character belongs to
record Run (text : List ℕ) (at : ℕ) : Type 0 where
  start : ℕ
  behind : start ≤ at
  begins : is_word_start false text start ≡ true
  alike : (i : ℕ) → start ≤ i → i ≤ at → class_at false text i ≡ class_at false text at

run_by : (at next : ℕ) (text : List ℕ) (same : Bool) → next ≡ at + 1 → same_class (class_at false text at) (class_at false text next) ≡ same → next < length text → same_class (class_at false text next) White ≡ false
    → (class_at false text at ≡ class_at false text next → Run text at) → Run text next
run_by at next text true one e within solid before =
    let alike = same_is _ _ e in
    let r = before alike in
    let low = r.behind in
    record {
      start = r.start;
      behind = omega arith;
      begins = r.begins;
      alike = λ i lo hi. elim (cases_lt i next) [
        | inl lt ↦ r.alike i lo (omega arith) ∙ alike
        | inr ge ↦ (let same : i ≡ next = omega arith in ap (λ n. class_at false text n) same)
      ];
    }
run_by at next text false one e within solid before = record {
  start = next;
  behind = omega arith;
  begins = subst (λ (n : ℕ). n < length text → same_class (class_at false text n) White ≡ false → same_class (class_at false text at) (class_at false text n) ≡ false → is_word_start false text n ≡ true) (sym one) (starts_apart text at) within solid e;
  alike = λ i lo hi. (let same : i ≡ next = omega arith in ap (λ n. class_at false text n) same);
}

run_to : (at : ℕ) (text : List ℕ) → at < length text → same_class (class_at false text at) White ≡ false → Run text at
run_to zero text within solid = record {
  start = 0;
  behind = omega arith;
  begins = starts_first text within solid;
  alike = λ i lo hi. (let same : i ≡ 0 = omega arith in ap (λ n. class_at false text n) same);
}
run_to (suc at) text within solid =
    run_by at (suc at) text (same_class (class_at false text at) (class_at false text (suc at))) (omega arith) refl within solid
    (λ same. run_to at text (omega arith) (ap (λ c. same_class c White) same ∙ solid))

start_is : (text : List ℕ) (stop : ℕ) (r : Run text (stop - 1)) → 0 < stop → prev_word false text stop ≡ Some r.start
unfolding prev_word
start_is text stop r some =
    let low = r.behind in
    sym (last_found (is_word_start false text) 0 stop r.start (omega arith) (omega arith) r.begins
    (λ k lo hi. not_start text k (omega arith) (r.alike (k - 1) (omega arith) (omega arith) ∙ sym (r.alike k (omega arith) (omega arith)))))

-- backward-word goes from the end of a word to its start
word_behind : (text : List ℕ) (stop : ℕ) → is_word_end false text stop ≡ true → stop ≤ length text → IsWord text (word_back false text stop) stop
word_behind text stop is within =
    let solid = solid_before text stop is in
    let some = solid.0 in
    let r = run_to (stop - 1) text (omega arith) solid.1 in
    let low = r.behind in
    let word : IsWord text r.start stop = record {
      some = omega arith;
      begins = r.begins;
      ends = is;
      alike = λ i lo hi. r.alike i lo (omega arith) ∙ sym (r.alike r.start (omega arith) low);
    } in
    subst (λ (o : Option ℕ). IsWord text (unwrap_or o 0) stop) (sym (start_is text stop r some)) word

last_is : (text : List ℕ) (f : LastBelow (is_word_start false text) (length text)) → prev_word false text (length text) ≡ Some f.at
unfolding prev_word
last_is text f = sym (last_found (is_word_start false text) 0 (length text) f.at (omega arith) f.below f.passes f.none_above)

last_is_none : (text : List ℕ) → ((k : ℕ) → k < length text → is_word_start false text k ≡ false) → prev_word false text (length text) ≡ None
unfolding prev_word
last_is_none text none = sym (last_none (is_word_start false text) 0 (length text) (λ k lo hi. none k hi))

-- from the end of the text it goes to the last word's start
last_start : (text : List ℕ) → IsLastStart text (word_back false text (length text))
last_start text =
    elim (last_below (length text) (is_word_start false text)) [
      | inl f ↦ subst (λ (o : Option ℕ). IsLastStart text (unwrap_or o 0)) (sym (last_is text f)) (record { above = f.none_above; here = inl f.passes })
      | inr none ↦ subst (λ (o : Option ℕ). IsLastStart text (unwrap_or o 0)) (sym (last_is_none text none)) (record { above = λ i lo hi. none i hi; here = inr refl })
    ]

end_is : (text : List ℕ) (place : ℕ) (f : FirstFrom (is_word_end false text) (place + 1) (length text + 1)) → next_word_end false text place ≡ Some f.at
unfolding next_word_end
end_is text place f = sym (first_found (is_word_end false text) (place + 1) (length text + 1) f.at f.behind f.within f.passes f.none_before)

end_is_none : (text : List ℕ) (place : ℕ) → ((k : ℕ) → place + 1 ≤ k → k < length text + 1 → is_word_end false text k ≡ false) → next_word_end false text place ≡ None
unfolding next_word_end
end_is_none text place none = sym (first_none (is_word_end false text) (place + 1) (length text + 1) none)

-- to the end of a word and to its start
pub turned : (text : List ℕ) (place : ℕ) → place ≤ length text → EndAndStart (next_word_end false text place) text (word_end_ahead false text place) (word_back false text (word_end_ahead false text place))
turned text place within =
    elim (first_from (length text - place) (is_word_end false text) (place + 1) (length text + 1) (omega arith)) [
      | inl f ↦ (let high = f.within in subst (λ (o : Option ℕ). EndAndStart o text (unwrap_or o (length text)) (word_back false text (unwrap_or o (length text)))) (sym (end_is text place f)) (refl, word_behind text f.at f.passes (omega arith)))
      | inr none ↦ subst (λ (o : Option ℕ). EndAndStart o text (unwrap_or o (length text)) (word_back false text (unwrap_or o (length text)))) (sym (end_is_none text place none)) (refl, last_start text)
    ]
