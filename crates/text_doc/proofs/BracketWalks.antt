-- What a walk from a bracket has met: the depth of its own kind.
use Prim.Native.Nat.{suc}
use Rattle.std.proofs.Common.{◌≡◌, ℕ, ◌+◌, ◌-◌, ◌<◌, ◌≤◌, Bool, true, false, cond, List, length, get_or, take, drop, Some, None, refl, ap, ◌∙◌, arith, eqb, inl, inr}
use Rattle.std.proofs.lemmas.Bool.{cases_lt}
use Rattle.std.proofs.lemmas.Bool.Decides.{nat_tests}
use Rattle.std.proofs.lemmas.List.{length-drop, get_or-drop, drop_more}
use Rattle.std.proofs.lemmas.List.Sums.{sum_by_more, sum_by-cons}
use Rattle.text_doc.specs.Brackets.{count_between, is_balanced, match_ahead, match_back}
use Rattle.text_doc.proofs.Walks.{first_found, first_none, last_found, last_none}

count_of_none : (c : ℕ) (text : List ℕ) (a : ℕ) → count_between c text a a ≡ 0
unfolding count_between
count_of_none c text a = let none : a - a ≡ 0 = omega arith in rw none refl

-- one more character at the end of a range
count_between_more : (c : ℕ) (text : List ℕ) (a i : ℕ) → a ≤ i → i < length text → count_between c text a (i + 1) ≡ count_between c text a i + cond (eqb (get_or text i 0) c) 1 0
unfolding count_between
count_between_more c text a i lo hi =
    let longer : i + 1 - a ≡ i - a + 1 = omega arith in
    let place : a + (i - a) ≡ i = omega arith in
    let within : i - a < length (drop a text) = omega (arith, length-drop a text) in
    let here : get_or (drop a text) (i - a) 0 ≡ get_or text i 0 = get_or-drop a text (i - a) 0 ∙ ap (λ j. get_or text j 0) place in
    rw (longer, sum_by_more (λ x. cond (eqb x c) 1 0) (drop a text) (i - a) 0 within, here) refl

-- one more character in front of a range
count_between_front : (c : ℕ) (text : List ℕ) (i b : ℕ) → i < b → b ≤ length text → count_between c text i b ≡ cond (eqb (get_or text i 0) c) 1 0 + count_between c text (i + 1) b
unfolding count_between
count_between_front c text i b lo hi =
    let longer : b - i ≡ suc (b - (i + 1)) = omega arith in
    rw (longer, drop_more text i 0 (omega arith), sum_by-cons (λ x. cond (eqb x c) 1 0) (get_or text i 0) (take (b - (i + 1)) (drop (i + 1) text))) refl

unequal : (a b : ℕ) → b < a → eqb a b ≡ false
unequal a b h = grind (arith, nat_tests)

unequal_below : (a b : ℕ) → a < b → eqb a b ≡ false
unequal_below a b h = grind (arith, nat_tests)

equal : (a b : ℕ) → a ≡ b → eqb a b ≡ true
equal a b h = grind (arith, nat_tests)

if_le_one : (b : Bool) → cond b 1 0 ≤ 1
if_le_one true = omega arith
if_le_one false = omega arith

-- a walk from the opening bracket at the cursor has come to `at`: `depth` of its kind are open, and none has closed it
pub record IsOpen (opening closing : ℕ) (text : List ℕ) (cursor at depth : ℕ) : Type 0 where
  pub some : 0 < depth
  pub few : depth + cursor ≤ at
  pub counted : count_between opening text cursor at ≡ count_between closing text cursor at + depth
  pub none_before : (k : ℕ) → cursor < k → k < at → is_balanced opening closing text cursor (k + 1) ≡ false

pub IsOpen-front : (opening closing : ℕ) (text : List ℕ) (cursor : ℕ) → cursor < length text → get_or text cursor 0 ≡ opening → (opening ≡ closing → ⊥) → IsOpen opening closing text cursor (cursor + 1) 1
IsOpen-front opening closing text cursor within here different = record {
  some = omega arith;
  few = omega arith;
  counted = grind (arith, nat_tests, count_between_more opening text cursor cursor (omega arith) within, count_between_more closing text cursor cursor (omega arith) within, count_of_none opening text cursor, count_of_none closing text cursor);
  none_before = λ k lo hi. absurd (omega arith);
}

-- one character further, the depth is changed by that character
pub IsOpen-more : (opening closing : ℕ) (text : List ℕ) (cursor at depth next : ℕ) → IsOpen opening closing text cursor at depth → cursor < at → at < length text → next + cond (eqb (get_or text at 0) closing) 1 0 ≡ depth + cond (eqb (get_or text at 0) opening) 1 0 → 0 < next → IsOpen opening closing text cursor (at + 1) next
IsOpen-more opening closing text cursor at depth next h above within changed positive =
    let few = h.few in
    let grown = if_le_one (eqb (get_or text at 0) opening) in
    let counted = h.counted in
    let opened = count_between_more opening text cursor at (omega arith) within in
    let closed = count_between_more closing text cursor at (omega arith) within in
    let now : count_between opening text cursor (at + 1) ≡ count_between closing text cursor (at + 1) + next = omega arith in
    record {
      some = positive;
      few = omega arith;
      counted = now;
      none_before = λ k lo hi. elim (cases_lt k at) [
        | inl below ↦ h.none_before k lo below
        | inr last ↦ (let same : k ≡ at = omega arith in rw same (unequal (count_between opening text cursor (at + 1)) (count_between closing text cursor (at + 1)) (omega arith)))
      ];
    }

-- where no bracket of the kind is open any more, its match stands
pub match_ahead_found : (opening closing : ℕ) (text : List ℕ) (cursor at depth next : ℕ) → IsOpen opening closing text cursor at depth → cursor < at → at < length text → next + cond (eqb (get_or text at 0) closing) 1 0 ≡ depth + cond (eqb (get_or text at 0) opening) 1 0 → next ≡ 0 → Some at ≡ match_ahead opening closing text cursor
unfolding match_ahead
match_ahead_found opening closing text cursor at depth next h above within changed none_left =
    let counted = h.counted in
    let opened = count_between_more opening text cursor at (omega arith) within in
    let closed = count_between_more closing text cursor at (omega arith) within in
    let even : count_between opening text cursor (at + 1) ≡ count_between closing text cursor (at + 1) = omega arith in
    first_found (λ j. is_balanced opening closing text cursor (j + 1)) (cursor + 1) (length text) at (omega arith) within (equal _ _ even) (λ k lo hi. h.none_before k (omega arith) hi)

-- no match where the walk has come to the end
pub match_ahead_none : (opening closing : ℕ) (text : List ℕ) (cursor at depth : ℕ) → IsOpen opening closing text cursor at depth → length text ≤ at → None ≡ match_ahead opening closing text cursor
unfolding match_ahead
match_ahead_none opening closing text cursor at depth h past =
    first_none (λ j. is_balanced opening closing text cursor (j + 1)) (cursor + 1) (length text) (λ k lo hi. h.none_before k (omega arith) (omega arith))

-- a walk back from the closing bracket at the cursor has come to `at`: `depth` of its kind wait, and none has opened it
pub record IsClosing (opening closing : ℕ) (text : List ℕ) (cursor at depth : ℕ) : Type 0 where
  pub some : 0 < depth
  pub few : depth + at ≤ cursor + 1
  pub counted : count_between closing text at (cursor + 1) ≡ count_between opening text at (cursor + 1) + depth
  pub none_behind : (k : ℕ) → at ≤ k → k < cursor → is_balanced opening closing text k (cursor + 1) ≡ false

pub IsClosing-front : (opening closing : ℕ) (text : List ℕ) (cursor : ℕ) → cursor < length text → get_or text cursor 0 ≡ closing → (opening ≡ closing → ⊥) → IsClosing opening closing text cursor cursor 1
IsClosing-front opening closing text cursor within here different = record {
  some = omega arith;
  few = omega arith;
  counted = grind (arith, nat_tests, count_between_more opening text cursor cursor (omega arith) within, count_between_more closing text cursor cursor (omega arith) within, count_of_none opening text cursor, count_of_none closing text cursor);
  none_behind = λ k lo hi. absurd (omega arith);
}

-- one character further back, the depth is changed by that character
pub IsClosing-more : (opening closing : ℕ) (text : List ℕ) (cursor at depth next : ℕ) → IsClosing opening closing text cursor (at + 1) depth → at < cursor → cursor < length text → next + cond (eqb (get_or text at 0) opening) 1 0 ≡ depth + cond (eqb (get_or text at 0) closing) 1 0 → 0 < next → IsClosing opening closing text cursor at next
IsClosing-more opening closing text cursor at depth next h below within changed positive =
    let few = h.few in
    let grown = if_le_one (eqb (get_or text at 0) closing) in
    let counted = h.counted in
    let opened = count_between_front opening text at (cursor + 1) (omega arith) (omega arith) in
    let closed = count_between_front closing text at (cursor + 1) (omega arith) (omega arith) in
    let now : count_between closing text at (cursor + 1) ≡ count_between opening text at (cursor + 1) + next = omega arith in
    record {
      some = positive;
      few = omega arith;
      counted = now;
      none_behind = λ k lo hi. elim (cases_lt at k) [
        | inl behind ↦ h.none_behind k (omega arith) hi
        | inr first ↦ (let same : k ≡ at = omega arith in rw same (unequal_below (count_between opening text at (cursor + 1)) (count_between closing text at (cursor + 1)) (omega arith)))
      ];
    }

-- where no bracket of the kind waits any more, its match stands
pub match_back_found : (opening closing : ℕ) (text : List ℕ) (cursor at depth next : ℕ) → IsClosing opening closing text cursor (at + 1) depth → at < cursor → cursor < length text → next + cond (eqb (get_or text at 0) opening) 1 0 ≡ depth + cond (eqb (get_or text at 0) closing) 1 0 → next ≡ 0 → Some at ≡ match_back opening closing text cursor
unfolding match_back
match_back_found opening closing text cursor at depth next h below within changed none_left =
    let counted = h.counted in
    let opened = count_between_front opening text at (cursor + 1) (omega arith) (omega arith) in
    let closed = count_between_front closing text at (cursor + 1) (omega arith) (omega arith) in
    let even : count_between opening text at (cursor + 1) ≡ count_between closing text at (cursor + 1) = omega arith in
    last_found (λ j. is_balanced opening closing text j (cursor + 1)) 0 cursor at (omega arith) below (equal _ _ even) (λ k lo hi. h.none_behind k (omega arith) hi)

-- no match where the walk has come to the start
pub match_back_none : (opening closing : ℕ) (text : List ℕ) (cursor at depth : ℕ) → IsClosing opening closing text cursor at depth → at ≡ 0 → None ≡ match_back opening closing text cursor
unfolding match_back
match_back_none opening closing text cursor at depth h start =
    last_none (λ j. is_balanced opening closing text j (cursor + 1)) 0 cursor (λ k lo hi. h.none_behind k (omega arith) hi)
