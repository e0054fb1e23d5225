-- A binding whose keys do not agree with those that are held changes nothing of what was found.
use Prim.Native.Nat.{zero, suc}
use Rattle.std.proofs.Common.{◌≡◌, ℕ, Bool, true, false, ◌&&◌, List, [], ◌∷◌, ◌++◌, length, take, refl, sym, ⊎_elim, get_or, ◌+◌, ◌<◌, subst, nat_lt}
use Rattle.std.proofs.lemmas.Bool.{cases_Bool, and_right}
use Rattle.key_names.specs.declared.key.Key.{Key}
use Rattle.key_proc.specs.declared.facts.Fact.{Fact}
use Rattle.key_proc.specs.declared.bindings.Binding.{Binding}
use Rattle.key_proc.specs.declared.choices.Found.{Found}
use Rattle.key_proc.specs.Matching.{matches_key, matches, agrees}
use Rattle.key_proc.specs.Filters.{holds}
use Rattle.key_proc.specs.Firing.{active, matching, eager_matching, longer}
use Rattle.key_proc.specs.Choices.{choice_of, IsFound}
use Rattle.key_proc.proofs.Walk.{best-step, any-same, active-more, active-same}

both_false : (a p q : Bool) → (a && p) ≡ false → (p ≡ false → q ≡ false) → (a && q) ≡ false
both_false true p q e to = to e
both_false false p q e to = refl

matches-front : (bound keys : List Key) (n : ℕ) → agrees bound keys ≡ false → matches bound (take n keys) ≡ false
matches-front [] keys n e = absurd cc
matches-front (first ∷ bound) [] n e = absurd cc
matches-front (first ∷ bound) (key ∷ keys) zero e = refl
matches-front (first ∷ bound) (key ∷ keys) (suc n) e =
    both_false (matches_key first key) (agrees bound keys) (matches bound (take n keys)) e (λ h. matches-front bound keys n h)

matches-all : (bound keys : List Key) → agrees bound keys ≡ false → matches bound keys ≡ false
matches-all [] keys e = absurd cc
matches-all (first ∷ bound) [] e = absurd cc
matches-all (first ∷ bound) (key ∷ keys) e =
    both_false (matches_key first key) (agrees bound keys) (matches bound keys) e (λ h. matches-all bound keys h)

begins-front : (bound keys : List Key) → agrees bound keys ≡ false → matches (take (length keys) bound) keys ≡ false
begins-front [] keys e = absurd cc
begins-front (first ∷ bound) [] e = absurd cc
begins-front (first ∷ bound) (key ∷ keys) e =
    both_false (matches_key first key) (agrees bound keys) (matches (take (length keys) bound) keys) e (λ h. begins-front bound keys h)

-- one more binding whose keys do not agree
unlike : (seen : List Binding) (keys : List Key) (found : Found) (b : Binding) → agrees b.keys keys ≡ false → IsFound seen keys found → IsFound (seen ++ b ∷ []) keys found
unlike seen keys found b e is = record {
  eager = best-step (eager_matching keys) seen b found.eager found.eager false (choice_of b) refl (sym (and_right b.eager (matches b.keys keys) (matches-all b.keys keys e))) refl is.eager;
  longer = any-same (longer keys) seen b found.longer (and_right (nat_lt (length keys) (length b.keys)) (matches (take (length keys) b.keys) keys) (begins-front b.keys keys e)) is.longer;
  one = best-step (matching (take 1 keys)) seen b found.one found.one false (choice_of b) refl (sym (matches-front b.keys keys 1 e)) refl is.one;
  two = best-step (matching (take 2 keys)) seen b found.two found.two false (choice_of b) refl (sym (matches-front b.keys keys 2 e)) refl is.two;
  three = best-step (matching (take 3 keys)) seen b found.three found.three false (choice_of b) refl (sym (matches-front b.keys keys 3 e)) refl is.three;
}

and_same : (a b : Bool) → a ≡ true → (a && b) ≡ false → b ≡ false
and_same true b is e = e
and_same false b is e = absurd cc

-- a walk over a table comes to a binding that may not fire
pub found-same : (facts : Fact → Bool) (table : List Binding) (i : ℕ) (b : Binding) (keys : List Key) (found : Found) →
    i < length table → b ≡ get_or table i b → (agrees b.keys keys && holds facts b.filter) ≡ false →
    IsFound (active (take i table) facts) keys found → IsFound (active (take (i + 1) table) facts) keys found
found-same facts table i b keys found lt at not_both is = ⊎_elim
    (λ (agree : agrees b.keys keys ≡ true).
    subst (λ (xs : List Binding). IsFound xs keys found) (sym (active-same facts table i b lt at (and_same (agrees b.keys keys) (holds facts b.filter) agree not_both))) is)
    (λ (apart : agrees b.keys keys ≡ false). ⊎_elim
    (λ (holding : holds facts b.filter ≡ true).
    subst (λ (xs : List Binding). IsFound xs keys found) (sym (active-more facts table i b lt at holding)) (unlike (active (take i table) facts) keys found b apart is))
    (λ (not_holding : holds facts b.filter ≡ false).
    subst (λ (xs : List Binding). IsFound xs keys found) (sym (active-same facts table i b lt at not_holding)) is)
    (cases_Bool (holds facts b.filter)))
    (cases_Bool (agrees b.keys keys))
