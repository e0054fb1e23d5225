-- The binding with the fewest `Any` is chosen, and fires.
use Rattle.std.proofs.Common.{◌≡◌, ℕ, ◌+◌, ◌-◌, ◌<◌, ◌≤◌, Bool, true, false, cond, not, ◌&&◌, ◌||◌, List, [], ◌∷◌, ◌++◌, length, take, Some, None, refl, ap, ◌∙◌, arith, unwrap_or, ltb, leb}
use Prim.Native.Nat.{zero, suc}
use Rattle.std.specs.List.{All, filter, list_all, list_any}
use Rattle.std.specs.Option.{option_map, option_or}
use Rattle.std.proofs.lemmas.Bool.{le-leb, lt-ltb}
use Rattle.std.proofs.lemmas.List.{length-map}
use Rattle.std.proofs.lemmas.List.Elements.{filter-append, All-head, All-tail}
use Rattle.key_names.specs.declared.key.Key.{Key}
use Rattle.key_names.specs.declared.key.KeyPress.{KeyPress}
use Rattle.key_proc.specs.declared.facts.Fact.{Fact}
use Rattle.key_proc.specs.declared.bindings.Binding.{Binding}
use Rattle.key_proc.specs.declared.held.Fired.TheVariants.{Dropped}
use Rattle.key_proc.specs.Firing.{keys_of, any_of, active, chosen, matching, eager_matching, longer, fire_on, fired, fired_on_longest, waiting, fires}
use Rattle.key_proc.specs.Laws.{HasFewestAny, MayFire, NoneOnLonger}
use Rattle.key_proc.proofs.Choosing.{last_least-is}

filtered_by : (test passes : Binding → Bool) (x : Binding) (rest : List Binding) (t : Bool) → (t ≡ true → passes x ≡ true) → list_all passes rest ≡ true →
    list_all passes (cond t (x ∷ rest) rest) ≡ true
filtered_by test passes x rest true here more = rw (here refl) more
filtered_by test passes x rest false here more = more

list_all-filtered : (test passes : Binding → Bool) (xs : List Binding) → All (λ x. test x ≡ true → passes x ≡ true) xs → list_all passes (filter test xs) ≡ true
list_all-filtered test passes [] all = refl
list_all-filtered test passes (x ∷ xs) all =
    filtered_by test passes x (filter test xs) (test x) (All-head (λ y. test y ≡ true → passes y ≡ true) x xs all)
    (list_all-filtered test passes xs (All-tail (λ y. test y ≡ true → passes y ≡ true) x xs all))

-- the binding with the fewest `Any` is chosen
pub chosen-fewest : (test : Binding → Bool) (before : List Binding) (b : Binding) (after : List Binding) → HasFewestAny test before b after →
    chosen (filter test (before ++ b ∷ after)) ≡ Some b
chosen-fewest test before b after is =
    let parts : filter test (before ++ b ∷ after) ≡ filter test before ++ b ∷ filter test after =
    filter-append test before (b ∷ after) ∙ ap (λ t. filter test before ++ cond t (b ∷ filter test after) (filter test after)) is.passes
    in
    ap chosen parts
    ∙ last_least-is any_of (filter test before) b (filter test after)
    (record {
      earlier = list_all-filtered test (λ y. leb (any_of b) (any_of y)) before (λ k d lt e. le-leb (any_of b) _ (is.earlier k d lt e));
      later = list_all-filtered test (λ y. ltb (any_of b) (any_of y)) after (λ k d lt e. lt-ltb (any_of b) _ (is.later k d lt e));
    })

-- under the rule of eager bindings
pub eager-fires : (table : List Binding) (facts : Fact → Bool) (first : KeyPress) (more : List KeyPress) (flush : Bool) (before : List Binding) (b : Binding) (after : List Binding) →
    active table facts ≡ before ++ b ∷ after → HasFewestAny (eager_matching (keys_of (first ∷ more))) before b after →
    fires table facts (first ∷ more) flush ≡ fire_on first more (length (first ∷ more)) b
eager-fires table facts first more flush before b after parts is =
    let n : ℕ = length (first ∷ more) in
    let best : chosen (filter (eager_matching (keys_of (first ∷ more))) (active table facts)) ≡ Some b =
    ap (λ bs. chosen (filter (eager_matching (keys_of (first ∷ more))) bs)) parts ∙ chosen-fewest (eager_matching (keys_of (first ∷ more))) before b after is
    in
    ap
    (λ o. unwrap_or (option_or (option_map (fire_on first more n) o) (option_or (waiting (not flush && list_any (longer (keys_of (first ∷ more))) (active table facts))) (fired_on_longest first more (active table facts) n))) (Dropped first))
    best

none_by : (test : Binding → Bool) (x : Binding) (xs : List Binding) (t : Bool) (rest : List Binding) → (t || list_any test xs) ≡ false → (list_any test xs ≡ false → rest ≡ []) → cond t (x ∷ rest) rest ≡ []
none_by test x xs true rest e to = absurd cc
none_by test x xs false rest e to = to e

none_pass : (test : Binding → Bool) (xs : List Binding) → list_any test xs ≡ false → filter test xs ≡ []
none_pass test [] e = refl
none_pass test (x ∷ xs) e = none_by test x xs (test x) (filter test xs) e (none_pass test xs)

fired_none : (first : KeyPress) (more : List KeyPress) (n : ℕ) (test : Binding → Bool) (bs : List Binding) → list_any test bs ≡ false → fired first more n (filter test bs) ≡ None
fired_none first more n test bs e = ap (fired first more n) (none_pass test bs e)

longest_here : (first : KeyPress) (more : List KeyPress) (bs : List Binding) (n : ℕ) (b : Binding) → 1 ≤ n →
    chosen (filter (matching (take n (keys_of (first ∷ more)))) bs) ≡ Some b → fired_on_longest first more bs n ≡ Some (fire_on first more n b)
longest_here first more bs zero b some best = absurd (omega arith)
longest_here first more bs (suc n) b some best = ap (λ o. option_or (option_map (fire_on first more (suc n)) o) (fired_on_longest first more bs n)) best

-- on the longest front that a binding matches
longest_at : (first : KeyPress) (more : List KeyPress) (bs : List Binding) (n d : ℕ) (b : Binding) (m : ℕ) → m ≡ n + d → 1 ≤ n →
    ((k : ℕ) → n < k → k ≤ m → list_any (matching (take k (keys_of (first ∷ more)))) bs ≡ false) →
    chosen (filter (matching (take n (keys_of (first ∷ more)))) bs) ≡ Some b →
    fired_on_longest first more bs m ≡ Some (fire_on first more n b)
longest_at first more bs n zero b m e some none best =
    let same : m ≡ n = omega arith in
    ap (fired_on_longest first more bs) same ∙ longest_here first more bs n b some best
longest_at first more bs n (suc d) b zero e some none best = absurd (omega arith)
longest_at first more bs n (suc d) b (suc m) e some none best =
    let less : m ≡ n + d = omega arith in
    ap (λ o. option_or o (fired_on_longest first more bs m)) (fired_none first more (suc m) (matching (take (suc m) (keys_of (first ∷ more)))) bs (none (suc m) (omega arith) (omega arith)))
    ∙ longest_at first more bs n d b m less some (λ k above within. none k above (omega arith)) best

-- under the rule of the longest front
pub longest-fires : (table : List Binding) (facts : Fact → Bool) (first : KeyPress) (more : List KeyPress) (flush : Bool) (before : List Binding) (b : Binding) (after : List Binding) (n : ℕ) →
    active table facts ≡ before ++ b ∷ after → MayFire (active table facts) (keys_of (first ∷ more)) flush → NoneOnLonger (active table facts) (keys_of (first ∷ more)) n →
    1 ≤ n → n ≤ length (first ∷ more) → HasFewestAny (matching (take n (keys_of (first ∷ more)))) before b after →
    fires table facts (first ∷ more) flush ≡ fire_on first more n b
longest-fires table facts first more flush before b after n parts may none some few is =
    let bs : List Binding = active table facts in
    let keys : List Key = keys_of (first ∷ more) in
    let m : ℕ = length (first ∷ more) in
    let size : length keys ≡ m = length-map (first ∷ more) (λ press. press.key) in
    let best : chosen (filter (matching (take n keys)) bs) ≡ Some b =
    ap (λ xs. chosen (filter (matching (take n keys)) xs)) parts ∙ chosen-fewest (matching (take n keys)) before b after is
    in
    let front : fired_on_longest first more bs m ≡ Some (fire_on first more n b) =
    longest_at first more bs n (m - n) b m (omega arith) some (λ k above within. none k above (omega arith)) best
    in
    ap (λ o. unwrap_or (option_or o (option_or (waiting (not flush && list_any (longer keys) bs)) (fired_on_longest first more bs m))) (Dropped first)) (fired_none first more m (eager_matching keys) bs may.not_eager)
    ∙ ap (λ t. unwrap_or (option_or (waiting t) (fired_on_longest first more bs m)) (Dropped first)) may.not_awaited
    ∙ ap (λ o. unwrap_or o (Dropped first)) front
