-- Completions with a text of their own, by the texts that a walk has met.
use Rattle.std.proofs.Common.{◌≡◌, ℕ, Bool, true, false, cond, not, ◌&&◌, ◌||◌, List, [], ◌∷◌, ◌++◌, length, filter, refl, sym, ap, ◌∙◌, arith, append_assoc}
use Rattle.std.specs.declared.cmp.Ordering.{Ordering}
use Rattle.std.specs.declared.cmp.Ordering.TheVariants.{Less, Equal, Greater}
use Rattle.std.specs.Ordering.{nat_cmp, is_eq, match_ordering}
use Rattle.std.specs.Cmp.Lexicographic.{slice_cmp}
use Rattle.std.specs.BTreeSet.{insert_key}
use Rattle.std.specs.Bool.{OnFalse}
use Rattle.std.specs.List.{list_any}
use Rattle.std.specs.Str.{bytes_eq}
use Rattle.std.proofs.lemmas.Bool.{not-true, not-false}
use Rattle.std.proofs.lemmas.Bool.Decides.{nat_tests}
use Rattle.std.proofs.lemmas.List.{append-nil}
use Rattle.std.proofs.lemmas.Cmp.{same_from_slice_cmp}
use Rattle.std.proofs.lemmas.Slice.Eq.{bytes_eq-Decides}
use Rattle.std.proofs.lemmas.List.Elements.{filter_agree}
use Rattle.text_doc.specs.declared.completions.Completion.{Completion}
use Rattle.completers.specs.Gathered.{first_texts, chosen}

-- whether a text is among those of some keys
abbrev pub known : {K : Type 0} → (K → List ℕ) → List K → List ℕ → Bool
known text keys t = list_any (λ key. bytes_eq t (text key)) keys

or_twice : (a b : Bool) → (a || (a || b)) ≡ (a || b)
or_twice true b = refl
or_twice false b = refl

or_swap : (a b c : Bool) → (a || (b || c)) ≡ (b || (a || c))
or_swap true true c = refl
or_swap true false c = refl
or_swap false true c = refl
or_swap false false c = refl

known-step : {K : Type 0} (text : K → List ℕ) (o : Ordering) (key x : K) (xs more : List K) (t : List ℕ)
    → (o ≡ Equal → text key ≡ text x) → known text more t ≡ (bytes_eq t (text key) || known text xs t)
    → known text (match_ordering o (key ∷ x ∷ xs) (x ∷ xs) (x ∷ more)) t ≡ (bytes_eq t (text key) || known text (x ∷ xs) t)
known-step text Less key x xs more t same is = refl
known-step text Equal key x xs more t same is =
    sym (ap (λ u. bytes_eq t u || (bytes_eq t (text x) || known text xs t)) (same refl) ∙ or_twice (bytes_eq t (text x)) (known text xs t))
known-step text Greater key x xs more t same is =
    ap (λ b. bytes_eq t (text x) || b) is ∙ or_swap (bytes_eq t (text x)) (bytes_eq t (text key)) (known text xs t)

-- what is known once a key was put into a set
pub known-insert_key : {K : Type 0} (cmp : K → K → Ordering) (text : K → List ℕ) → ((a b : K) → is_eq (cmp a b) ≡ bytes_eq (text a) (text b))
    → (keys : List K) (key : K) (t : List ℕ) → known text (insert_key cmp keys key) t ≡ (bytes_eq t (text key) || known text keys t)
known-insert_key cmp text agree [] key t = refl
known-insert_key cmp text agree (x ∷ xs) key t =
    known-step text (cmp key x) key x xs (insert_key cmp xs key) t
    (λ equal. (bytes_eq-Decides (text key) (text x)).0 (sym (agree key x) ∙ ap is_eq equal))
    (known-insert_key cmp text agree xs key t)

pub list_any_agree : {K : Type 0} (p q : K → Bool) → ((x : K) → p x ≡ q x) → (xs : List K) → list_any p xs ≡ list_any q xs
list_any_agree p q agree [] = refl
list_any_agree p q agree (x ∷ xs) = ap (λ b. b || list_any p xs) (agree x) ∙ ap (λ b. q x || b) (list_any_agree p q agree xs)

pub slices_agree : (xs ys : List ℕ) → is_eq (slice_cmp nat_cmp xs ys) ≡ bytes_eq xs ys
slices_agree xs ys =
    same_from_slice_cmp nat_cmp is_eq bytes_eq refl (λ _ _. refl) (λ _ _. refl) (λ x y xs ys o h. grind (arith, nat_tests)) xs ys (slice_cmp nat_cmp xs ys) refl

-- the completions with a text that was not met
abbrev pub unseen : (List ℕ → Bool) → List Completion → List Completion
unseen seen items = filter (λ item. not (seen item.text)) (first_texts items)

filter-filter : {X : Type 0} (p q : X → Bool) (xs : List X) → filter p (filter q xs) ≡ filter (λ x. q x && p x) xs
filter-filter p q [] = refl
filter-filter p q (x ∷ xs) =
    elim (q x) as (λ b. filter p (cond b (x ∷ filter q xs) (filter q xs)) ≡ cond (b && p x) (x ∷ filter (λ y. q y && p y) xs) (filter (λ y. q y && p y) xs)) [
      | true ↦ ap (λ ys. cond (p x) (x ∷ ys) ys) (filter-filter p q xs)
      | false ↦ filter-filter p q xs
    ]

both_fail : (equal : Bool) (seen_later : Bool) → (equal ≡ true → seen_later ≡ true) → (not equal && not seen_later) ≡ not seen_later
both_fail true b is = ap not (sym (is refl))
both_fail false b is = refl

same_texts : (seen : List ℕ → Bool) (a b : List ℕ) → seen b ≡ true → bytes_eq a b ≡ true → seen a ≡ true
same_texts seen a b met equal = ap seen ((bytes_eq-Decides a b).0 equal) ∙ met

-- a completion whose text was met is left out
pub unseen-met : (seen : List ℕ → Bool) (item : Completion) (items : List Completion) → seen item.text ≡ true → unseen seen (item ∷ items) ≡ unseen seen items
unseen-met seen item items met =
    ap (λ b. cond (not b) (item ∷ filter (λ x. not (seen x.text)) (filter (λ x. not (bytes_eq x.text item.text)) (first_texts items))) (filter (λ x. not (seen x.text)) (filter (λ x. not (bytes_eq x.text item.text)) (first_texts items)))) met
    ∙ filter-filter (λ x. not (seen x.text)) (λ x. not (bytes_eq x.text item.text)) (first_texts items)
    ∙ filter_agree _ _ (λ x. both_fail (bytes_eq x.text item.text) (seen x.text) (same_texts seen x.text item.text met)) (first_texts items)

not_or : (a b : Bool) → (not a && not b) ≡ not (a || b)
not_or true b = refl
not_or false b = refl

-- another one stays, and its text counts as met
pub unseen-new : (seen next : List ℕ → Bool) (item : Completion) (items : List Completion) → seen item.text ≡ false
    → ((t : List ℕ) → next t ≡ (bytes_eq t item.text || seen t)) → unseen seen (item ∷ items) ≡ item ∷ unseen next items
unseen-new seen next item items new more =
    ap (λ b. cond (not b) (item ∷ filter (λ x. not (seen x.text)) (filter (λ x. not (bytes_eq x.text item.text)) (first_texts items))) (filter (λ x. not (seen x.text)) (filter (λ x. not (bytes_eq x.text item.text)) (first_texts items)))) new
    ∙ ap (λ ys. item ∷ ys) (filter-filter (λ x. not (seen x.text)) (λ x. not (bytes_eq x.text item.text)) (first_texts items)
    ∙ filter_agree _ _ (λ x. not_or (bytes_eq x.text item.text) (seen x.text) ∙ ap not (sym (more x.text))) (first_texts items))

-- a walk goes on with an item whose text it had not met
walk_keeps : {K : Type 0} (cmp : K → K → Ordering) (text : K → List ℕ) → ((a b : K) → is_eq (cmp a b) ≡ bytes_eq (text a) (text b))
    → (kept more : List Completion) (item : Completion) (items : List Completion) (whole : List Completion) (keys next : List K) (key : K)
    → text key ≡ item.text → next ≡ insert_key cmp keys key → list_any (λ k. is_eq (cmp key k)) keys ≡ false → more ≡ kept ++ item ∷ []
    → kept ++ unseen (known text keys) (item ∷ items) ≡ whole → more ++ unseen (known text next) items ≡ whole
walk_keeps cmp text agree kept more item items whole keys next key same put new pushed before =
    let unmet : known text keys item.text ≡ false = ap (known text keys) (sym same) ∙ sym (list_any_agree _ _ (agree key) keys) ∙ new in
    let grown : (t : List ℕ) → known text next t ≡ (bytes_eq t item.text || known text keys t) =
    λ t. ap (λ ks. known text ks t) put ∙ known-insert_key cmp text agree keys key t ∙ ap (λ u. bytes_eq t u || known text keys t) same in
    ap (λ ys. ys ++ unseen (known text next) items) pushed ∙ append_assoc kept (item ∷ []) (unseen (known text next) items)
    ∙ sym (ap (λ ys. kept ++ ys) (unseen-new (known text keys) (known text next) item items unmet grown)) ∙ before

-- and leaves out another one
walk_skips : {K : Type 0} (cmp : K → K → Ordering) (text : K → List ℕ) → ((a b : K) → is_eq (cmp a b) ≡ bytes_eq (text a) (text b))
    → (kept : List Completion) (item : Completion) (items : List Completion) (whole : List Completion) (keys next : List K) (key : K)
    → text key ≡ item.text → next ≡ keys → list_any (λ k. is_eq (cmp key k)) keys ≡ true
    → kept ++ unseen (known text keys) (item ∷ items) ≡ whole → kept ++ unseen (known text next) items ≡ whole
walk_skips cmp text agree kept item items whole keys next key same unchanged there before =
    let met : known text keys item.text ≡ true = ap (known text keys) (sym same) ∙ sym (list_any_agree _ _ (agree key) keys) ∙ there in
    ap (λ ks. kept ++ unseen (known text ks) items) unchanged
    ∙ sym (ap (λ ys. kept ++ ys) (unseen-met (known text keys) item items met)) ∙ before

-- the next choice is behind the others
pub chosen_more : (choices : List Bool) (items : List Completion) (choice : Bool) (item : Completion) → length choices ≡ length items
    → chosen (choices ++ choice ∷ []) (items ++ item ∷ []) ≡ chosen choices items ++ cond choice (item ∷ []) []
chosen_more [] [] true item same = refl
chosen_more [] [] false item same = refl
chosen_more [] (x ∷ items) choice item same = absurd (omega (arith, same))
chosen_more (first ∷ choices) [] choice item same = absurd (omega (arith, same))
chosen_more (true ∷ choices) (x ∷ items) choice item same = ap (λ ys. x ∷ ys) (chosen_more choices items choice item (omega (arith, same)))
chosen_more (false ∷ choices) (x ∷ items) choice item same = chosen_more choices items choice item (omega (arith, same))

-- a walk goes on with an item, which it keeps where its text is new
pub walk_goes : {K : Type 0} (cmp : K → K → Ordering) (text : K → List ℕ) → ((a b : K) → is_eq (cmp a b) ≡ bytes_eq (text a) (text b))
    → (kept more : List Completion) (item : Completion) (items : List Completion) (whole : List Completion) (keys next : List K) (key : K) (is_new : Bool)
    → text key ≡ item.text → is_new ≡ not (list_any (λ k. is_eq (cmp key k)) keys) → next ≡ insert_key cmp keys key → OnFalse is_new (next ≡ keys)
    → more ≡ kept ++ cond is_new (item ∷ []) [] → kept ++ unseen (known text keys) (item ∷ items) ≡ whole
    → more ++ unseen (known text next) items ≡ whole
walk_goes cmp text agree kept more item items whole keys next key true same new put unchanged pushed before =
    walk_keeps cmp text agree kept more item items whole keys next key same put (not-true _ (sym new)) pushed before
walk_goes cmp text agree kept more item items whole keys next key false same new put unchanged pushed before =
    ap (λ ys. ys ++ unseen (known text next) items) (pushed ∙ append-nil kept)
    ∙ walk_skips cmp text agree kept item items whole keys next key same unchanged (not-false _ (sym new)) before
