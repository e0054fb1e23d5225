-- All completions of a document replace the typed word, so they give the same text where their own texts are equal.
use Rattle.std.proofs.Common.{◌≡◌, ℕ, ◌-◌, ◌≤◌, Bool, true, false, cond, not, List, [], ◌∷◌, ◌++◌, length, take, drop, map, filter, Option, Some, None, refl, sym, ap, ◌∙◌, ⊎_elim, arith}
use Rattle.std.specs.List.{All}
use Rattle.std.specs.Str.{bytes_eq}
use Rattle.std.proofs.lemmas.Bool.{cases_Bool}
use Rattle.std.proofs.lemmas.List.{append_cancel_left, append_cancel_right, take-append-drop, take-take, length-take}
use Rattle.std.proofs.lemmas.List.Elements.{All-nil, All-cons, All-head, All-tail, All-same, All-map, All-filter, All-append, All-weaker}
use Rattle.std.proofs.lemmas.Slice.Eq.{bytes_eq-Decides}
use Rattle.text_doc.specs.Document.{Document}
use Rattle.text_doc.specs.declared.completions.Completion.{Completion}
use Rattle.completers.specs.declared.options.NestedOption.{NestedOption}
use Rattle.completers.specs.Typed.{typed_len, typed_word}
use Rattle.completers.specs.Words.{completion, fits, word_items}
use Rattle.completers.specs.Nested.{trimmed, has_space, behind_run, first_run, option_of, words_of, inner_items, nested_items}
use Rattle.completers.specs.Trees.{Tree, words, nested, merged, distinct}
use Rattle.completers.specs.Listed.{before_cursor, given_text, first_givers, distinct_items, all_items}
use Rattle.completers.specs.Gathered.{first_texts, own_texts}
use Rattle.completers.proofs.TypedLemmas.{typed_len-le}
use Rattle.completers.proofs.NestingLemmas.{typed_len-trimmed, typed_len-behind_run}

-- the completions replace `n` characters
abbrev pub Replace : ℕ → List Completion → Type 0
Replace n items = All (λ item. item.back ≡ n) items

word_items-Replace : (n : ℕ) (middle : Bool) (listed : List (List ℕ)) (before : List ℕ) → typed_len before ≡ n → Replace n (word_items middle listed before)
word_items-Replace n middle listed before is =
    All-map (λ item. item.back ≡ n) (completion (typed_len before)) (filter (fits middle (typed_word before)) listed) (λ k d within. is)

inner_items-Replace : (n : ℕ) (found : Option (List (List ℕ))) (rest : List ℕ) → typed_len rest ≡ n → Replace n (inner_items found rest)
inner_items-Replace n None rest is = All-nil (λ (item : Completion). item.back ≡ n)
inner_items-Replace n (Some listed) rest is = word_items-Replace n false listed rest is

nested_items-Replace : (options : List NestedOption) (before : List ℕ) → Replace (typed_len before) (nested_items options before)
nested_items-Replace options before =
    let text = trimmed before in
    let n = typed_len before in
    let inner = inner_items (words_of (option_of (first_run text) options)) (behind_run text) in
    let outer = word_items false (map (λ (option : NestedOption). option.name) options) text in
    let P : Completion → Type 0 = λ item. item.back ≡ n in
    ⊎_elim
    (λ some. All-same P (nested_items options before) inner (ap (λ b. cond b inner outer) some) (inner_items-Replace n _ (behind_run text) (typed_len-behind_run text some ∙ typed_len-trimmed before)))
    (λ none. All-same P (nested_items options before) outer (ap (λ b. cond b inner outer) none) (word_items-Replace n false _ text (typed_len-trimmed before)))
    (cases_Bool (has_space text))

first_givers-All : (P : Completion → Type 0) (d : Document) (items : List Completion) → All P items → All P (first_givers d items)
first_givers-All P d [] all = all
first_givers-All P d (item ∷ items) all =
    All-cons P item _ (All-head P item items all) (All-filter _ P (first_givers d items) (first_givers-All P d items (All-tail P item items all)))

-- all completions of a tree replace the typed word
pub all_items-Replace : (tree : Tree) (d : Document) → Replace (typed_len (before_cursor d)) (all_items tree d)
all_items-Replace (words listed middle) d = word_items-Replace (typed_len (before_cursor d)) middle listed (before_cursor d) refl
all_items-Replace (nested options) d = nested_items-Replace options (before_cursor d)
all_items-Replace (merged first second) d =
    All-append (λ item. item.back ≡ typed_len (before_cursor d)) (all_items first d) (all_items second d) (all_items-Replace first d) (all_items-Replace second d)
all_items-Replace (distinct tree) d =
    All-filter _ (λ item. item.back ≡ typed_len (before_cursor d)) (first_givers d (all_items tree d)) (first_givers-All (λ item. item.back ≡ typed_len (before_cursor d)) d (all_items tree d) (all_items-Replace tree d))

-- so none reaches before the start of the text
pub reach_all : (tree : Tree) (d : Document) → All (λ item. item.back ≤ d.cursor) (all_items tree d)
reach_all tree d =
    let few = typed_len-le (before_cursor d) in
    All-weaker (λ item. item.back ≡ typed_len (before_cursor d)) (λ item. item.back ≤ d.cursor) (λ item is. omega (arith, is, few, length-take d.cursor d.text)) (all_items tree d) (all_items-Replace tree d)

same_tests : (p q : Bool) → (p ≡ true → q ≡ true) → (q ≡ true → p ≡ true) → p ≡ q
same_tests true q there back = sym (there refl)
same_tests false true there back = back refl
same_tests false false there back = refl

inside_same : (front x y rest : List ℕ) → bytes_eq (front ++ x ++ rest) (front ++ y ++ rest) ≡ bytes_eq x y
inside_same front x y rest =
    let whole = bytes_eq-Decides (front ++ x ++ rest) (front ++ y ++ rest) in
    let part = bytes_eq-Decides x y in
    same_tests _ _ (λ same. part.1 (append_cancel_left front x y (append_cancel_right (front ++ x) (front ++ y) rest (whole.0 same))))
    (λ same. whole.1 (ap (λ t. front ++ t ++ rest) (part.0 same)))

given_at : (d : Document) (n : ℕ) (item : Completion) → item.back ≡ n → given_text d item ≡ take (d.cursor - n) d.text ++ item.text ++ drop d.cursor d.text
given_at d n item is = ap (λ k. take (d.cursor - k) d.text ++ item.text ++ drop d.cursor d.text) is

given_same : (d : Document) (n : ℕ) (a b : Completion) → a.back ≡ n → b.back ≡ n → bytes_eq (given_text d a) (given_text d b) ≡ bytes_eq a.text b.text
given_same d n a b p q =
    ap (λ t. bytes_eq t (given_text d b)) (given_at d n a p) ∙ ap (λ t. bytes_eq (take (d.cursor - n) d.text ++ a.text ++ drop d.cursor d.text) t) (given_at d n b q)
    ∙ inside_same (take (d.cursor - n) d.text) a.text b.text (drop d.cursor d.text)

filter_agree_on : (P : Completion → Type 0) (p q : Completion → Bool) → ((x : Completion) → P x → p x ≡ q x) → (items : List Completion) → All P items → filter p items ≡ filter q items
filter_agree_on P p q agree [] all = refl
filter_agree_on P p q agree (item ∷ items) all =
    ap (λ b. cond b (item ∷ filter p items) (filter p items)) (agree item (All-head P item items all))
    ∙ ap (λ ys. cond (q item) (item ∷ ys) ys) (filter_agree_on P p q agree items (All-tail P item items all))

-- the first givers of a text are the first with their own text
givers_by_text : (d : Document) (n : ℕ) (items : List Completion) → Replace n items → first_givers d items ≡ first_texts items
givers_by_text d n [] all = refl
givers_by_text d n (item ∷ items) all =
    let P : Completion → Type 0 = λ x. x.back ≡ n in
    let later = All-tail P item items all in
    let same = givers_by_text d n items later in
    ap (λ ys. item ∷ ys)
    (ap (filter (λ x. not (bytes_eq (given_text d x) (given_text d item)))) same
    ∙ filter_agree_on P _ _ (λ x back. ap not (given_same d n x item back (All-head P item items all))) (first_texts items)
    (All-same P (first_texts items) (first_givers d items) (sym same) (first_givers-All P d items later)))

-- the present text is what the typed word gives
present_is : (d : Document) → d.cursor ≤ length d.text
    → d.text ≡ take (d.cursor - typed_len (before_cursor d)) d.text ++ typed_word (before_cursor d) ++ drop d.cursor d.text
present_is d within =
    let before = before_cursor d in
    let n = typed_len before in
    let few = typed_len-le before in
    let size : length before ≡ d.cursor = omega (arith, length-take d.cursor d.text) in
    let start : length before - n ≡ d.cursor - n = omega arith in
    let front : take (d.cursor - n) before ≡ take (d.cursor - n) d.text = take-take (d.cursor - n) d.cursor d.text (omega arith) in
    let cut : take (d.cursor - n) d.text ++ typed_word before ≡ before =
    ap (λ t. t ++ typed_word before) (sym front) ∙ ap (λ k. take (d.cursor - n) before ++ drop k before) start ∙ take-append-drop (d.cursor - n) before in
    sym (ap (λ t. t ++ drop d.cursor d.text) cut ∙ take-append-drop d.cursor d.text)

-- what the walk keeps is what the definition keeps
pub distinct_by_text : (tree : Tree) (d : Document) → d.cursor ≤ length d.text
    → own_texts (typed_word (before_cursor d)) (all_items tree d) ≡ distinct_items d (all_items tree d)
distinct_by_text tree d within =
    let n = typed_len (before_cursor d) in
    let typed = typed_word (before_cursor d) in
    let items = all_items tree d in
    let P : Completion → Type 0 = λ x. x.back ≡ n in
    let all = all_items-Replace tree d in
    let gives : (x : Completion) → P x → bytes_eq (given_text d x) d.text ≡ bytes_eq x.text typed =
    λ x back. ap (λ t. bytes_eq t d.text) (given_at d n x back)
    ∙ ap (λ t. bytes_eq (take (d.cursor - n) d.text ++ x.text ++ drop d.cursor d.text) t) (present_is d within)
    ∙ inside_same (take (d.cursor - n) d.text) x.text typed (drop d.cursor d.text) in
    sym (filter_agree_on P _ _ (λ x back. ap not (gives x back)) (first_givers d items) (first_givers-All P d items all)
    ∙ ap (filter (λ x. not (bytes_eq x.text typed))) (givers_by_text d n items all))
