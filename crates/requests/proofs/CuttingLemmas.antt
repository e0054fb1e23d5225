-- What is true of the parts that an answer is cut into.
use Rattle.std.proofs.Common.{◌≡◌, ℕ, ◌+◌, ◌-◌, ◌*◌, ◌<◌, ◌≤◌, ◌==◌, Bool, true, false, cond, min, nat_lt, List, [], ◌∷◌, ◌++◌, length, take, drop, Option, None, Some, refl, sym, ap, ◌∙◌, subst, arith}
use Prim.Native.Nat.{zero, suc}
use Rattle.std.proofs.lemmas.Bool.{ltb-true}
use Rattle.std.proofs.lemmas.Bool.Decides.{nat_tests}
use Rattle.std.proofs.lemmas.Grind.{div_ceil_times}
use Rattle.std.proofs.lemmas.List.{length-append, length-take, drop-take, take-take}
use Rattle.std.proofs.Math.Nat.{div-le_self}
use Rattle.text_doc.specs.Document.{Document}
use Rattle.text_doc.specs.declared.completions.Completion.{Completion}
use Rattle.completers.specs.Listed.{all_items}
use Rattle.completers.specs.Trees.{Tree}
use Rattle.requests.specs.declared.items.Items.{Items}
use Rattle.requests.specs.declared.items.Items.TheVariants.{Completions}
use Rattle.requests.specs.declared.requests.Kind.{Kind}
use Rattle.requests.specs.declared.requests.Kind.TheVariants.{Complete, Suggest, Check}
use Rattle.requests.specs.Requests.{RequestFields}
use Rattle.requests.specs.Whole.{completions_of, completions_for, answer_by, answer_to}
use Rattle.requests.specs.Batching.{batch_of, needed_batches, count_in, part_of, batch_count, items_of}
use Rattle.requests.specs.Batches.{IsBatch, batch_at, numbered}
use Rattle.requests.specs.Answers.{after_batch, parts_left}

-- the parts have all of them
pub all_covered : (len : ℕ) → len ≤ 64 * needed_batches len
all_covered len = omega (arith, (div_ceil_times len 64 (omega arith)).0)

next_start : (number : ℕ) → 64 * (number + 1) ≡ 64 * number + 64
next_start number = omega arith

-- what is behind the start of a part, of the completions up to its end
pub part_behind : (items : List Completion) (number : ℕ) → drop (64 * number) (take (64 * (number + 1)) items) ≡ batch_of items number
part_behind items number =
    ap (λ n. drop (64 * number) (take n items)) (next_start number) ∙ drop-take (64 * number) 64 items

-- and what is before it
pub parts_before : (items : List Completion) (number : ℕ) → take (64 * number) (take (64 * (number + 1)) items) ≡ take (64 * number) items
parts_before items number = take-take (64 * number) (64 * (number + 1)) items (omega arith)

-- the parts from one on, by those behind it
pub parts_more : (answer : Items) (number : ℕ) → number < count_in answer
    → parts_left answer (count_in answer - number) ≡ parts_left answer (count_in answer - (number + 1)) ++ part_of answer number ∷ []
parts_more answer number within =
    let left = count_in answer - (number + 1) in
    let is : count_in answer - number ≡ suc left = omega (arith, within) in
    let at : count_in answer - suc left ≡ number = omega (arith, within) in
    ap (parts_left answer) is ∙ ap (λ n. parts_left answer left ++ part_of answer n ∷ []) at

snoc_long : (xs : List Items) (x : Items) → [] ≡ xs ++ x ∷ [] → ⊥
snoc_long xs x is = omega (arith, ap length is, length-append xs (x ∷ []))

-- lists with one more item are equal in their fronts and in that item
snoc_same : (xs ys : List Items) (x y : Items) → xs ++ x ∷ [] ≡ ys ++ y ∷ [] → (xs ≡ ys) × (x ≡ y)
snoc_same [] [] x y is = (refl, cc)
snoc_same [] (b ∷ ys) x y is = let rest : [] ≡ ys ++ y ∷ [] = cc in absurd (snoc_long ys y rest)
snoc_same (a ∷ xs) [] x y is = let rest : [] ≡ xs ++ x ∷ [] = cc in absurd (snoc_long xs x rest)
snoc_same (a ∷ xs) (b ∷ ys) x y is =
    let first : a ≡ b = cc in
    let rest : xs ++ x ∷ [] ≡ ys ++ y ∷ [] = cc in
    let same = snoc_same xs ys x y rest in
    (cc (first, same.0), same.1)

-- the last of the parts that are left is the next one
pub record Popped (request : RequestFields) (given : ℕ) (parts : List Items) (item : Items) : Type 0 where
  pub within : given < batch_count request
  pub next : item ≡ items_of request given
  pub rest : parts ≡ parts_left (answer_to request) (batch_count request - (given + 1))

popped_by : (request : RequestFields) (given : ℕ) (parts : List Items) (item : Items) (more : Bool) → nat_lt given (batch_count request) ≡ more
    → parts ++ item ∷ [] ≡ parts_left (answer_to request) (batch_count request - given) → Popped request given parts item
popped_by request given parts item true more is =
    let within = ltb-true given (batch_count request) more in
    let same = snoc_same parts _ item _ (is ∙ parts_more (answer_to request) given within) in
    record { within = within; next = same.1; rest = same.0 }
popped_by request given parts item false more is =
    let none : batch_count request - given ≡ 0 = grind (arith, nat_tests) in
    absurd (snoc_long parts item (sym (is ∙ ap (parts_left (answer_to request)) none)))

pub popped : (request : RequestFields) (given : ℕ) (parts : List Items) (item : Items)
    → parts ++ item ∷ [] ≡ parts_left (answer_to request) (batch_count request - given) → Popped request given parts item
popped request given parts item is = popped_by request given parts item (nat_lt given (batch_count request)) refl is

-- there are as many as are said to be left
pub length-parts_left : (answer : Items) (left : ℕ) → length (parts_left answer left) ≡ left
length-parts_left answer zero = refl
length-parts_left answer (suc left) =
    omega (arith, length-append (parts_left answer left) (part_of answer (count_in answer - suc left) ∷ []), length-parts_left answer left)

-- where no part is left, all batches were given
pub none_left : (request : RequestFields) (given : ℕ) (parts : List Items) → given ≤ batch_count request
    → parts ≡ parts_left (answer_to request) (batch_count request - given) → length parts ≡ 0 → batch_count request ≡ given
none_left request given parts within is none =
    omega (arith, within, none, ap length is, length-parts_left (answer_to request) (batch_count request - given))

-- then there is no next batch
pub none_numbered : (request : RequestFields) (given : ℕ) → batch_count request ≡ given → None ≡ numbered request given
none_numbered request given all =
    let past : nat_lt given (batch_count request) ≡ false = grind (arith, nat_tests) in
    ap (λ b. cond b (Some (batch_at request given)) None) (sym past)

-- and asking for it leaves the answer as it is
pub given_all : (request : RequestFields) (given : ℕ) → batch_count request ≡ given
    → record { request = request; given = given } ≡ after_batch (record { request = request; given = given })
given_all request given all =
    let same : given ≡ min (given + 1) (batch_count request) = omega (arith, all) in
    ap (λ (n : ℕ). record { request = request; given = n }) same

-- one more part cut from the end
pub cut_more : (items : List Completion) (behind at : ℕ) (left kept part : List Completion) (parts more : List Items)
    → behind ≡ at + 1 → behind ≤ needed_batches (length items)
    → left ≡ take (64 * behind) items → kept ≡ take (64 * at) left → part ≡ drop (64 * at) left
    → parts ≡ parts_left (Completions items) (needed_batches (length items) - behind) → more ≡ parts ++ Completions part ∷ []
    → (kept ≡ take (64 * at) items) × (more ≡ parts_left (Completions items) (needed_batches (length items) - at))
cut_more items behind at left kept part parts more next within left_is kept_is part_is parts_are more_are =
    let count = needed_batches (length items) in
    let whole : left ≡ take (64 * (at + 1)) items = left_is ∙ ap (λ m. take (64 * m) items) next in
    let here : part ≡ batch_of items at = part_is ∙ ap (drop (64 * at)) whole ∙ part_behind items at in
    let before : parts ≡ parts_left (Completions items) (count - (at + 1)) = parts_are ∙ ap (λ m. parts_left (Completions items) (count - m)) next in (
      kept_is ∙ ap (take (64 * at)) whole ∙ parts_before items at,
      more_are ∙ ap (λ l. parts ++ Completions l ∷ []) here ∙ ap (λ l. l ++ Completions (batch_of items at) ∷ []) before
          ∙ sym (parts_more (Completions items) at (omega (arith, next, within))),
    )

-- so it makes the next batch, which is the last one where no part is left behind it
pub next_is_batch : (request same : RequestFields) (given : ℕ) (parts : List Items) (item : Items) (last : Bool)
    → same ≡ request → Popped request given parts item → last ≡ (length parts == 0)
    → IsBatch (record { request = same; number = given; items = item; last = last })
next_is_batch request same given parts item last is next ends =
    let P : RequestFields → Type 0 = λ r. IsBatch (record { request = r; number = given; items = item; last = last }) in
    let left : length parts ≡ batch_count request - (given + 1) =
    ap length next.rest ∙ length-parts_left (answer_to request) (batch_count request - (given + 1)) in
    let within = next.within in
    let both : (length parts == 0) ≡ (given + 1 == batch_count request) = grind (arith, nat_tests) in
    subst P (sym is) (record { number_within = within; items_are = next.next; last_is = ends ∙ both })

-- an answer has few batches
few_parts : (count : ℕ) → count ≤ 10000 → needed_batches count < 4294967295
few_parts count few = omega (arith, div-le_self count 64)

few_completions : (completer : Option Tree) (doc : Document) → length (completions_of completer doc) ≤ 10000
few_completions None doc = omega arith
few_completions (Some tree) doc = omega (arith, length-take 10000 (all_items tree doc))

few_by : (kind : Kind) (request : RequestFields) → count_in (answer_by kind request) < 4294967295
few_by Complete request = few_parts (length (completions_for request)) (few_completions request.tools.completer request.doc)
few_by Suggest request = omega arith
few_by Check request = omega arith

pub few : (request : RequestFields) → batch_count request < 4294967295
few request = few_by request.kind request

stops_by : (request : RequestFields) (n : ℕ) (b : Bool) → nat_lt n (batch_count request) ≡ b → numbered request (min n (batch_count request)) ≡ numbered request n
stops_by request n true is =
    let lower = ltb-true n (batch_count request) is in
    ap (numbered request) (omega (arith, lower))
stops_by request n false is =
    let count = batch_count request in
    let none : nat_lt (min n count) count ≡ false = grind (arith, nat_tests) in
    ap (λ b. cond b (Some (batch_at request (min n count))) None) none ∙ sym (ap (λ b. cond b (Some (batch_at request n)) None) is)

-- an answer that gave all its batches has no further one, whatever its number
numbered-min : (request : RequestFields) (n : ℕ) → numbered request (min n (batch_count request)) ≡ numbered request n
numbered-min request n = stops_by request n (nat_lt n (batch_count request)) refl

-- the batch with a number, cut from an answer that gave as many before it as there are
pub next_numbered : (request same : RequestFields) (given asked number : ℕ) → same ≡ request → given ≡ min asked (batch_count request) → asked ≡ number
    → numbered same given ≡ numbered request number
next_numbered request same given asked number is given_is asked_is =
    ap (λ r. numbered r given) is ∙ ap (numbered request) given_is ∙ numbered-min request asked ∙ ap (numbered request) asked_is
