-- The batches of an answer, joined, are the answer.
use Rattle.std.proofs.Common.{◌≡◌, ℕ, ◌+◌, ◌*◌, List, [], ◌∷◌, ◌++◌, length, take, map, refl, sym, ap, ◌∙◌, arith}
use Prim.Native.Nat.{zero, suc}
use Rattle.std.proofs.lemmas.List.{map-append, take_all}
use Rattle.std.proofs.lemmas.List.Sums.{fold-append}
use Rattle.std.proofs.Math.Seq.{take-add}
use Rattle.text_doc.specs.declared.completions.Completion.{Completion}
use Rattle.requests.specs.declared.items.Items.{Items}
use Rattle.requests.specs.declared.items.Items.TheVariants.{Completions, Suggestion, Verdict}
use Rattle.requests.specs.Requests.{RequestFields}
use Rattle.requests.specs.Whole.{answer_to}
use Rattle.requests.specs.Batching.{batch_of, needed_batches, count_in, part_of, batch_count}
use Rattle.requests.specs.Batches.{BatchFields, batch_at, batches}
use Rattle.requests.specs.Laws.{joined_with, joined}
use Rattle.requests.proofs.CuttingLemmas.{all_covered}

-- the first parts of an answer
abbrev first_parts : Items → ℕ → List Items
first_parts answer zero = []
first_parts answer (suc count) = first_parts answer count ++ part_of answer count ∷ []

items-batches : (request : RequestFields) (count : ℕ) → map (λ (b : BatchFields). b.items) (batches request count) ≡ first_parts (answer_to request) count
items-batches request zero = refl
items-batches request (suc count) =
    map-append (λ (b : BatchFields). b.items) (batches request count) (batch_at request count ∷ [])
    ∙ ap (λ l. l ++ part_of (answer_to request) count ∷ []) (items-batches request count)

joined_more : (parts : List Items) (front back : List Completion) → joined parts ≡ Completions front → joined (parts ++ Completions back ∷ []) ≡ Completions (front ++ back)
joined_more [] front back is = ap (λ a. joined_with a (Completions back)) is
joined_more (first ∷ rest) front back is =
    fold-append joined_with first rest (Completions back ∷ []) ∙ ap (λ a. joined_with a (Completions back)) is

joined_first : (items : List Completion) (count : ℕ) → joined (first_parts (Completions items) count) ≡ Completions (take (64 * count) items)
joined_first items zero = refl
joined_first items (suc count) =
    let next : 64 * count + 64 ≡ 64 * suc count = omega arith in
    joined_more (first_parts (Completions items) count) (take (64 * count) items) (batch_of items count) (joined_first items count)
    ∙ ap Completions (sym (take-add (64 * count) 64 items) ∙ ap (λ n. take n items) next)

joined_all : (answer : Items) → joined (first_parts answer (count_in answer)) ≡ answer
joined_all (Completions items) =
    joined_first items (needed_batches (length items))
    ∙ ap Completions (take_all (64 * needed_batches (length items)) items (all_covered (length items)))
joined_all (Suggestion text) = refl
joined_all (Verdict verdict) = refl

pub joined_batches : (request : RequestFields) → joined (map (λ (b : BatchFields). b.items) (batches request (batch_count request))) ≡ answer_to request
joined_batches request = ap joined (items-batches request (batch_count request)) ∙ joined_all (answer_to request)
