-- What holds of all batches of an answer.
use Rattle.std.specs.Prelude.{◌≡◌, ℕ, List, [], ◌∷◌, ◌++◌, map, fold}
use Rattle.requests.specs.declared.items.Items.{Items}
use Rattle.requests.specs.declared.items.Items.TheVariants.{Completions}
use Rattle.requests.specs.Requests.{RequestFields}
use Rattle.requests.specs.Whole.{answer_to}
use Rattle.requests.specs.Batching.{batch_count, items_of}
use Rattle.requests.specs.Batches.{batches, IsWithin}

-- items with those of a later batch behind them
abbrev pub joined_with : Items → Items → Items
joined_with (Completions front) (Completions back) = Completions (front ++ back)
joined_with front back = front

-- the items of batches, from the first to the last, in one
abbrev pub joined : List Items → Items
joined [] = Completions []
joined (first ∷ rest) = fold joined_with first rest

-- the batches from the first to the last, joined, are the whole answer
abbrev pub BatchesJoin : Type 0
BatchesJoin = (request : RequestFields) → joined (map (λ batch. batch.items) (batches request (batch_count request))) ≡ answer_to request

-- no completion of an answer, or of a batch of it, replaces more than what stands before the cursor
abbrev pub BatchesReach : Type 0
BatchesReach = (request : RequestFields) → IsWithin request.doc (answer_to request) × ((number : ℕ) → IsWithin request.doc (items_of request number))
