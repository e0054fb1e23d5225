-- What a contract sees of a batch: its request, its number, its items, and whether it is the last one.
use Rattle.std.specs.Prelude.{◌≡◌, ℕ, ◌<◌, ◌≤◌, nat_lt, Bool, List, [], ◌∷◌, ◌++◌, Option, None, Some, if◌then◌else◌}
use Rattle.std.specs.List.{All}
use Prim.Native.Nat.{zero, suc}
use Rattle.text_doc.specs.Document.{Document}
use Rattle.requests.specs.declared.items.Items.{Items}
use Rattle.requests.specs.declared.items.Items.TheVariants.{Completions, Suggestion, Verdict}
use Rattle.requests.specs.Requests.{RequestFields}
use Rattle.requests.specs.Batching.{batch_count, items_of, is_last}

-- a part of the answer to a request
pub record BatchFields : Type 0 where
  pub request : RequestFields
  pub number : ℕ
  pub items : Items
  pub last : Bool

-- it is one of the batches that the answer to its request is cut into
pub record IsBatch (b : BatchFields) : Type 0 where
  pub number_within : b.number < batch_count b.request
  pub items_are : b.items ≡ items_of b.request b.number
  pub last_is : b.last ≡ is_last b.request b.number

-- the batch with this number
abbrev pub batch_at : RequestFields → ℕ → BatchFields
batch_at request number = record {
  request = request;
  number = number;
  items = items_of request number;
  last = is_last request number;
}

-- the batch with this number; None where the answer to the request has no such batch
abbrev pub numbered : RequestFields → ℕ → Option BatchFields
numbered request number = if nat_lt number (batch_count request) then Some (batch_at request number) else None

-- the first batches of the answer to a request, as many as said
abbrev pub batches : RequestFields → ℕ → List BatchFields
batches request zero = []
batches request (suc count) = batches request count ++ batch_at request count ∷ []

-- no completion replaces more than what stands before the cursor
abbrev pub IsWithin : Document → Items → Type 0
IsWithin doc (Completions items) = All (λ item. item.back ≤ doc.cursor) items
IsWithin doc (Suggestion text) = Unit {0}
IsWithin doc (Verdict verdict) = Unit {0}
