-- What a contract sees of the whole answer to a request: the request, and how many batches were cut from the answer.
use Rattle.std.specs.Prelude.{ℕ, ◌+◌, ◌-◌, ◌≤◌, min, List, [], ◌∷◌, ◌++◌}
use Prim.Native.Nat.{zero, suc}
use Rattle.requests.specs.declared.items.Items.{Items}
use Rattle.requests.specs.Requests.{RequestFields}
use Rattle.requests.specs.Batching.{batch_count, count_in, part_of}

-- a request, and how many batches of the answer to it were given
pub record AnswerFields : Type 0 where
  pub request : RequestFields
  pub given : ℕ

-- no more batches were given than the answer has
pub record IsAnswer (a : AnswerFields) : Type 0 where
  pub within : a.given ≤ batch_count a.request

-- the answer of which no batch was given
abbrev pub new_answer : RequestFields → AnswerFields
new_answer request = record { request = request; given = 0 }

-- the answer that gave its next batch, or has given all
abbrev pub after_batch : AnswerFields → AnswerFields
after_batch a = record a { given = min (a.given + 1) (batch_count a.request) }

-- the last parts of an answer, as many as said, the last one first
abbrev pub parts_left : Items → ℕ → List Items
parts_left answer zero = []
parts_left answer (suc left) = parts_left answer left ++ part_of answer (count_in answer - suc left) ∷ []
