-- What a contract sees of a gate: which batches passed it, where it tells them.
use Rattle.std.specs.Prelude.{ℕ, Bool, true, false, List, [], ◌∷◌, ◌++◌, Option}
use Prim.Native.Nat.{zero, suc}
use Rattle.requests.specs.Requests.{RequestFields}
use Rattle.job_desk.specs.Posts.{told_more}

-- a batch that passed: the number of its request, and its own
pub record Passing : Type 0 where
  pub id : ℕ
  pub number : ℕ

-- a gate that one more batch passed, where it did
abbrev pub after_passing : Bool → Option (List Passing) → ℕ → ℕ → Option (List Passing)
after_passing true passed id number = told_more passed (record { id = id; number = number } ∷ [])
after_passing false passed id number = passed

-- the first batches of the answer to a request, as many as said, from number 0 on
abbrev pub passings : RequestFields → ℕ → List Passing
passings request zero = []
passings request (suc count) = passings request count ++ record { id = request.id; number = count } ∷ []
