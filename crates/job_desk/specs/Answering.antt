-- What a worker makes of the requests that it is given.
use Rattle.std.specs.Prelude.{◌≡◌, ◌⊎◌, ℕ, ◌+◌, ◌<◌, Option, Bool, true, false, List, [], ◌∷◌, ◌++◌, length, map}
use Prim.Native.Nat.{zero, suc}
use Rattle.requests.specs.Batches.{batch_at}
use Rattle.requests.specs.Batching.{batch_count}
use Rattle.requests.specs.Requests.{RequestFields}
use Rattle.job_desk.specs.Ends.{SenderFields, sends_more}
use Rattle.job_desk.specs.Posts.{Seen, told_more, after_dead, asked_more, raised}
use Rattle.job_desk.specs.Gates.{Passing, passings}
use Rattle.job_desk.specs.declared.letters.Letter.{Letter}
use Rattle.job_desk.specs.declared.letters.Letter.TheVariants.{Answer, NoMemory, Gone}

-- the letter with the batch of this number
abbrev pub answer_letter : RequestFields → ℕ → Letter
answer_letter request number = Answer (batch_at request number)

-- the letters with the first batches of the answer to a request, as many as said, from number 0 on
abbrev pub answers : RequestFields → ℕ → List Letter
answers request zero = []
answers request (suc count) = answers request count ++ answer_letter request count ∷ []

-- a request that was given, how many of its batches were sent, and how many passed the gate
pub record Share : Type 0 where
  pub request : RequestFields
  pub count : ℕ
  pub passed : ℕ

-- all its batches were sent, the last one too
abbrev pub IsWhole : Share → Type 0
IsWhole share = share.count ≡ batch_count share.request

-- its last batch was not sent
abbrev pub IsCut : Share → Type 0
IsCut share = share.count < batch_count share.request

-- the batches that were sent passed the gate, and no other
abbrev pub PassedAlone : Share → Type 0
PassedAlone share = share.passed ≡ share.count

-- one more passed the gate than was sent
abbrev pub PassedUnsent : Share → Type 0
PassedUnsent share = share.passed ≡ share.count + 1

-- the requests, in order
abbrev pub requests_of : List Share → List RequestFields
requests_of shares = map (λ share. share.request) shares

-- all letters with their batches, in order
abbrev pub all_answers : List Share → List Letter
all_answers [] = []
all_answers (share ∷ shares) = answers share.request share.count ++ all_answers shares

-- all batches that passed the gate, in order
abbrev pub all_passings : List Share → List Passing
all_passings [] = []
all_passings (share ∷ shares) = passings share.request share.passed ++ all_passings shares

-- each request was answered whole, or was dead, which the list of numbers tells in order; where memory failed, the last one
-- may be cut short for that, at a batch that passed the gate
abbrev pub Ran : List Share → List ℕ → Bool → Type 0
Ran [] dead failed = (dead ≡ []) × (failed ≡ false)
Ran (share ∷ shares) dead failed =
    (IsWhole share × PassedAlone share × Ran shares dead failed)
    ⊎ (((more : List ℕ) × IsCut share × PassedAlone share × (dead ≡ share.request.id ∷ more) × Ran shares more failed)
    ⊎ (IsCut share × PassedUnsent share × (failed ≡ true) × (dead ≡ []) × (shares ≡ [])))

-- what a post gave and said between two moments: these requests, and that those of these numbers are dead. It was asked once
-- for each batch that passed the gate, and once for each dead request
pub record Gave (old new : Seen) (requests : List RequestFields) (dead : List ℕ) (passed : List Passing) : Type 0 where
  pub taken : new.taken ≡ old.taken + length requests
  pub asked : new.asked ≡ raised old.asked (length passed + length dead)
  pub died : new.dead ≡ old.dead + length dead
  pub given : new.given ≡ told_more old.given requests
  pub refused : new.refused ≡ told_more old.refused dead

-- how the answer to the open request ended: whole, dead, or cut short where memory failed
abbrev pub Ended : Seen → Seen → Share → Bool → Type 0
Ended old new share failed =
    (IsWhole share × PassedAlone share × (new ≡ asked_more old share.passed) × (failed ≡ false))
    ⊎ ((IsCut share × PassedAlone share × (new ≡ after_dead (asked_more old (share.passed + 1)) share.request.id) × (failed ≡ false))
    ⊎ (IsCut share × PassedUnsent share × (new ≡ asked_more old share.passed) × (failed ≡ true)))

-- what a worker works with: what it sees of its post, which batches passed its gate where that is told, and what it sent
pub record AtWork : Type 0 where
  pub post : Seen
  pub gate : Option (List Passing)
  pub mail : SenderFields

abbrev pub at_work : Seen → Option (List Passing) → SenderFields → AtWork
at_work post gate mail = record { post = post; gate = gate; mail = mail }

-- a worker answered the open request of its post; each batch that was sent passed the gate
pub record Answered (old new : AtWork) (request : RequestFields) (failed : Bool) : Type 0 where
  pub count : ℕ
  pub passed : ℕ
  pub sent : new.mail ≡ sends_more old.mail (answers request count)
  pub gate : new.gate ≡ told_more old.gate (passings request passed)
  pub ended : Ended old.post new.post (record { request = request; count = count; passed = passed }) failed

-- a worker took requests from its post, sent the letters with their batches in order, each of which passed the gate, and then
-- these letters behind them
pub record Served (old new : AtWork) (failed : Bool) (behind : List Letter) : Type 0 where
  pub shares : List Share
  pub dead : List ℕ
  pub gave : Gave old.post new.post (requests_of shares) dead (all_passings shares)
  pub gate : new.gate ≡ told_more old.gate (all_passings shares)
  pub sent : new.mail ≡ sends_more old.mail (all_answers shares ++ behind)
  pub ran : Ran shares dead failed

-- the last letters of a worker: `NoMemory` where memory failed, and `Gone`
abbrev pub last_letters : Bool → List Letter
last_letters true = NoMemory ∷ Gone ∷ []
last_letters false = Gone ∷ []
