-- What holds of all that a worker does in one call, `serve` or `work`, where `behind` are the letters behind the answers: none
-- of `serve`, and the last letters of `work`.
use Rattle.std.specs.Prelude.{◌≡◌, ◌⊎◌, ℕ, ◌+◌, ◌-◌, ◌≤◌, Bool, true, false, List, [], ◌∷◌, ◌++◌, IsTrue, Contains, count_by}
use Rattle.std.specs.List.{list_all}
use Rattle.job_desk.specs.declared.letters.Letter.{Letter}
use Rattle.job_desk.specs.declared.letters.Letter.TheVariants.{Answer}
use Rattle.requests.specs.Requests.{RequestFields}
use Rattle.requests.specs.Batching.{batch_count}
use Rattle.job_desk.specs.Ends.{sends_more}
use Rattle.job_desk.specs.Posts.{told_more}
use Rattle.job_desk.specs.Answering.{Share, AtWork, IsWhole, requests_of, answers, all_answers, Served}

-- the letter is a batch
abbrev pub is_answer : Letter → Bool
is_answer (Answer batch) = true
is_answer _ = false

-- the letter is the last batch of an answer
abbrev pub is_last_batch : Letter → Bool
is_last_batch (Answer batch) = batch.last
is_last_batch _ = false

-- 1 where memory failed
abbrev pub for_memory : Bool → ℕ
for_memory true = 1
for_memory false = 0

-- what a call says of what it saw and sent
abbrev pub Says : Type 1
Says = AtWork → AtWork → Bool → List Letter → Type 0

-- whatever a worker does in one call, this holds of it
abbrev pub AlwaysHolds : Says → Type 0
AlwaysHolds says =
    (old new : AtWork) (failed : Bool) (behind : List Letter)
    → Served old new failed behind → says old new failed behind

-- the requests that were taken and whose last batch was not sent are at most as many as were said to be dead, and one where
-- memory failed
pub record FewCutShort (old new : AtWork) (failed : Bool) (behind : List Letter) : Type 0 where
  pub letters : List Letter
  pub taken : ℕ
  pub died : ℕ
  pub sent : new.mail ≡ sends_more old.mail (letters ++ behind)
  pub taken_are : new.post.taken ≡ old.post.taken + taken
  pub died_are : new.post.dead ≡ old.post.dead + died
  pub whole : count_by is_last_batch letters ≤ taken
  pub few : taken - count_by is_last_batch letters ≤ died + for_memory failed

-- all letters are batches, up to those behind them
pub record AnswersAlone (old new : AtWork) (failed : Bool) (behind : List Letter) : Type 0 where
  pub letters : List Letter
  pub sent : new.mail ≡ sends_more old.mail (letters ++ behind)
  pub answers : IsTrue (list_all is_answer letters)

-- the letters are batches of the answer to the first request, from number 0 on without a gap, and then in the same way those
-- to the other requests
abbrev pub AreAnswersTo : List RequestFields → List Letter → Type 0
AreAnswersTo [] letters = letters ≡ []
AreAnswersTo (request ∷ requests) letters =
    (count : ℕ) × (rest : List Letter) × (count ≤ batch_count request) × (letters ≡ answers request count ++ rest) × AreAnswersTo requests rest

-- the batches are, in the order of the requests that were given, those of each from number 0 on without a gap
pub record AnswersInOrder (old new : AtWork) (failed : Bool) (behind : List Letter) : Type 0 where
  pub requests : List RequestFields
  pub letters : List Letter
  pub given : new.post.given ≡ told_more old.post.given requests
  pub sent : new.mail ≡ sends_more old.mail (letters ++ behind)
  pub in_order : AreAnswersTo requests letters

-- each request was answered whole, or its number was said to be dead; where memory failed the last one may be neither
abbrev pub AreExplained : List ℕ → Bool → List Share → Type 0
AreExplained dead failed [] = Unit {0}
AreExplained dead failed (share ∷ shares) =
    (IsWhole share ⊎ (Contains dead share.request.id ⊎ ((failed ≡ true) × (shares ≡ [])))) × AreExplained dead failed shares

-- each request that was given and whose last batch was not sent is one of those that were said to be dead, the last one
-- excepted where memory failed
pub record CutShortWhereDead (old new : AtWork) (failed : Bool) (behind : List Letter) : Type 0 where
  pub shares : List Share
  pub dead : List ℕ
  pub given : new.post.given ≡ told_more old.post.given (requests_of shares)
  pub refused : new.post.refused ≡ told_more old.post.refused dead
  pub sent : new.mail ≡ sends_more old.mail (all_answers shares ++ behind)
  pub explained : AreExplained dead failed shares
