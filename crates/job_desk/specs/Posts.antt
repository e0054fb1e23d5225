-- What a contract sees of a post: which requests it gave, which of them it said were dead, and how often it was shut.
use Rattle.std.specs.Prelude.{◌≡◌, ℕ, ◌+◌, ◌≤◌, min, max, Bool, true, false, List, [], ◌∷◌, ◌++◌, Option, None, Some}
use Rattle.causes.specs.Faults.{Rose}
use Rattle.requests.specs.Requests.{RequestFields}

-- how many requests were given, how often it was asked whether one is live, how often one was said to be dead, and how often
-- none was given; the number of the request that is open; the requests given, where the post tells them; and the numbers of
-- the dead ones, where it tells them
pub record Seen : Type 0 where
  pub taken : ℕ
  pub asked : ℕ
  pub dead : ℕ
  pub shut : ℕ
  pub open_id : Option ℕ
  pub given : Option (List RequestFields)
  pub refused : Option (List ℕ)

-- a post that gave nothing yet, with the lists that it tells
abbrev pub new_seen : Option (List RequestFields) → Option (List ℕ) → Seen
new_seen given refused = record { taken = 0; asked = 0; dead = 0; shut = 0; open_id = None; given = given; refused = refused }

-- a list that may be told, with more behind it
abbrev pub told_more : {A : Type 0} → Option (List A) → List A → Option (List A)
told_more None more = None
told_more (Some told) more = Some (told ++ more)

-- a post that gave this request
abbrev pub after_given : Seen → RequestFields → Seen
after_given s request = record s {
  taken = s.taken + 1;
  open_id = Some request.id;
  given = told_more s.given (request ∷ []);
}

-- a post that said that the open request, of this number, is dead
abbrev pub after_dead : Seen → ℕ → Seen
after_dead s id = record s { dead = s.dead + 1; open_id = None; refused = told_more s.refused (id ∷ []) }

-- a count of 64 bits that rose so many times; it stands still at its last number
abbrev pub raised : ℕ → ℕ → ℕ
raised before times = max before (min (before + times) 18446744073709551615)

-- a post that was asked so many times more whether the open request is live
abbrev pub asked_more : Seen → ℕ → Seen
asked_more s count = record s { asked = raised s.asked count }

-- a post that said whether the open request is live
abbrev pub after_live : Bool → Seen → ℕ → Seen
after_live true s id = asked_more s 1
after_live false s id = after_dead (asked_more s 1) id

-- a post that gave no request: it was shut once more, and all else stays
pub record IsShut (old new : Seen) : Type 0 where
  pub later : old.shut ≤ new.shut
  pub rose : Rose old.shut new.shut
  pub rest : new ≡ record old { shut = new.shut }

-- a post in memory: what it gave and said so far, the requests that it is still to give, and what it is still to say of the
-- open one
pub record Planned : Type 0 where
  pub seen : Seen
  pub left : List RequestFields
  pub answers : List Bool

-- what the plan says next; true behind its end
abbrev pub next_answer : List Bool → Bool
next_answer [] = true
next_answer (answer ∷ answers) = answer
