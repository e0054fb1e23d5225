-- The state of a desk, and what each call makes of it.
use Rattle.std.specs.Prelude.{◌≡◌, ℕ, ◌+◌, ◌≤◌, ◌==◌, Bool, true, false, not, ◌&&◌, nat_lt, Option, None, Some, IfSome, if◌then◌else◌}
use Rattle.std.specs.Option.{is_none}
use Rattle.job_desk.specs.declared.desks.Posted.{Posted}
use Rattle.job_desk.specs.declared.desks.Posted.TheVariants.{Placed, Replaced, Refused}
use Rattle.requests.specs.Requests.{RequestFields}

-- a slot for a request, the number of the live request, the greatest number posted, whether the desk is closed, and counts
-- of the requests that were put in the slot, that were handed out, and that were handed back for another or by a cancel
pub record DeskFields : Type 0 where
  pub slot : Option RequestFields
  pub live : Option ℕ
  pub greatest : ℕ
  pub closed : Bool
  pub posted : ℕ
  pub taken : ℕ
  pub replaced : ℕ

-- 1 for a full slot, 0 for an empty one
abbrev pub full : Option RequestFields → ℕ
full None = 0
full (Some request) = 1

-- what is true of each desk at each moment: every request that was posted was taken, was replaced or is in the slot
pub record IsDesk (d : DeskFields) : Type 0 where
  pub balance : d.posted ≡ d.taken + d.replaced + full d.slot
  pub bounded : d.posted ≤ d.greatest
  pub live_within : IfSome d.live (λ id. id ≤ d.greatest)

-- of requests as many were posted as were taken and replaced and are in the slot, which is one at most
abbrev pub AreBalanced : ℕ × ℕ × ℕ → Type 0
AreBalanced (posted, taken, replaced) = (waiting : ℕ) × (waiting ≤ 1) × (posted ≡ taken + replaced + waiting)

-- a desk at which nothing was posted
abbrev pub new_desk : DeskFields
new_desk = record { slot = None; live = None; greatest = 0; closed = false; posted = 0; taken = 0; replaced = 0 }

-- the desk with this request in its slot, for what was there
abbrev pub placed : DeskFields → RequestFields → DeskFields
placed d request = record d {
  slot = Some request;
  live = Some request.id;
  greatest = request.id;
  posted = d.posted + 1;
  replaced = d.replaced + full d.slot;
}

-- a post is refused where the request's number is not above all that were posted
abbrev pub after_post : DeskFields → RequestFields → DeskFields
after_post d request = if nat_lt d.greatest request.id then placed d request else d

-- what a post answers where it puts the request in the slot, by what was there
abbrev pub answer_for : Option RequestFields → Posted
answer_for None = Placed
answer_for (Some old) = Replaced old

-- what a post answers
abbrev pub post_answer : DeskFields → RequestFields → Posted
post_answer d request = if nat_lt d.greatest request.id then answer_for d.slot else Refused request

-- a cancel empties the slot and leaves no live number
abbrev pub after_cancel : DeskFields → DeskFields
after_cancel d = record d { slot = None; live = None; replaced = d.replaced + full d.slot }

-- a take empties the slot alone
abbrev pub after_take : DeskFields → DeskFields
after_take d = record d { slot = None; taken = d.taken + full d.slot }

-- where the desk is not closed
abbrev pub after_take_open : DeskFields → DeskFields
after_take_open d = if d.closed then d else after_take d

abbrev pub after_close : DeskFields → DeskFields
after_close d = record d { closed = true }

-- whether a number is this one
abbrev pub is_id : Option ℕ → ℕ → Bool
is_id None id = false
is_id (Some live) id = live == id

-- whether a number is the live one of a desk that is not closed
abbrev pub is_live : DeskFields → ℕ → Bool
is_live d id = is_id d.live id && not d.closed

-- whether the slot is empty and the desk is not closed
abbrev pub is_idle : DeskFields → Bool
is_idle d = is_none d.slot && not d.closed
