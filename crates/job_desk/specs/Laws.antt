-- What holds over any list of calls.
use Rattle.std.specs.Prelude.{◌≡◌, ℕ, false, List, fold, IsTrue}
use Rattle.requests.specs.Requests.{RequestFields}
use Rattle.job_desk.specs.Desks.{DeskFields, IsDesk, new_desk, after_post, after_cancel, after_take, after_close, is_live}

-- a call that changes a desk
pub data Call : Type 0 where
  post : RequestFields → Call
  cancel : Call
  take : Call
  close : Call

abbrev pub after_call : DeskFields → Call → DeskFields
after_call d (post request) = after_post d request
after_call d cancel = after_cancel d
after_call d take = after_take d
after_call d close = after_close d

-- the desk after these calls, from the first to the last
abbrev pub after_calls : List Call → DeskFields → DeskFields
after_calls calls d = fold after_call d calls

-- whatever is called, the desk stays one
abbrev pub StaysDesk : Type 0
StaysDesk = (calls : List Call) → IsDesk (after_calls calls new_desk)

-- a number that was live and then, after some calls, is not any more is never live again, whatever is called
abbrev pub NeverLiveAgain : Type 0
NeverLiveAgain = (before between behind : List Call) (id : ℕ)
    → IsTrue (is_live (after_calls before new_desk) id)
    → is_live (after_calls between (after_calls before new_desk)) id ≡ false
    → is_live (after_calls behind (after_calls between (after_calls before new_desk))) id ≡ false
