-- What calls keep of a desk.
use Rattle.std.proofs.Common.{◌≡◌, ℕ, ◌≤◌, Bool, true, false, cond, not, ◌&&◌, ◌==◌, nat_lt, List, [], ◌∷◌, Option, None, Some, refl, arith}
use Rattle.std.proofs.lemmas.Bool.{ltb-true}
use Rattle.std.proofs.lemmas.Bool.Decides.{nat_tests}
use Rattle.std.specs.Prelude.{IfSome, IsTrue}
use Rattle.requests.specs.Requests.{RequestFields}
use Rattle.job_desk.specs.Desks.{DeskFields, IsDesk, new_desk, placed, is_id, is_live}
use Rattle.job_desk.specs.Laws.{Call, post, cancel, take, close, after_call, after_calls}

-- every call keeps what is true of a desk
post_keeps : (d : DeskFields) (r : RequestFields) (b : Bool) → nat_lt d.greatest r.id ≡ b → IsDesk d → IsDesk (cond b (placed d r) d)
post_keeps d r true above h = record {
  balance = omega (arith, h.balance);
  bounded = omega (arith, h.bounded, ltb-true d.greatest r.id above);
  live_within = omega arith;
}
post_keeps d r false above h = h

call_keeps : (d : DeskFields) (c : Call) → IsDesk d → IsDesk (after_call d c)
call_keeps d (post r) h = post_keeps d r (nat_lt d.greatest r.id) refl h
call_keeps d cancel h = record { balance = omega (arith, h.balance); bounded = h.bounded; live_within = tt }
call_keeps d take h = record { balance = omega (arith, h.balance); bounded = h.bounded; live_within = h.live_within }
call_keeps d close h = record { balance = h.balance; bounded = h.bounded; live_within = h.live_within }

pub calls_keep : (calls : List Call) (d : DeskFields) → IsDesk d → IsDesk (after_calls calls d)
calls_keep [] d h = h
calls_keep (c ∷ cs) d h = calls_keep cs (after_call d c) (call_keeps d c h)

pub IsDesk-new_desk : IsDesk new_desk
IsDesk-new_desk = record { balance = refl; bounded = omega arith; live_within = tt }

-- the greatest number never falls
post_raises : (d : DeskFields) (r : RequestFields) (b : Bool) → nat_lt d.greatest r.id ≡ b → d.greatest ≤ (cond b (placed d r) d).greatest
post_raises d r true above = omega (arith, ltb-true d.greatest r.id above)
post_raises d r false above = omega arith

call_raises : (d : DeskFields) (c : Call) → d.greatest ≤ (after_call d c).greatest
call_raises d (post r) = post_raises d r (nat_lt d.greatest r.id) refl
call_raises d cancel = omega arith
call_raises d take = omega arith
call_raises d close = omega arith

pub calls_raise : (calls : List Call) (d : DeskFields) → d.greatest ≤ (after_calls calls d).greatest
calls_raise [] d = omega arith
calls_raise (c ∷ cs) d = omega (arith, call_raises d c, calls_raise cs (after_call d c))

-- a live number is not above the greatest
id_within : (live : Option ℕ) (closed : Bool) (id greatest : ℕ) → IfSome live (λ l. l ≤ greatest) → IsTrue (is_id live id && not closed) → id ≤ greatest
id_within None closed id greatest within is = cc
id_within (Some l) closed id greatest within is = grind (arith, nat_tests)

pub live_within : (d : DeskFields) (id : ℕ) → IsDesk d → IsTrue (is_live d id) → id ≤ d.greatest
live_within d id h is = id_within d.live d.closed id d.greatest h.live_within is

-- a number that is not live, and that no post can make live
pub record IsOver (id : ℕ) (d : DeskFields) : Type 0 where
  pub within : id ≤ d.greatest
  pub dead : is_live d id ≡ false

post_over : (id : ℕ) (d : DeskFields) (r : RequestFields) (b : Bool) → nat_lt d.greatest r.id ≡ b → IsOver id d → IsOver id (cond b (placed d r) d)
post_over id d r true above h =
    let lower = ltb-true d.greatest r.id above in
    let within = h.within in
    let other : (r.id == id) ≡ false = grind (arith, nat_tests) in
    record { within = omega (arith, lower, within); dead = rw other refl }
post_over id d r false above h = h

and_false : (b : Bool) → (b && false) ≡ false
and_false true = refl
and_false false = refl

call_over : (id : ℕ) (d : DeskFields) (c : Call) → IsOver id d → IsOver id (after_call d c)
call_over id d (post r) h = post_over id d r (nat_lt d.greatest r.id) refl h
call_over id d cancel h = record { within = h.within; dead = refl }
call_over id d take h = record { within = h.within; dead = h.dead }
call_over id d close h = record { within = h.within; dead = and_false (is_id d.live id) }

pub calls_over : (id : ℕ) (calls : List Call) (d : DeskFields) → IsOver id d → IsOver id (after_calls calls d)
calls_over id [] d h = h
calls_over id (c ∷ cs) d h = calls_over id cs (after_call d c) (call_over id d c h)
