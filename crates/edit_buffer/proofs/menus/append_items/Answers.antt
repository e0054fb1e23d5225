-- Only as many further items as there is room for are put behind the others.
use Rattle.std.proofs.Common.{◌≡◌, ℕ, ◌+◌, ◌-◌, ◌≤◌, cond, List, ◌++◌, length, take, Result, Ok, Err, OnOk, sym, ◌∙◌, arith, rules}
use Rattle.std.proofs.Math.Seq.{take-append-add}
use Rattle.std.specs.Result.{is_ok}
use Rattle.edit_buffer.proofs.menus.append_items.Goals as goal

take-append : {X : Type 0} (xs ys : List X) (n : ℕ) → length xs ≤ n → take n (xs ++ ys) ≡ xs ++ take (n - length xs) ys
take-append {X} xs ys n fits =
    let e : length xs + (n - length xs) ≡ n = omega arith in
    rw e at (take-append-add {A = X} xs ys (n - length xs))

joined : {X T E : Type 0} (r : Result T E) (n : ℕ) (xs ys now : List X) → length xs ≤ n → now ≡ cond (is_ok r) (xs ++ take (n - length xs) ys) xs → OnOk r (now ≡ take n (xs ++ ys))
joined (Ok x) n xs ys now fits e = e ∙ sym (take-append xs ys n fits)
joined (Err x) n xs ys now fits e = tt

pub returns-clause-ok : goal.returns-clause-ok
returns-clause-ok c =
    rw c.from_vec.ensures (joined c.append-answer.result 10000 c.args.items.now c.args.more _ c.requires (search rules))
