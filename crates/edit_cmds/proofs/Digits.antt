-- An argument of eight digits stays as it is.
use Rattle.std.proofs.Common.{◌≡◌, ℕ, true, List, [], ◌∷◌, ◌++◌, length, take, Option, Some, None, ap, subst, arith}
use Rattle.std.proofs.Math.Seq.{take-append_seam}
use Rattle.edit_state.specs.declared.arguments.Arg.{Arg}
use Rattle.edit_state.specs.Arguments.{with_digit}
use Rattle.edit_cmds.specs.Counting.{is_full}

kept : (n : ℕ) (digits more : List ℕ) → length digits ≡ n → take n (digits ++ more) ≡ digits
kept n digits more full =
    let P : ℕ → Type 0 = λ m. take m (digits ++ more) ≡ digits in
    subst P full (take-append_seam digits more)

pub full_stays : (arg : Option Arg) (digit : ℕ) → is_full arg ≡ true → Some (with_digit arg digit) ≡ arg
full_stays None digit full = cc
full_stays (Some arg) digit full =
    let eight : length arg.digits ≡ 8 = grind arith in
    ap (λ (digits : List ℕ). let new : Arg = record { negative = arg.negative; digits = digits } in Some new) (kept 8 arg.digits (digit ∷ []) eight)
