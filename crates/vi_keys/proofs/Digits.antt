-- An argument with as many digits as before is as before, and what leaves the argument.
use Rattle.std.proofs.Common.{◌≡◌, ℕ, ◌+◌, min, List, [], ◌∷◌, ◌++◌, length, take, Option, Some, None, ap, sym, subst, ◌∙◌, arith, length-append}
use Rattle.std.proofs.Math.Seq.{take-append_seam}
use Rattle.std.proofs.lemmas.List.{length-take}
use Rattle.edit_state.specs.declared.arguments.Arg.{Arg}
use Rattle.edit_state.specs.Arguments.{with_digit}
use Rattle.vi_keys.specs.Answering.{digits_of}

kept : (n : ℕ) (digits more : List ℕ) → length digits ≡ n → take n (digits ++ more) ≡ digits
kept n digits more full =
    let P : ℕ → Type 0 = λ m. take m (digits ++ more) ≡ digits in
    subst P full (take-append_seam digits more)

-- a further digit leaves an argument whose digits do not become more
pub digit_kept : (arg : Option Arg) (c : ℕ) → digits_of (Some (with_digit arg c)) ≡ digits_of arg → Some (with_digit arg c) ≡ arg
digit_kept None c same = absurd (let e : digits_of (Some (with_digit None c)) ≡ None = same in cc e)
digit_kept (Some arg) c same =
    let many : length (take 8 (arg.digits ++ c ∷ [])) ≡ length arg.digits = cc same in
    let cut : length (take 8 (arg.digits ++ c ∷ [])) ≡ min 8 (length (arg.digits ++ c ∷ [])) = length-take 8 (arg.digits ++ c ∷ []) in
    let more : length (arg.digits ++ c ∷ []) ≡ length arg.digits + 1 = length-append arg.digits (c ∷ []) in
    let eight : length arg.digits ≡ 8 = omega (arith, sym many ∙ cut, more) in
    ap (λ (digits : List ℕ). let new : Arg = record { negative = arg.negative; digits = digits } in Some new) (kept 8 arg.digits (c ∷ []) eight)
