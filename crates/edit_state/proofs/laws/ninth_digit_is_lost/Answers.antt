-- The first eight of eight digits and one more are the eight.
use Rattle.std.proofs.Common.{◌≡◌, ℕ, List, [], ◌∷◌, ◌++◌, take, length, ap, subst}
use Rattle.std.proofs.Math.Seq.{take-append_seam}
use Rattle.edit_state.specs.declared.arguments.Arg.{Arg}
use Rattle.edit_state.proofs.laws.ninth_digit_is_lost.Goals as goal

kept : (n : ℕ) (digits more : List ℕ) → length digits ≡ n → take n (digits ++ more) ≡ digits
kept n digits more full =
    let P : ℕ → Type 0 = λ m. take m (digits ++ more) ≡ digits in
    subst P full (take-append_seam digits more)

pub returns : goal.returns
returns c = λ arg digit full. ap (λ (digits : List ℕ). let new : Arg = record { negative = arg.negative; digits = digits } in new) (kept 8 arg.digits (digit ∷ []) full)
