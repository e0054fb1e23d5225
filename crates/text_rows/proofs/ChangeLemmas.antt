-- Texts that are equal up to a place, or behind one, and in the block that comes next.
use Rattle.std.proofs.Common.{◌≡◌, ℕ, ◌+◌, ◌-◌, ◌≤◌, List, ◌++◌, length, drop, take, sym, ap, ◌∙◌, arith, take-append-drop}
use Rattle.std.proofs.lemmas.List.{drop-drop}
use Rattle.std.proofs.Math.Seq.{take-add}

pub front_more : (one other : List ℕ) (low middle : ℕ) → low ≤ middle → take low one ≡ take low other → take (middle - low) (drop low one) ≡ take (middle - low) (drop low other) → take middle one ≡ take middle other
front_more one other low middle ordered same block =
    let whole : low + (middle - low) ≡ middle = omega (arith, ordered) in
    sym (ap (λ (n : ℕ). take n one) whole) ∙ take-add low (middle - low) one
    ∙ (λ i. same i ++ block i)
    ∙ sym (take-add low (middle - low) other) ∙ ap (λ (n : ℕ). take n other) whole

pub back_more : (one other : List ℕ) (low middle : ℕ) → low ≤ middle → middle ≤ length one → middle ≤ length other → drop (length one - low) one ≡ drop (length other - low) other → take (length one - low - (length one - middle)) (drop (length one - middle) one) ≡ take (length other - low - (length other - middle)) (drop (length other - middle) other) → drop (length one - middle) one ≡ drop (length other - middle) other
back_more one other low middle ordered within_one within_other same block =
    let first = drop (length one - middle) one in
    let second = drop (length other - middle) other in
    let count : length one - low - (length one - middle) ≡ middle - low = omega (arith, ordered, within_one) in
    let count' : length other - low - (length other - middle) ≡ middle - low = omega (arith, ordered, within_other) in
    let place : (length one - middle) + (middle - low) ≡ length one - low = omega (arith, ordered, within_one) in
    let place' : (length other - middle) + (middle - low) ≡ length other - low = omega (arith, ordered, within_other) in
    let blocks : take (middle - low) first ≡ take (middle - low) second =
    sym (ap (λ (n : ℕ). take n first) count) ∙ block ∙ ap (λ (n : ℕ). take n second) count' in
    let rest : drop (middle - low) first ≡ drop (middle - low) second =
    drop-drop (middle - low) (length one - middle) one ∙ ap (λ (n : ℕ). drop n one) place ∙ same
    ∙ sym (ap (λ (n : ℕ). drop n other) place') ∙ sym (drop-drop (middle - low) (length other - middle) other) in
    sym (take-append-drop (middle - low) first) ∙ (λ i. blocks i ++ rest i) ∙ take-append-drop (middle - low) second
