-- When two texts that are cut in two are equal.
use Rattle.std.proofs.Common.{◌≡◌, ℕ, ◌≤◌, List, ◌++◌, length, take, drop, sym, ap, ◌∙◌, append_assoc}
use Rattle.std.proofs.Math.Seq.{take-append_seam, drop-append_seam}
use Rattle.std.proofs.lemmas.List.{take-append-drop, take-append-le, drop-append-le}

-- two parts that are the front and the back of a text
pub joined_parts : (x y z : List ℕ) → x ≡ take (length x) z → y ≡ drop (length x) z → x ++ y ≡ z
joined_parts x y z front back =
    ap (λ xs. xs ++ y) front ∙ ap (λ ys. take (length x) z ++ ys) back ∙ take-append-drop (length x) z

pub front_of_joined : (x y z : List ℕ) → x ++ y ≡ z → x ≡ take (length x) z
front_of_joined x y z is = sym (take-append_seam x y) ∙ ap (take (length x)) is

pub back_of_joined : (x y z : List ℕ) → x ++ y ≡ z → y ≡ drop (length x) z
back_of_joined x y z is = sym (drop-append_seam x y) ∙ ap (drop (length x)) is

-- a text whose first part is shorter than the first part of another
pub joined_rest : (x y longer behind : List ℕ) → x ≡ take (length x) longer → drop (length x) longer ++ behind ≡ y → x ++ y ≡ longer ++ behind
joined_rest x y longer behind front rest =
    ap (λ xs. xs ++ y) front
    ∙ ap (λ ys. take (length x) longer ++ ys) (sym rest)
    ∙ sym (append_assoc (take (length x) longer) (drop (length x) longer) behind)
    ∙ ap (λ xs. xs ++ behind) (take-append-drop (length x) longer)

pub front_of_longer : (x y longer behind : List ℕ) → length x ≤ length longer → x ++ y ≡ longer ++ behind → x ≡ take (length x) longer
front_of_longer x y longer behind short is = front_of_joined x y (longer ++ behind) is ∙ take-append-le (length x) longer behind short

pub rest_of_longer : (x y longer behind : List ℕ) → length x ≤ length longer → x ++ y ≡ longer ++ behind → drop (length x) longer ++ behind ≡ y
rest_of_longer x y longer behind short is = sym (back_of_joined x y (longer ++ behind) is ∙ drop-append-le (length x) longer behind short)
