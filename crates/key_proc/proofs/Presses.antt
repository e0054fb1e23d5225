-- The keys of what is held.
use Rattle.std.proofs.Common.{◌≡◌, arith, ℕ, ◌+◌, List, drop, [], ◌∷◌, ◌++◌, length, take, Option, Some, None, refl}
use Prim.Native.Nat.{zero, suc}
use Rattle.std.specs.List.{slice_get}
use Rattle.std.specs.Option.{option_to_list}
use Rattle.key_names.specs.declared.key.KeyPress.{KeyPress}
use Rattle.key_proc.specs.HeldKeys.{HasNoGap, key_or_any}
use Rattle.key_proc.specs.Firing.{keys_of}

abbrev pub held_in : Option KeyPress → Option KeyPress → Option KeyPress → List KeyPress
held_in a b c = option_to_list a ++ option_to_list b ++ option_to_list c

-- the keys of three places, as many as are held
pub keys-held : (a b c : Option KeyPress) → HasNoGap a b c →
    take (length (held_in a b c)) (key_or_any a ∷ key_or_any b ∷ key_or_any c ∷ []) ≡ keys_of (held_in a b c)
keys-held None None None is = refl
keys-held (Some x) None None is = refl
keys-held (Some x) (Some y) None is = refl
keys-held (Some x) (Some y) (Some z) is = refl
keys-held None None (Some z) is = absurd is
keys-held None (Some y) c is = absurd is
keys-held (Some x) None (Some z) is = absurd is

drop-suc : {X : Type 0} (n : ℕ) (xs : List X) → drop 1 (drop n xs) ≡ drop (suc n) xs
drop-suc zero xs = refl
drop-suc (suc n) [] = refl
drop-suc (suc n) (x ∷ xs) = drop-suc n xs

-- one more item is dropped
pub drop-one : {X : Type 0} (n : ℕ) (xs : List X) → drop 1 (drop n xs) ≡ drop (n + 1) xs
drop-one n xs = let next : n + 1 ≡ suc n = omega arith in rw next (drop-suc n xs)

-- the first item behind those that are dropped
pub get-dropped : {X : Type 0} (n : ℕ) (xs : List X) → slice_get (drop n xs) 0 ≡ slice_get xs n
get-dropped zero xs = refl
get-dropped (suc n) [] = refl
get-dropped (suc n) (x ∷ xs) = get-dropped n xs
