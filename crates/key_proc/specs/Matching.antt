-- What a contract sees of bound keys: whether they match the keys that are held.
use Rattle.std.specs.Prelude.{ℕ, Bool, true, false, ◌&&◌, ◌||◌, List, [], ◌∷◌, length, take, count_by, nat_lt}
use Rattle.key_names.specs.declared.key.Key.{Key}
use Rattle.key_names.specs.declared.key.Key.TheVariants.{Any}
use Rattle.key_names.specs.contracts.key.KeyPartialEq.TheImpl as equality

-- whether two keys are the same one, as `==` says
abbrev pub same_key : Key → Key → Bool
same_key a b = (equality.ghosts).eq a b

-- whether a bound key stands for any key
abbrev pub is_any : Key → Bool
is_any bound = same_key bound Any

-- a bound key matches the same key, and `Any` matches each
abbrev pub matches_key : Key → Key → Bool
matches_key bound key = is_any bound || same_key bound key

-- bound keys match as many keys, each its own
abbrev pub matches : List Key → List Key → Bool
matches [] [] = true
matches [] (key ∷ keys) = false
matches (first ∷ bound) [] = false
matches (first ∷ bound) (key ∷ keys) = matches_key first key && matches bound keys

-- there are more bound keys than these, which the first of them match
abbrev pub begins : List Key → List Key → Bool
begins bound keys = nat_lt (length keys) (length bound) && matches (take (length keys) bound) keys

-- how many of the bound keys are `Any`
abbrev pub count_any : List Key → ℕ
count_any bound = count_by is_any bound

-- bound keys match keys at each place that both have
abbrev pub agrees : List Key → List Key → Bool
agrees [] keys = true
agrees (first ∷ bound) [] = true
agrees (first ∷ bound) (key ∷ keys) = matches_key first key && agrees bound keys
