-- How a place is picked: a filter goes over a range of numbers, and one of those that pass is taken.
use Rattle.std.specs.Prelude.{ℕ, ◌-◌, Bool, List, reverse, filter, slice_get, Option, None, ◌==◌, if◌then◌else◌}
use Rattle.std.specs.List.{range_with_len}

-- the numbers from `from` up to and without `to`
abbrev pub range : ℕ → ℕ → List ℕ
range from to = range_with_len from (to - from)

-- those numbers of a range that pass a test
abbrev pub passing : (ℕ → Bool) → ℕ → ℕ → List ℕ
passing test from to = filter test (range from to)

-- the first item, if there is one
abbrev pub first : List ℕ → Option ℕ
first xs = slice_get xs 0

-- the last item, if there is one
abbrev pub last : List ℕ → Option ℕ
last xs = slice_get (reverse xs) 0

-- the item number `nth`, counted from 1, if there is one
abbrev pub nth_of : List ℕ → ℕ → Option ℕ
nth_of xs nth = if nth == 0 then None else slice_get xs (nth - 1)
