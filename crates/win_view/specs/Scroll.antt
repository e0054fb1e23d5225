-- What a contract sees of a scroll: how many rows, or columns, stand before the window.
use Rattle.std.specs.Prelude.{ℕ, ◌+◌, ◌-◌, ◌/◌, min, max}

-- how many of the content stay before the cursor inside the window, where there are so many
abbrev pub kept_before : ℕ → ℕ → ℕ → ℕ
kept_before offset cursor window = min offset (min ((window - 1) / 2) cursor)

-- how many stay behind it
abbrev pub kept_behind : ℕ → ℕ → ℕ → ℕ → ℕ
kept_behind offset cursor window content = min offset (min ((window - 1) / 2) (content - 1 - cursor))

-- the least scroll with which the window shows the cursor and those behind it
abbrev pub least_scroll : ℕ → ℕ → ℕ → ℕ → ℕ
least_scroll offset cursor window content = cursor + 1 + kept_behind offset cursor window content - window

-- the greatest scroll with which it shows the cursor and those before it
abbrev pub greatest_scroll : ℕ → ℕ → ℕ → ℕ
greatest_scroll offset cursor window = cursor - kept_before offset cursor window

-- the old scroll, or so much less that no place behind the content is shown
abbrev pub wanted_scroll : ℕ → ℕ → ℕ → ℕ
wanted_scroll old window content = min old (content - window)

-- a number brought into a range
abbrev pub brought : ℕ → ℕ → ℕ → ℕ
brought least greatest n = max least (min greatest n)

-- the scroll that is the nearest to the wanted one
abbrev pub scrolled : ℕ → ℕ → ℕ → ℕ → ℕ → ℕ
scrolled old offset cursor window content =
    brought (least_scroll offset cursor window content) (greatest_scroll offset cursor window) (wanted_scroll old window content)
