-- What holds of what is on the screen.
use Rattle.std.specs.Prelude.{◌≤◌}
use Rattle.diff_render.specs.Frames.{FitsScreen, HasCursor}
use Rattle.diff_render.specs.declared.shown.OnScreen.{OnScreen}
use Rattle.diff_render.specs.declared.shown.OnScreen.TheVariants.{Nothing, Drawn, Resized}

-- a drawing fits the screen it was drawn at, and has its cursor in it; no screen has more rows than these
abbrev pub IsKept : OnScreen → Type 0
IsKept Nothing = Unit {0}
IsKept (Drawn drawing size) = FitsScreen size drawing × HasCursor drawing × (drawing.row ≤ 999)
IsKept (Resized row) = row ≤ 999
