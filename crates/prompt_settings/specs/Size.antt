-- What a contract sees of a size that was read: its rows, a separator and its columns.
use Rattle.std.specs.Prelude.{ℕ, ◌==◌, ◌&&◌, List, ◌∷◌, ◌++◌, Option, Some, None, nat_le, decimal, if◌then◌else◌}
use Rattle.std.specs.List.{before_first, after_first}
use Rattle.cell_grid.specs.Size.{Extent}
use Rattle.prompt_settings.specs.Number.{number_of}

-- how a size is written
abbrev pub spelled_size : ℕ → Extent → List ℕ
spelled_size separator size = decimal size.rows ++ separator ∷ decimal size.cols

-- the size of so many rows and columns, where there is one of each
abbrev pub size_from : Option ℕ → Option ℕ → Option Extent
size_from None cols = None
size_from (Some rows) None = None
size_from (Some rows) (Some cols) = if nat_le 1 rows && nat_le 1 cols then Some (record { rows = rows; cols = cols }) else None

-- the size of a screen that is written as this text
abbrev pub size_of : ℕ → List ℕ → Option Extent
size_of separator text =
    size_from (number_of 500 (before_first (λ c. c == separator) text)) (number_of 1000 (after_first (λ c. c == separator) text))
