-- What a contract sees of what a line can say: how it is written, and its limits.
use Rattle.std.specs.Prelude.{◌≡◌, ℕ, ◌<◌, ◌≤◌, true, List, ◌∷◌, ◌++◌, All, length, codes, decimal, encode_utf8_all, ◌≢◌}
use Rattle.std.specs.Str.{is_utf8}
use Rattle.cell_grid.specs.Size.{IsScreen}
use Rattle.prompt_settings.specs.Size.{spelled_size}
use Rattle.script_lines.specs.declared.script_line.ScriptLine.{ScriptLine}
use Rattle.script_lines.specs.declared.script_line.ScriptLine.TheVariants.{Set, Piece, Resize, Tick, Show, End}
use Rattle.script_lines.specs.Spelling.{spelling}
use lib.Utf8.{scalars}

-- the one line that says this
abbrev pub spelled_line : ScriptLine → List ℕ
spelled_line (Set name value) = codes "set " ++ name ++ 32 ∷ spelling (encode_utf8_all value)
spelled_line (Piece bytes) = codes "piece " ++ spelling bytes
spelled_line (Resize size) = codes "resize " ++ spelled_size 32 size
spelled_line (Tick moment) = codes "tick " ++ decimal moment
spelled_line Show = codes "show"
spelled_line End = codes "end"

-- some bytes
abbrev pub AreBytes : List ℕ → Type 0
AreBytes bytes = All (λ byte. byte < 256) bytes

-- a name is UTF-8 without a space, a value has characters alone, a piece has 1 to 65,536 bytes, and a moment is at most
-- 1,000,000,000,000,000
abbrev pub IsWithinLimits : ScriptLine → Type 0
IsWithinLimits (Set name value) = (is_utf8 name ≡ true) × All (λ byte. byte ≢ 32) name × (scalars value ≡ true)
IsWithinLimits (Piece bytes) = AreBytes bytes × (1 ≤ length bytes) × (length bytes ≤ 65536)
IsWithinLimits (Resize size) = IsScreen size.rows size.cols
IsWithinLimits (Tick moment) = moment ≤ 1000000000000000
IsWithinLimits Show = Unit {0}
IsWithinLimits End = Unit {0}

-- the line says this: it is the one that does, within its limits and those of a line
pub record Says (line : List ℕ) (said : ScriptLine) : Type 0 where
  pub written : line ≡ spelled_line said
  pub within : IsWithinLimits said
  pub short : length line ≤ 300000
