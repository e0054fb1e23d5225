-- What a contract sees of a script that was read.
use Rattle.std.specs.Prelude.{◌≡◌, ℕ, ◌≤◌, ◌⊎◌, ⊤, length, List, take, drop, ◌++◌, Option, Some, None}
use Rattle.std.specs.Io.KnownBytes.{Consumes, IsAtEnd}

-- of a source that tells its bytes a script is all of them, or the first 67,108,865 where there are more, and the others are left
abbrev pub ReadsScript : Option (List ℕ) → Option (List ℕ) → List ℕ → Type 0
ReadsScript None left script = ⊤
ReadsScript (Some bytes) None script = ⊥
ReadsScript (Some bytes) (Some left) script = (script ≡ take 67108865 bytes) × (left ≡ drop 67108865 bytes)

-- nothing is left of the bytes, or so many came
abbrev pub IsRead : Option (List ℕ) → List ℕ → Type 0
IsRead left script = IsAtEnd left ⊎ (67108865 ≤ length script)

-- what came was taken from the front of the bytes that are left, and put behind those that came before
abbrev pub Reads : Option (List ℕ) → Option (List ℕ) → List ℕ → List ℕ → Type 0
Reads left rest before now = (came : List ℕ) × (now ≡ before ++ came) × Consumes left rest came
