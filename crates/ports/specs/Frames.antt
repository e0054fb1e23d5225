-- What a contract sees of a screen that keeps the frames that it takes.
use Rattle.std.specs.Prelude.{◌≡◌, ℕ, List, [], ◌∷◌, ◌++◌}

-- the frames taken, in order and empty ones too, and how many were refused
pub record Frames : Type 0 where
  pub taken : List (List ℕ)
  pub faults : ℕ

-- taking a frame puts it behind those taken before
abbrev pub TakesFrame : Frames → List ℕ → Frames → Type 0
TakesFrame old frame new = new.taken ≡ old.taken ++ frame ∷ []
