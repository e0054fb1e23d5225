-- What a contract sees of a cell's text: the list of its characters.
use Rattle.std.specs.Prelude.{◌≡◌, ℕ, ◌-◌, ◌≤◌, List, [], ◌∷◌, ◌++◌, length, take, replicate, nat_lt, if◌then◌else◌}
use Rattle.std.proofs.Common.{sym, subst, length-take-le}

-- the text with a character joined to it, where it has fewer than eight
abbrev pub with_joined : List ℕ → ℕ → List ℕ
with_joined text next = if nat_lt (length text) 8 then text ++ next ∷ [] else text

-- the eight places of a text: its characters, then spaces
abbrev pub padded : List ℕ → List ℕ
padded text = text ++ replicate (8 - length text) 32

-- the places hold this many characters, and spaces behind them
pub record IsFilled (places : List ℕ) (count : ℕ) : Type 0 where
  pub some : 1 ≤ count
  pub few : count ≤ 8
  pub room : length places ≡ 8
  pub rest : places ≡ padded (take count places)

-- so the characters alone give the places and the count back
pub padded-take : (places : List ℕ) (count : ℕ) → IsFilled places count → padded (take count places) ≡ places
padded-take places count filled = sym filled.rest

pub length-filled : (places : List ℕ) (count : ℕ) → IsFilled places count → length (take count places) ≡ count
length-filled places count filled =
    let P : ℕ → Type 0 = λ n. count ≤ n in length-take-le count places (subst P (sym filled.room) filled.few)
