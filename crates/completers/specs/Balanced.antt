-- Texts whose brackets are balanced, by their grammar.
use Rattle.std.specs.Prelude.{ℕ, not, ◌||◌, IsTrue, List, [], ◌∷◌, ◌++◌}
use Rattle.completers.specs.Pairs.{is_opening, is_closing, are_pair}

-- the text is balanced
pub data IsBalanced : List ℕ → Type 0 where
  -- there is nothing
  empty : IsBalanced []
  -- a character that is no bracket, and a balanced text
  plain : (c : ℕ) (rest : List ℕ) → IsTrue (not (is_opening c || is_closing c)) → IsBalanced rest → IsBalanced (c ∷ rest)
  -- an opening bracket, a balanced text, the closing bracket of the pair, and a balanced text
  pair : (opening closing : ℕ) (inner rest : List ℕ) → IsTrue (are_pair opening closing) → IsBalanced inner → IsBalanced rest
      → IsBalanced (opening ∷ (inner ++ closing ∷ rest))

-- some text behind it makes it balanced
abbrev pub CanBeBalanced : List ℕ → Type 0
CanBeBalanced front = (rest : List ℕ) × IsBalanced (front ++ rest)
