-- Where the rows of a text start behind its line feeds (10). The first row, at 0, isn't among them.
use Rattle.std.specs.Prelude.{ℕ, ◌+◌, ◌-◌, ◌≤◌, ◌==◌, ◌≡◌, List, [], ◌∷◌, length, take, drop, map, if◌then◌else◌}
use Rattle.text_doc.specs.Gap.{Gap, joined}

-- the places behind the line feeds of a text that stands at `at`, in order
abbrev pub starts_from : ℕ → List ℕ → List ℕ
starts_from at [] = []
starts_from at (c ∷ text) = if c == 10 then (at + 1) ∷ starts_from (at + 1) text else starts_from (at + 1) text

-- the row starts of a text, in order
abbrev pub row_starts : List ℕ → List ℕ
row_starts text = starts_from 0 text

-- places as distances from the end of a text of this length
abbrev pub distances : ℕ → List ℕ → List ℕ
distances len places = map (λ place. len - place) places

-- the row starts lie on both sides of the gap of their text: those before it as places, those behind it as distances
-- from the end, so that an edit at the gap changes no number of either side
pub record IsIndexed (chars starts : Gap ℕ) : Type 0 where
  pub front : starts.front ≡ row_starts chars.front
  pub back : starts.back ≡ distances (length chars.back) (row_starts chars.back)
  pub short : length (joined chars) ≤ 32768

-- wherever their gap is, the first row starts of a text stand before it, and the distances of the others behind it
pub record IsParted (text : List ℕ) (starts : Gap ℕ) : Type 0 where
  pub front : starts.front ≡ take (length starts.front) (row_starts text)
  pub back : starts.back ≡ distances (length text) (drop (length starts.front) (row_starts text))
