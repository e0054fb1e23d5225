-- Where moves by words go.
use Rattle.std.specs.Prelude.{ℕ, Bool, List, length, unwrap_or}
use Prim.Native.Nat.{zero, suc}
use Rattle.text_doc.specs.Document.{Document}
use Rattle.text_doc.specs.Words.{prev_word, next_word_start, next_word_end}

-- the place after so many steps
abbrev pub stepped : (ℕ → ℕ) → ℕ → ℕ → ℕ
stepped step zero place = place
stepped step (suc count) place = stepped step count (step place)

-- the greatest word start below a place, else 0
abbrev pub word_back : Bool → List ℕ → ℕ → ℕ
word_back big text place = unwrap_or (prev_word big text place) 0

-- the least word start above a place, else the text's end
abbrev pub word_start_ahead : Bool → List ℕ → ℕ → ℕ
word_start_ahead big text place = unwrap_or (next_word_start big text place) (length text)

-- the least word end above a place, else the text's end
abbrev pub word_end_ahead : Bool → List ℕ → ℕ → ℕ
word_end_ahead big text place = unwrap_or (next_word_end big text place) (length text)

-- so many times from the cursor
abbrev pub words_back : Bool → Document → ℕ → ℕ
words_back big d count = stepped (word_back big d.text) count d.cursor

abbrev pub word_starts_ahead : Bool → Document → ℕ → ℕ
word_starts_ahead big d count = stepped (word_start_ahead big d.text) count d.cursor

abbrev pub word_ends_ahead : Bool → Document → ℕ → ℕ
word_ends_ahead big d count = stepped (word_end_ahead big d.text) count d.cursor
