-- The typed word: what a completion replaces. It ends at the end of the text before the cursor.
use Rattle.std.specs.Prelude.{ℕ, ◌-◌, Bool, false, not, ◌&&◌, List, length, drop, slice_index}
use Rattle.std.specs.List.{suffix_len}
use Rattle.text_doc.specs.declared.words.Class.TheVariants.{White}
use Rattle.text_doc.specs.Words.{class_of, same_class}

-- whether `c` can stand in one word with `last`: both are of one class, which is not that of white space
abbrev pub is_of_word : ℕ → ℕ → Bool
is_of_word last c = not (same_class (class_of false last) White) && same_class (class_of false last) (class_of false c)

-- the number of characters of the typed word: as many at the end of the text as can stand in one word with the last
abbrev pub typed_len : List ℕ → ℕ
typed_len before = suffix_len (is_of_word (slice_index before (length before - 1))) before

-- the typed word, of the text before the cursor; it is empty behind white space and where nothing stands before
abbrev pub typed_word : List ℕ → List ℕ
typed_word before = drop (length before - typed_len before) before
