-- Words of a text: runs of characters of one class that is not white space.
use Rattle.std.specs.Prelude.{ℕ, ◌+◌, ◌-◌, Bool, true, false, not, ◌&&◌, ◌||◌, ◌==◌, nat_lt, List, length, slice_index, Option, if◌then◌else◌}
use Rattle.std.specs.Char.{is_whitespace, is_ascii_alphanumeric}
use Rattle.text_doc.specs.declared.words.Class.{Class}
use Rattle.text_doc.specs.declared.words.Class.TheVariants.{White, Word, Other}
use Rattle.text_doc.specs.Places.{first, last, passing}

-- `[A-Za-z0-9_]`
abbrev pub is_word_character : ℕ → Bool
is_word_character c = is_ascii_alphanumeric c || c == 95

-- the class of a character; for big words, all that is not white space is of one class
unfoldable pub class_of : Bool → ℕ → Class
class_of big c = if is_whitespace c then White else (if big || is_word_character c then Word else Other)

-- whether two classes are one
abbrev pub same_class : Class → Class → Bool
same_class White White = true
same_class Word Word = true
same_class Other Other = true
same_class _ _ = false

-- the class of the character at the place `i`
abbrev pub class_at : Bool → List ℕ → ℕ → Class
class_at big text i = class_of big (slice_index text i)

-- a character that is not white space stands at `i`, and none of its class stands before it
unfoldable pub is_word_start : Bool → List ℕ → ℕ → Bool
is_word_start big text i =
    (nat_lt i (length text) && not (same_class (class_at big text i) White)) && (i == 0 || not (same_class (class_at big text (i - 1)) (class_at big text i)))

-- a character that is not white space stands before `i`, and none of its class stands at `i`
unfoldable pub is_word_end : Bool → List ℕ → ℕ → Bool
is_word_end big text i =
    (not (i == 0) && not (same_class (class_at big text (i - 1)) White)) && (i == length text || not (same_class (class_at big text (i - 1)) (class_at big text i)))

-- the greatest word start below the cursor
unfoldable pub prev_word : Bool → List ℕ → ℕ → Option ℕ
prev_word big text cursor = last (passing (is_word_start big text) 0 cursor)

-- the least word start above the cursor
unfoldable pub next_word_start : Bool → List ℕ → ℕ → Option ℕ
next_word_start big text cursor = first (passing (is_word_start big text) (cursor + 1) (length text))

-- the least word end above the cursor
unfoldable pub next_word_end : Bool → List ℕ → ℕ → Option ℕ
next_word_end big text cursor = first (passing (is_word_end big text) (cursor + 1) (length text + 1))
