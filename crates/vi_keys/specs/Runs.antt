-- Runs of characters of one class, in a range of a text.
use Rattle.std.specs.Prelude.{ℕ, ◌+◌, Bool, false, not, List, Option, None, Some, unwrap_or}
use Rattle.text_doc.specs.declared.words.Class.{Class}
use Rattle.text_doc.specs.declared.words.Class.TheVariants.{White}
use Rattle.text_doc.specs.Document.{Document}
use Rattle.text_doc.specs.Places.{first, last, passing}
use Rattle.text_doc.specs.Rows.{line_start, line_end}
use Rattle.text_doc.specs.Words.{same_class, class_at}

-- a character of another class stands at a place
abbrev pub differs : Class → List ℕ → ℕ → Bool
differs class text i = not (same_class (class_at false text i) class)

-- the least place from `from` on with a character of another class, else `end`
unfoldable pub run_end : Class → List ℕ → ℕ → ℕ → ℕ
run_end class text from end = unwrap_or (first (passing (differs class text) from end)) end

-- the place behind this one, or `start` where there is none
abbrev pub behind : ℕ → Option ℕ → ℕ
behind start None = start
behind start (Some i) = i + 1

-- the place behind the greatest one below `to` with a character of another class, else `start`
unfoldable pub run_start : Class → List ℕ → ℕ → ℕ → ℕ
run_start class text start to = behind start (last (passing (differs class text) start to))

-- the first place of the cursor's row that holds no white space, else the row's end
abbrev pub row_text : Document → ℕ
row_text d = run_end White d.text (line_start d.text d.cursor) (line_end d.text d.cursor)
