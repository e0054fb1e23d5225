-- What commands mean to one who types them.
use Rattle.std.specs.Prelude.{◌≡◌, ◌⊎◌, ℕ, ◌-◌, ◌<◌, ◌≤◌, ◌==◌, Bool, true, false, List, length, fold, count_by, Option, None, Some}
use Rattle.key_names.specs.declared.key.Key.{Key}
use Rattle.key_names.specs.declared.key.Key.TheVariants.{Char}
use Rattle.text_doc.specs.Document.{SameTextAndCursor}
use Rattle.text_doc.specs.Words.{class_at, is_word_start, is_word_end, next_word_end}
use Rattle.edit_buffer.specs.BufferState.{IsBufferState}
use Rattle.edit_state.specs.declared.states.EditState.{EditState}
use Rattle.edit_state.specs.StateEdits.{cut}
use Rattle.edit_state.specs.HistoryMoves.{lines_back, lines_forward}
use Rattle.edit_state.specs.Searches.{search_started, aborted}
use Rattle.edit_cmds.specs.declared.rewriting.Case.{Case}
use Rattle.edit_cmds.specs.Counting.{digit_argument, is_full}
use Rattle.edit_cmds.specs.Moving.{backward_word, forward_word}
use Rattle.edit_cmds.specs.Rewriting.{transpose_chars, cased}
use Rattle.edit_cmds.specs.Pasting.{yank}
use Rattle.edit_cmds.specs.Searching.{extend_needle, shorten_needle, search_again}

-- the state without an argument
abbrev pub without_argument : EditState → EditState
without_argument s = record s { arg = None }

-- what was cut at the cursor comes back by a yank at the same place
abbrev pub YankRestoresCut : Type 0
YankRestoresCut =
    (s : EditState) (to : ℕ) → IsBufferState s.buffer → s.buffer.doc.cursor < to → to ≤ length s.buffer.doc.text
    → (yank (without_argument (cut s s.buffer.doc.cursor to))).buffer.doc.text ≡ s.buffer.doc.text

-- words in another case are as long as before
abbrev pub CaseKeepsLength : Type 0
CaseKeepsLength = (kind : Case) (chars : List ℕ) → length (cased kind chars) ≡ length chars

-- how often a character stands in the text
abbrev pub occurrences : ℕ → EditState → ℕ
occurrences c s = count_by (λ other. other == c) s.buffer.doc.text

-- characters that change places are as many as before, each of them
abbrev pub TransposingKeepsCharacters : Type 0
TransposingKeepsCharacters = (s : EditState) (c : ℕ) → IsBufferState s.buffer → occurrences c (transpose_chars s) ≡ occurrences c s

-- beginning-of-history and then end-of-history leads to the newest line
abbrev pub EndOfHistoryIsNewest : Type 0
EndOfHistoryIsNewest =
    (s : EditState) → IsBufferState s.buffer
    → (lines_forward (lines_back s s.buffer.index) (length s.buffer.lines)).buffer.index ≡ length s.buffer.lines - 1

-- a key of a search
pub data SearchStep : Type 0 where
  Extend : Key → SearchStep
  Shorten : SearchStep
  Again : Bool → SearchStep

abbrev pub search_stepped : EditState → SearchStep → EditState
search_stepped s (Extend key) = extend_needle key s
search_stepped s Shorten = shorten_needle s
search_stepped s (Again forward) = search_again forward s

-- the state after a search was started, these keys, and its end where it started
abbrev pub aborted_after : EditState → Bool → List SearchStep → EditState
aborted_after s forward steps = aborted (fold search_stepped (search_started s forward) steps)

-- the working line, the text and the cursor are as before
pub record IsBack (before after : EditState) : Type 0 where
  pub line : after.buffer.index ≡ before.buffer.index
  pub document : SameTextAndCursor after.buffer.doc before.buffer.doc
  pub lines : after.buffer.lines ≡ before.buffer.lines
  pub search : after.search ≡ None

-- a search that is aborted leaves line, text and cursor as they were when it started
abbrev pub AbortReturns : Type 0
AbortReturns = (s : EditState) (forward : Bool) (steps : List SearchStep) → IsBufferState s.buffer → IsBack s (aborted_after s forward steps)

-- a digit behind the eighth changes nothing
abbrev pub NinthDigitChangesNothing : Type 0
NinthDigitChangesNothing = (s : EditState) (digit : ℕ) → is_full s.arg ≡ true → digit_argument (Char digit) s ≡ s

-- a word from its start to its end: its characters are of one class
pub record IsWord (text : List ℕ) (start stop : ℕ) : Type 0 where
  pub some : start < stop
  pub begins : is_word_start false text start ≡ true
  pub ends : is_word_end false text stop ≡ true
  pub alike : (i : ℕ) → start ≤ i → i < stop → class_at false text i ≡ class_at false text start

-- no word starts above the place, and one starts there, unless no word starts at all and the place is 0
pub record IsLastStart (text : List ℕ) (place : ℕ) : Type 0 where
  pub above : (i : ℕ) → place < i → i < length text → is_word_start false text i ≡ false
  pub here : (is_word_start false text place ≡ true) ⊎ (place ≡ 0)

-- a first place at the end of a word that is ahead, and a second one at that word's start; where no word ends ahead, the first
-- place at the end of the text, and the second one at its last word's start
abbrev pub EndAndStart : Option ℕ → List ℕ → ℕ → ℕ → Type 0
EndAndStart (Some stop) text first second = (first ≡ stop) × IsWord text second stop
EndAndStart None text first second = (first ≡ length text) × IsLastStart text second

-- forward-word stands at the end of a word, and backward-word from there at the start of this very word
abbrev pub BackwardWordFindsStart : Type 0
BackwardWordFindsStart =
    (s : EditState) → IsBufferState s.buffer → s.arg ≡ None
    → EndAndStart (next_word_end false s.buffer.doc.text s.buffer.doc.cursor) s.buffer.doc.text (forward_word s).buffer.doc.cursor (backward_word (forward_word s)).buffer.doc.cursor
