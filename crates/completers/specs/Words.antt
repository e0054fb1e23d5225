-- The completions that a list of words gives for what is typed.
use Rattle.std.specs.Prelude.{ℕ, Bool, true, false, nat_eq, ◌||◌, List, [], ◌∷◌, map, filter}
use Rattle.std.specs.List.{starts_with}
use Rattle.text_doc.specs.declared.completions.Completion.{Completion}
use Rattle.completers.specs.Typed.{typed_len, typed_word}

-- whether a text contains another: it starts with it, or what stands behind its first character contains it
abbrev pub contains_text : List ℕ → List ℕ → Bool
contains_text [] part = starts_with nat_eq [] part
contains_text (c ∷ cs) part = starts_with nat_eq (c ∷ cs) part || contains_text cs part

-- whether a word fits what is typed: it starts with it, or contains it where the middle counts too
abbrev pub fits : Bool → List ℕ → List ℕ → Bool
fits false typed word = starts_with nat_eq word typed
fits true typed word = contains_text word typed

-- the completion that puts a word in place of as many characters before the cursor
abbrev pub completion : ℕ → List ℕ → Completion
completion back word = record { text = word; back = back }

-- the words that fit the typed word of the text before the cursor, in their order
abbrev pub word_items : Bool → List (List ℕ) → List ℕ → List Completion
word_items middle words before = map (completion (typed_len before)) (filter (fits middle (typed_word before)) words)
