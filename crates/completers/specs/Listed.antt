-- The completions of a document.
use Rattle.std.specs.Prelude.{ℕ, ◌-◌, not, List, [], ◌∷◌, ◌++◌, take, drop, filter}
use Rattle.std.specs.Str.{bytes_eq}
use Rattle.text_doc.specs.Document.{Document}
use Rattle.text_doc.specs.declared.completions.Completion.{Completion}
use Rattle.completers.specs.Words.{word_items}
use Rattle.completers.specs.Nested.{nested_items}
use Rattle.completers.specs.Trees.{Tree, words, nested, merged, distinct}

-- the text before the cursor
abbrev pub before_cursor : Document → List ℕ
before_cursor d = take d.cursor d.text

-- the text that a completion gives: its own in place of the `back` characters before the cursor
abbrev pub given_text : Document → Completion → List ℕ
given_text d item = take (d.cursor - item.back) d.text ++ item.text ++ drop d.cursor d.text

-- of completions that give the same text the first
abbrev pub first_givers : Document → List Completion → List Completion
first_givers d [] = []
first_givers d (item ∷ items) = item ∷ filter (λ later. not (bytes_eq (given_text d later) (given_text d item))) (first_givers d items)

-- the same without those that give the present text
abbrev pub distinct_items : Document → List Completion → List Completion
distinct_items d items = filter (λ item. not (bytes_eq (given_text d item) d.text)) (first_givers d items)

-- all completions of a tree, in their order
abbrev pub all_items : Tree → Document → List Completion
all_items (words listed middle) d = word_items middle listed (before_cursor d)
all_items (nested options) d = nested_items options (before_cursor d)
all_items (merged first second) d = all_items first d ++ all_items second d
all_items (distinct tree) d = distinct_items d (all_items tree d)

-- the first 10,000 of them
abbrev pub listed_items : Tree → Document → List Completion
listed_items tree d = take 10000 (all_items tree d)
