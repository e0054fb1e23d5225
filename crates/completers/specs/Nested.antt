-- The completions that options with inner words give: names of options first, and behind a name its inner words.
use Rattle.std.specs.Prelude.{ℕ, Bool, false, ◌==◌, List, [], map, find, drop, Option, None, Some, if◌then◌else◌}
use Rattle.std.specs.Char.{is_whitespace}
use Rattle.std.specs.List.{list_any, prefix_len, before_first, position_or_len}
use Rattle.std.specs.Str.{bytes_eq}
use Rattle.text_doc.specs.declared.completions.Completion.{Completion}
use Rattle.completers.specs.declared.options.NestedOption.{NestedOption}
use Rattle.completers.specs.Words.{word_items}

-- a text without the white space that it begins with
abbrev pub trimmed : List ℕ → List ℕ
trimmed text = drop (prefix_len is_whitespace text) text

-- whether a space (32) stands in it
abbrev pub has_space : List ℕ → Bool
has_space text = list_any (λ c. c == 32) text

-- the first run without white space, of a text that begins with it
abbrev pub first_run : List ℕ → List ℕ
first_run text = before_first is_whitespace text

-- what stands behind that run and the white space that follows it
abbrev pub behind_run : List ℕ → List ℕ
behind_run text = trimmed (drop (position_or_len is_whitespace text) text)

-- the first option with this name
abbrev pub option_of : List ℕ → List NestedOption → Option NestedOption
option_of name options = find (λ option. bytes_eq option.name name) options

-- the inner words of an option, if it has any
abbrev pub words_of : Option NestedOption → Option (List (List ℕ))
words_of None = None
words_of (Some option) = option.words

-- the inner words that fit at the end of `rest`
abbrev pub inner_items : Option (List (List ℕ)) → List ℕ → List Completion
inner_items None rest = []
inner_items (Some words) rest = word_items false words rest

-- the completions, for the text before the cursor without the white space that it begins with
abbrev pub items_behind : List NestedOption → List ℕ → List Completion
items_behind options text =
    if has_space text then inner_items (words_of (option_of (first_run text) options)) (behind_run text) else word_items false (map (λ option. option.name) options) text

-- the completions, for the text before the cursor
abbrev pub nested_items : List NestedOption → List ℕ → List Completion
nested_items options before = items_behind options (trimmed before)
