-- What is typed behind an option's name is what is typed before the cursor.
use Rattle.std.proofs.Common.{◌≡◌, ℕ, ◌+◌, ◌<◌, Bool, true, false, cond, not, ◌||◌, ◌==◌, List, [], ◌∷◌, ◌++◌, length, take, drop, map, filter, get_or, refl, sym, ap, ◌∙◌, ⊎_elim, arith, Some}
use Rattle.std.specs.Char.{is_whitespace}
use Rattle.std.specs.List.{prefix_len, position_or_len}
use Rattle.std.specs.Str.{bytes_eq}
use Rattle.std.proofs.lemmas.Bool.{cases_Bool, eqb-true}
use Rattle.std.proofs.lemmas.List.{take-append-drop, drop_more}
use Rattle.completers.specs.declared.options.NestedOption.{NestedOption}
use Rattle.completers.specs.Typed.{typed_len, typed_word}
use Rattle.completers.specs.Words.{word_items, completion, fits}
use Rattle.completers.specs.Nested.{trimmed, has_space, first_run, behind_run, option_of, words_of, inner_items, nested_items}
use Rattle.completers.proofs.TypedLemmas.{typed_len_behind, typed_word_end, length-typed_word}

drop-one_more : (n : ℕ) (c : ℕ) (cs : List ℕ) → drop (1 + n) (c ∷ cs) ≡ drop n cs
drop-one_more n c cs = grind arith

trimmed-white : (c : ℕ) (cs : List ℕ) → is_whitespace c ≡ true → trimmed (c ∷ cs) ≡ trimmed cs
trimmed-white c cs white =
    ap (λ b. drop (cond b (1 + prefix_len is_whitespace cs) 0) (c ∷ cs)) white ∙ drop-one_more (prefix_len is_whitespace cs) c cs

trimmed-other : (c : ℕ) (cs : List ℕ) → is_whitespace c ≡ false → trimmed (c ∷ cs) ≡ c ∷ cs
trimmed-other c cs other = ap (λ b. drop (cond b (1 + prefix_len is_whitespace cs) 0) (c ∷ cs)) other

-- white space at the start doesn't change what is typed
pub typed_len-trimmed : (text : List ℕ) → typed_len (trimmed text) ≡ typed_len text
typed_len-trimmed [] = refl
typed_len-trimmed (c ∷ cs) =
    ⊎_elim (λ white. ap typed_len (trimmed-white c cs white) ∙ typed_len-trimmed cs ∙ sym (typed_len_behind [] c cs white))
    (λ other. ap typed_len (trimmed-other c cs other)) (cases_Bool (is_whitespace c))

-- a text that is cut has the typed word of its end
pub typed_word-drop : (n : ℕ) (text : List ℕ) → typed_len (drop n text) ≡ typed_len text → typed_word (drop n text) ≡ typed_word text
typed_word-drop n text same =
    let whole : take n text ++ drop n text ≡ text = take-append-drop n text in
    sym (typed_word_end (take n text) (drop n text) (ap typed_len whole ∙ sym same)) ∙ ap typed_word whole

pub typed_word-trimmed : (text : List ℕ) → typed_word (trimmed text) ≡ typed_word text
typed_word-trimmed text = typed_word-drop (prefix_len is_whitespace text) text (typed_len-trimmed text)

-- where a text with a space is cut behind its first run, white space follows
record Cut (text rest : List ℕ) : Type 0 where
  first : ℕ
  more : List ℕ
  white : is_whitespace first ≡ true
  is : rest ≡ first ∷ more

space_is_white : (c : ℕ) → (c == 32) ≡ true → is_whitespace c ≡ true
space_is_white c is = ap is_whitespace (eqb-true c 32 is)

or_else : (a b : Bool) → (a ≡ true → ⊥) → (a || b) ≡ true → b ≡ true
or_else true b not_a is = absurd (not_a refl)
or_else false b not_a is = is

no_space : (c : ℕ) → is_whitespace c ≡ false → (c == 32) ≡ true → ⊥
no_space c other is = let white = space_is_white c is in cc

run-other : (c : ℕ) (cs : List ℕ) → is_whitespace c ≡ false → drop (position_or_len is_whitespace (c ∷ cs)) (c ∷ cs) ≡ drop (position_or_len is_whitespace cs) cs
run-other c cs other =
    ap (λ b. drop (cond (not b) (1 + position_or_len is_whitespace cs) 0) (c ∷ cs)) other ∙ drop-one_more (position_or_len is_whitespace cs) c cs

run-white : (c : ℕ) (cs : List ℕ) → is_whitespace c ≡ true → drop (position_or_len is_whitespace (c ∷ cs)) (c ∷ cs) ≡ c ∷ cs
run-white c cs white = ap (λ b. drop (cond (not b) (1 + position_or_len is_whitespace cs) 0) (c ∷ cs)) white

cut_at_run : (text : List ℕ) → has_space text ≡ true → Cut text (drop (position_or_len is_whitespace text) text)
cut_at_run [] is = absurd (let no : false ≡ true = is in cc)
cut_at_run (c ∷ cs) is =
    ⊎_elim (λ white. record { first = c; more = cs; white = white; is = run-white c cs white })
    (λ other.
    let cut = cut_at_run cs (or_else (c == 32) (has_space cs) (no_space c other) is) in
    record { first = cut.first; more = cut.more; white = cut.white; is = run-other c cs other ∙ cut.is })
    (cases_Bool (is_whitespace c))

-- nor does the option's name and the white space behind it
pub typed_len-behind_run : (text : List ℕ) → has_space text ≡ true → typed_len (behind_run text) ≡ typed_len text
typed_len-behind_run text is =
    let n = position_or_len is_whitespace text in
    let cut = cut_at_run text is in
    let whole : take n text ++ cut.first ∷ cut.more ≡ text = ap (λ r. take n text ++ r) (sym cut.is) ∙ take-append-drop n text in
    typed_len-trimmed (drop n text) ∙ ap typed_len cut.is ∙ typed_len_behind [] cut.first cut.more cut.white
    ∙ sym (ap typed_len (sym whole) ∙ typed_len_behind (take n text) cut.first cut.more cut.white)

pub typed_word-behind_run : (text : List ℕ) → has_space text ≡ true → typed_word (behind_run text) ≡ typed_word text
typed_word-behind_run text is =
    let n = position_or_len is_whitespace text in
    let cut = cut_at_run text is in
    let whole : take n text ++ cut.first ∷ cut.more ≡ text = ap (λ r. take n text ++ r) (sym cut.is) ∙ take-append-drop n text in
    let same : typed_len (drop n text) ≡ typed_len text =
    ap typed_len cut.is ∙ typed_len_behind [] cut.first cut.more cut.white ∙ sym (ap typed_len (sym whole) ∙ typed_len_behind (take n text) cut.first cut.more cut.white) in
    typed_word-trimmed (drop n text) ∙ typed_word-drop n text same

-- the completions of words, by what is typed
pub word_items_typed : (middle : Bool) (words : List (List ℕ)) (typed before : List ℕ) → typed ≡ typed_word before
    → map (completion (length typed)) (filter (fits middle typed) words) ≡ word_items middle words before
word_items_typed middle words typed before is =
    ap (λ t. map (completion (length t)) (filter (fits middle t) words)) is
    ∙ ap (λ n. map (completion n) (filter (fits middle (typed_word before)) words)) (length-typed_word before)

-- an option that stands at a place is found there, or passed over
pub option_found : (name : List ℕ) (options : List NestedOption) (at : ℕ) (option : NestedOption) → at < length options
    → option ≡ get_or options at option → bytes_eq option.name name ≡ true → option_of name (drop at options) ≡ Some option
option_found name options at option within is same =
    ap (option_of name) (drop_more options at option within)
    ∙ ap (λ o. cond (bytes_eq o.name name) (Some o) (option_of name (drop (at + 1) options))) (sym is)
    ∙ ap (λ b. cond b (Some option) (option_of name (drop (at + 1) options))) same

pub option_passed : (name : List ℕ) (options : List NestedOption) (at : ℕ) (option : NestedOption) → at < length options
    → option ≡ get_or options at option → bytes_eq option.name name ≡ false → option_of name (drop (at + 1) options) ≡ option_of name (drop at options)
option_passed name options at option within is other =
    sym (ap (option_of name) (drop_more options at option within)
    ∙ ap (λ o. cond (bytes_eq o.name name) (Some o) (option_of name (drop (at + 1) options))) (sym is)
    ∙ ap (λ b. cond b (Some option) (option_of name (drop (at + 1) options))) other)

-- the names that fit, where no space stands in the text
pub names_items : (options : List NestedOption) (typed before : List ℕ) → typed ≡ typed_word before → has_space (trimmed before) ≡ false
    → map (completion (length typed)) (filter (fits false typed) (map (λ option. option.name) options)) ≡ nested_items options before
names_items options typed before is none =
    let text = trimmed before in
    let names = map (λ (option : NestedOption). option.name) options in
    word_items_typed false names typed text (is ∙ sym (typed_word-trimmed before))
    ∙ sym (ap (λ b. cond b (inner_items (words_of (option_of (first_run text) options)) (behind_run text)) (word_items false names text)) none)

-- the inner words that fit, behind an option's name
pub inner_items_are : (options : List NestedOption) (typed before : List ℕ) (words : List (List ℕ)) → typed ≡ typed_word before → has_space (trimmed before) ≡ true
    → words_of (option_of (first_run (trimmed before)) options) ≡ Some words
    → map (completion (length typed)) (filter (fits false typed) words) ≡ nested_items options before
inner_items_are options typed before words is some found =
    let text = trimmed before in
    let names = map (λ (option : NestedOption). option.name) options in
    word_items_typed false words typed (behind_run text) (is ∙ sym (typed_word-behind_run text some ∙ typed_word-trimmed before))
    ∙ sym (ap (λ b. cond b (inner_items (words_of (option_of (first_run text) options)) (behind_run text)) (word_items false names text)) some
    ∙ ap (λ ws. inner_items ws (behind_run text)) found)
