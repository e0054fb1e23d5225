-- The grammar of style rules: which text, as its bytes, is that of a list of rules, and which of its parts is the first that is no rule.
use Rattle.std.specs.Prelude.{◌≡◌, ℕ, ◌<◌, ◌==◌, List, [], ◌∷◌, ◌++◌, length, take, map, codes, slice_index_or}
use Rattle.std.specs.List.{AllByRecursion, slice_split, join_with_byte}
use Rattle.style_sheet.specs.declared.changes.Change.{Change}
use Rattle.style_sheet.specs.declared.faults.StyleFault.{StyleFault}
use Rattle.style_sheet.specs.declared.faults.StyleFault.TheVariants.{BadStyle, NoMemory}
use Rattle.style_sheet.specs.ClassName.{class_name}
use Rattle.style_sheet.specs.Spelling.{change_word, IsChange}
use Rattle.style_sheet.specs.StyleRule.{StyleRule}

-- the text of changes: their words with one space (32) between each two
abbrev pub words_text : List Change → List ℕ
words_text changes = join_with_byte 32 (map change_word changes)

-- changes that have a text: there is one at least, and each of their colours there is
pub record HaveWords (changes : List Change) : Type 0 where
  pub some : 0 < length changes
  pub each : AllByRecursion IsChange changes

-- the text of a rule: its class, `=` and its words
abbrev pub rule_text : StyleRule → List ℕ
rule_text rule = class_name rule.class ++ codes "=" ++ words_text rule.changes

-- a rule that has a text
abbrev pub IsRule : StyleRule → Type 0
IsRule rule = HaveWords rule.changes

-- the text of a list of rules: their texts with `;` (59) between each two
abbrev pub sheet_text : List StyleRule → List ℕ
sheet_text rules = join_with_byte 59 (map rule_text rules)

-- the grammar: the text is that of these rules
pub record Spells (text : List ℕ) (rules : List StyleRule) : Type 0 where
  pub each : AllByRecursion IsRule rules
  pub text_is : sheet_text rules ≡ text

-- the parts of a text that are to be rules: it is cut at each `;`, and the empty text has none
abbrev pub parts_of : List ℕ → List (List ℕ)
parts_of [] = []
parts_of (b ∷ bs) = slice_split (λ x. x == 59) (b ∷ bs)

-- a part that is the text of some rule
abbrev pub IsRuleText : List ℕ → Type 0
IsRuleText part = (rule : StyleRule) × IsRule rule × (rule_text rule ≡ part)

-- the text of some changes
abbrev pub IsWords : List ℕ → Type 0
IsWords text = (changes : List Change) × HaveWords changes × (words_text changes ≡ text)

-- the part with this number, counted from 0, is the first that is no rule's text
pub record IsFirstOutside (text : List ℕ) (at : ℕ) : Type 0 where
  pub within : at < length (parts_of text)
  pub before : AllByRecursion IsRuleText (take at (parts_of text))
  pub outside : ¬ IsRuleText (slice_index_or (parts_of text) at [])

-- why a text is refused: a part is the first outside the grammar, or there was no memory
abbrev pub IsCauseOf : List ℕ → StyleFault → Type 0
IsCauseOf text (BadStyle at) = IsFirstOutside text at
IsCauseOf text NoMemory = Unit {0}
