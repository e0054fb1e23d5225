-- The texts of rules: what separates them is in none, and each is that of one rule.
use Rattle.std.proofs.Common.{◌≡◌, ℕ, ◌<◌, true, false, List, [], ◌∷◌, ◌++◌, map, length, take, Option, Some, refl, sym, ap, subst, ◌∙◌, append_assoc, ⊎_elim, ◌⊎◌, inl, inr, ◌≤◌, arith}
use Rattle.std.specs.Prelude.{◌==◌, ◌≢◌, not, All}
use Rattle.std.specs.List.{AllByRecursion, find, join_with_byte}
use Rattle.std.specs.Str.{bytes_eq}
use Rattle.std.proofs.lemmas.List.{length-append, length-map, length-take, get_or-take}
use Rattle.std.proofs.lemmas.List.Elements.{All-from_recursion}
use Rattle.std.proofs.lemmas.Bool.{cases_lt}
use Rattle.std.proofs.Math.Seq.{take-append_seam, get_or-append_seam}
use Rattle.std.proofs.lemmas.List.Splits.{join_with_byte-slice_split}
use Rattle.style_sheet.specs.declared.classes.Class.{Class}
use Rattle.style_sheet.specs.declared.classes.Class.TheVariants.{Prompt, Continuation, RightPrompt, ArgToolbar, SearchToolbar, ControlCharacter, Selected, BottomToolbar, AutoSuggestion, ValidationToolbar, CompletionMenu, Completion, CurrentCompletion}
use Rattle.style_sheet.specs.declared.changes.Change.{Change}
use Rattle.style_sheet.specs.Ascii.{is_ascii}
use Rattle.style_sheet.specs.ClassName.{class_name, classes}
use Rattle.style_sheet.specs.declared.faults.StyleFault.{StyleFault}
use Rattle.style_sheet.specs.declared.faults.StyleFault.TheVariants.{BadStyle, NoMemory}
use Rattle.style_sheet.specs.StyleRule.{StyleRule}
use Rattle.style_sheet.specs.Grammar.{IsRule, IsRuleText, IsCauseOf, IsFirstOutside, Spells, words_text, rule_text, sheet_text, parts_of}
use Rattle.style_sheet.proofs.Parts.{parts, lacks, all-append, lacks-unequal, parts-join, each_text, map-same, same_cut}
use Rattle.style_sheet.proofs.WordTexts.{words_text-lacks, words_text-same}

-- the class with this name
abbrev class_of : List ℕ → Option Class
class_of name = find (λ class. bytes_eq (class_name class) name) classes

class_of-name : (class : Class) → class_of (class_name class) ≡ Some class
class_of-name Prompt = refl
class_of-name Continuation = refl
class_of-name RightPrompt = refl
class_of-name ArgToolbar = refl
class_of-name SearchToolbar = refl
class_of-name ControlCharacter = refl
class_of-name Selected = refl
class_of-name BottomToolbar = refl
class_of-name AutoSuggestion = refl
class_of-name ValidationToolbar = refl
class_of-name CompletionMenu = refl
class_of-name Completion = refl
class_of-name CurrentCompletion = refl

-- no name is that of two classes
class_name-same : (a b : Class) → class_name a ≡ class_name b → a ≡ b
class_name-same a b e =
    let x = class_of-name a in
    let y = class_of-name b in
    let z : class_of (class_name a) ≡ class_of (class_name b) = ap (λ name. class_of name) e in
    cc

-- the text is ASCII, and neither an equals sign nor a semicolon is in it
abbrev IsName : List ℕ → Type 0
IsName text = (lacks 61 text ≡ true) × (lacks 59 text ≡ true) × (is_ascii text ≡ true)

class_name-plain : (class : Class) → IsName (class_name class)
class_name-plain Prompt = (refl, refl, refl)
class_name-plain Continuation = (refl, refl, refl)
class_name-plain RightPrompt = (refl, refl, refl)
class_name-plain ArgToolbar = (refl, refl, refl)
class_name-plain SearchToolbar = (refl, refl, refl)
class_name-plain ControlCharacter = (refl, refl, refl)
class_name-plain Selected = (refl, refl, refl)
class_name-plain BottomToolbar = (refl, refl, refl)
class_name-plain AutoSuggestion = (refl, refl, refl)
class_name-plain ValidationToolbar = (refl, refl, refl)
class_name-plain CompletionMenu = (refl, refl, refl)
class_name-plain Completion = (refl, refl, refl)
class_name-plain CurrentCompletion = (refl, refl, refl)

-- a name that is not ASCII is no class's
pub class_name-unlike : (name : List ℕ) → is_ascii name ≡ false → (class : Class) → class_name class ≡ name → ⊥
class_name-unlike name other class is =
    let ascii : is_ascii name ≡ true = ap is_ascii (sym is) ∙ (class_name-plain class).2 in
    cc

-- a rule's text begins with its class and an equals sign
rule_text-is : (rule : StyleRule) → rule_text rule ≡ class_name rule.class ++ 61 ∷ words_text rule.changes
rule_text-is rule = append_assoc (class_name rule.class) (61 ∷ []) (words_text rule.changes)

-- what stands before the first equals sign of a rule's text, and what stands behind it
rule_parts : (rule : StyleRule) (text name behind : List ℕ) → rule_text rule ≡ text → text ≡ name ++ 61 ∷ behind → All (λ b. b ≢ 61) name
    → (class_name rule.class ≡ name) × (words_text rule.changes ≡ behind)
rule_parts rule text name behind is whole first =
    same_cut 61 text (class_name rule.class) (words_text rule.changes) name behind (class_name-plain rule.class).0 (sym (rule_text-is rule) ∙ is) first whole

-- a text that begins with no class's name is no rule's
pub unknown_class : (text name behind : List ℕ) → text ≡ name ++ 61 ∷ behind → All (λ b. b ≢ 61) name → ((class : Class) → class_name class ≡ name → ⊥) → IsRuleText text → ⊥
unknown_class text name behind whole first none (rule, have, is) = none rule.class (rule_parts rule text name behind is whole first).0

-- no semicolon is in a rule's text
rule_text-lacks : (rule : StyleRule) → IsRule rule → lacks 59 (rule_text rule) ≡ true
rule_text-lacks rule have =
    rw rule_text-is (all-append (λ c. not (c == 59)) (class_name rule.class) (61 ∷ words_text rule.changes) (class_name-plain rule.class).1 (words_text-lacks rule.changes have))

abbrev rule_from : Class → List Change → StyleRule
rule_from class changes = record { class = class; changes = changes }

-- no text is that of two rules
rule_text-same : (a b : StyleRule) → IsRule a → IsRule b → rule_text a ≡ rule_text b → a ≡ b
rule_text-same a b p q e =
    let cut = rule_parts a (rule_text b) (class_name b.class) (words_text b.changes) e (rule_text-is b) (lacks-unequal 61 (class_name b.class) (class_name-plain b.class).0) in
    let class : a.class ≡ b.class = class_name-same a.class b.class cut.0 in
    let changes : a.changes ≡ b.changes = words_text-same a.changes b.changes p q cut.1 in
    ap (λ k. rule_from k a.changes) class ∙ ap (λ cs. rule_from b.class cs) changes

-- a rule's text is not empty
rule_text-some : (rule : StyleRule) → 0 < length (rule_text rule)
rule_text-some rule = omega (arith, ap length (rule_text-is rule), length-append (class_name rule.class) (61 ∷ words_text rule.changes))

sheet_text-some : (rule : StyleRule) (rules : List StyleRule) → 0 < length (sheet_text (rule ∷ rules))
sheet_text-some rule [] = rule_text-some rule
sheet_text-some rule (next ∷ rules) = omega (arith, rule_text-some rule, length-append (rule_text rule) (59 ∷ sheet_text (next ∷ rules)))

-- a text that is not empty is cut at each semicolon
parts_of-some : (text : List ℕ) → 0 < length text → parts_of text ≡ parts 59 text
parts_of-some [] some = absurd (omega arith)
parts_of-some (b ∷ text) some = refl

-- the parts of the text of rules are their texts
pub parts_of-sheet_text : (rules : List StyleRule) → AllByRecursion IsRule rules → parts_of (sheet_text rules) ≡ map rule_text rules
parts_of-sheet_text [] each = refl
parts_of-sheet_text (rule ∷ rules) each =
    parts_of-some (sheet_text (rule ∷ rules)) (sheet_text-some rule rules)
    ∙ parts-join 59 (map rule_text (rule ∷ rules)) (omega arith) (each_text rule_text IsRule (λ text. lacks 59 text ≡ true) rule_text-lacks (rule ∷ rules) each)

-- the parts of a text, joined, are the text
join-parts_of : (text : List ℕ) → join_with_byte 59 (parts_of text) ≡ text
join-parts_of [] = refl
join-parts_of (b ∷ text) = join_with_byte-slice_split 59 (b ∷ text)

-- rules whose texts are the parts of a text spell it
pub spells-parts : (text : List ℕ) (rules : List StyleRule) → AllByRecursion IsRule rules → map rule_text rules ≡ parts_of text → Spells text rules
spells-parts text rules each all = record {
  each = each;
  text_is = ap (λ ps. join_with_byte 59 ps) all ∙ join-parts_of text;
}

pub parts-spelled : (text : List ℕ) (rules : List StyleRule) → Spells text rules → map rule_text rules ≡ parts_of text
parts-spelled text rules spelled = sym (parts_of-sheet_text rules spelled.each) ∙ ap (λ t. parts_of t) spelled.text_is

-- no text is that of two lists of rules
pub spelled-same : (text : List ℕ) (a b : List StyleRule) → AllByRecursion IsRule a → map rule_text a ≡ parts_of text → Spells text b → a ≡ b
spelled-same text a b each all spelled =
    map-same rule_text IsRule rule_text-same a b each spelled.each (all ∙ sym (parts-spelled text b spelled))

-- the parts of the text of rules are texts of rules
rule_texts : (rules : List StyleRule) (ps : List (List ℕ)) → AllByRecursion IsRule rules → map rule_text rules ≡ ps → AllByRecursion IsRuleText ps
rule_texts rules ps each all = subst (AllByRecursion IsRuleText) all (each_text rule_text IsRule IsRuleText (λ rule have. (rule, have, refl)) rules each)

-- where each part is the text of a rule, none is the first outside the grammar
pub none_outside : (text : List ℕ) (rules : List StyleRule) (at : ℕ) → AllByRecursion IsRule rules → map rule_text rules ≡ parts_of text → IsFirstOutside text at → ⊥
none_outside text rules at each all first =
    first.outside (All-from_recursion IsRuleText (parts_of text) (rule_texts rules (parts_of text) each all) at [] first.within)

-- behind the texts of rules the next part is no rule's: it is the first outside the grammar
pub first_outside : (text part : List ℕ) (rules : List StyleRule) (rest : List (List ℕ)) → AllByRecursion IsRule rules → map rule_text rules ++ part ∷ rest ≡ parts_of text → (IsRuleText part → ⊥)
    → IsFirstOutside text (length rules)
first_outside text part rules rest each all none =
    let texts = map rule_text rules in
    let many : length (map rule_text rules) ≡ length rules = length-map rules rule_text in
    record {
      within = omega (arith, many, ap length all, length-append (map rule_text rules) (part ∷ rest));
      before = rule_texts rules (take (length rules) (parts_of text)) each (sym (take-append_seam (map rule_text rules) (part ∷ rest)) ∙ rw (many, all) refl);
      outside = λ is. none (subst IsRuleText (rw (← all, ← many) (get_or-append_seam (map rule_text rules) part rest [])) is);
    }

before_none : (text : List ℕ) (m n : ℕ) → IsFirstOutside text m → IsFirstOutside text n → m < n → ⊥
before_none text m n x y lt =
    let within : m < length (take n (parts_of text)) = omega (arith, length-take n (parts_of text), x.within) in
    x.outside (subst IsRuleText (get_or-take n (parts_of text) m [] lt) (All-from_recursion IsRuleText (take n (parts_of text)) y.before m [] within))

-- there is one first
pub first-same : (text : List ℕ) (m n : ℕ) → IsFirstOutside text m → IsFirstOutside text n → m ≡ n
first-same text m n x y = ⊎_elim
    (λ (lt : m < n). absurd (before_none text m n x y lt))
    (λ (le : n ≤ m). ⊎_elim (λ (lt : n < m). absurd (before_none text n m y x lt)) (λ (ge : m ≤ n). omega arith) (cases_lt n m))
    (cases_lt m n)

-- rules that spell a text leave no fault but want of memory
pub only_no_memory : (text : List ℕ) (fault : StyleFault) → IsCauseOf text fault → (rules : List StyleRule) → Spells text rules → fault ≡ NoMemory
only_no_memory text (BadStyle at) first rules spelled = absurd (none_outside text rules at spelled.each (parts-spelled text rules spelled) first)
only_no_memory text NoMemory cause rules spelled = refl

-- a first part outside the grammar is told, but for want of memory
pub told_outside : (text : List ℕ) (fault : StyleFault) → IsCauseOf text fault → (at : ℕ) → IsFirstOutside text at → (fault ≡ BadStyle at) ⊎ (fault ≡ NoMemory)
told_outside text (BadStyle n) first at other = inl (ap BadStyle (first-same text n at first other))
told_outside text NoMemory cause at other = inr refl
