-- The words of changes: none has a separator in it, and each is that of one change.
use Rattle.std.proofs.Common.{◌≡◌, ℕ, ◌/◌, ◌%◌, ◌<◌, inl, inr, Bool, true, false, cond, List, [], ◌∷◌, ◌++◌, map, length, take, drop, get_or, Option, Some, None, IfSome, refl, sym, ap, ◌∙◌, arith}
use Rattle.std.specs.Prelude.{◌==◌, ◌&&◌, not, codes, position, nat_lt}
use Rattle.std.specs.List.{AllByRecursion, find, list_all, join_with_byte}
use Rattle.std.specs.Option.{option_map}
use Rattle.std.specs.Str.{bytes_eq}
use Rattle.std.specs.Char.{digit_char}
use Rattle.std.proofs.lemmas.List.{length-map, append-nil}
use Rattle.std.proofs.lemmas.List.Splits.{join_with_byte-slice_split}
use Rattle.std.proofs.lemmas.Bool.{and_from}
use Rattle.cell_grid.specs.declared.attrs.Colour.{Colour}
use Rattle.cell_grid.specs.declared.attrs.Colour.TheVariants.{Ansi, Rgb}
use Rattle.style_sheet.specs.declared.changes.Flag.{Flag}
use Rattle.style_sheet.specs.declared.changes.Flag.TheVariants.{Bold, Italic, Underline, Blink, Reverse, Hidden, Strike}
use Rattle.style_sheet.specs.declared.changes.Change.{Change}
use Rattle.style_sheet.specs.declared.changes.Change.TheVariants.{Switch, Foreground, Background}
use Rattle.style_sheet.specs.Ascii.{is_ascii}
use Rattle.style_sheet.specs.Spelling.{ansi_names, flag_name, colour_name, colour_word, change_word, hex_pair, IsColour, IsChange}
use Rattle.style_sheet.specs.Grammar.{HaveWords, IsWords, words_text}
use Rattle.style_sheet.proofs.ColourNames.{below_sixteen, pair_value, pair_value-hex_pair, digit_char-apart, digit_char-ascii}
use Rattle.style_sheet.proofs.Parts.{parts, lacks, all-append, all-join, parts-some, parts-join, each_text, among, map-same}
use Rattle.style_sheet.proofs.Tables.{flags}

-- the flag with this name
abbrev flag_of : List ℕ → Option Flag
flag_of name = find (λ flag. bytes_eq (flag_name flag) name) flags

abbrev rgb_of : List ℕ → Option (Option Colour)
rgb_of (p ∷ q ∷ s ∷ t ∷ u ∷ v ∷ []) = Some (Some (Rgb (pair_value p q) (pair_value s t) (pair_value u v)))
rgb_of digits = None

-- the colour that a word stands for, where it stands for one
abbrev colour_of : List ℕ → Option (Option Colour)
colour_of name = cond (bytes_eq name (codes "default")) (Some None) (cond (get_or name 0 0 == 35) (rgb_of (drop 1 name)) (option_map (λ n. Some (Ansi n)) (position (λ other. bytes_eq other name) ansi_names)))

-- the change that a word is that of, where it is one
abbrev change_of : List ℕ → Option Change
change_of word = cond (bytes_eq (take 3 word) (codes "fg:")) (option_map Foreground (colour_of (drop 3 word))) (cond (bytes_eq (take 3 word) (codes "bg:")) (option_map Background (colour_of (drop 3 word))) (cond (bytes_eq (take 2 word) (codes "no")) (option_map (λ flag. Switch flag false) (flag_of (drop 2 word))) (option_map (λ flag. Switch flag true) (flag_of word))))

colour_of-word : (colour : Option Colour) → IfSome colour IsColour → colour_of (colour_word colour) ≡ Some colour
colour_of-word None fits = refl
colour_of-word (Some (Ansi n)) fits = below_sixteen (λ n. colour_of (colour_name (Ansi n)) ≡ Some (Some (Ansi n)))
    (refl, (refl, (refl, (refl, (refl, (refl, (refl, (refl, (refl, (refl, (refl, (refl, (refl, (refl, (refl, (refl, tt)))))))))))))))) n fits
colour_of-word (Some (Rgb r g b)) fits =
    rw (pair_value-hex_pair r fits.0, pair_value-hex_pair g fits.1, pair_value-hex_pair b fits.2) refl

change_of-word : (change : Change) → IsChange change → change_of (change_word change) ≡ Some change
change_of-word (Switch Bold true) fits = refl
change_of-word (Switch Italic true) fits = refl
change_of-word (Switch Underline true) fits = refl
change_of-word (Switch Blink true) fits = refl
change_of-word (Switch Reverse true) fits = refl
change_of-word (Switch Hidden true) fits = refl
change_of-word (Switch Strike true) fits = refl
change_of-word (Switch Bold false) fits = refl
change_of-word (Switch Italic false) fits = refl
change_of-word (Switch Underline false) fits = refl
change_of-word (Switch Blink false) fits = refl
change_of-word (Switch Reverse false) fits = refl
change_of-word (Switch Hidden false) fits = refl
change_of-word (Switch Strike false) fits = refl
change_of-word (Foreground colour) fits = ap (λ o. option_map Foreground o) (colour_of-word colour fits)
change_of-word (Background colour) fits = ap (λ o. option_map Background o) (colour_of-word colour fits)

-- no word is that of two changes
pub change_word-same : (a b : Change) → IsChange a → IsChange b → change_word a ≡ change_word b → a ≡ b
change_word-same a b p q e =
    let x = change_of-word a p in
    let y = change_of-word b q in
    let z : change_of (change_word a) ≡ change_of (change_word b) = ap (λ word. change_of word) e in
    cc

-- a text is ASCII, and neither a space nor a semicolon is in it
abbrev pub IsClean : List ℕ → Type 0
IsClean text = (lacks 32 text ≡ true) × (lacks 59 text ≡ true) × (is_ascii text ≡ true)

-- a test that each digit passes
abbrev TakesDigits : (ℕ → Bool) → Type 0
TakesDigits test = (d : ℕ) → d < 16 → test (digit_char d) ≡ true

all-hex_pair : (test : ℕ → Bool) (n : ℕ) → TakesDigits test → n < 256 → list_all test (hex_pair n) ≡ true
all-hex_pair test n takes fits =
    and_from (test (digit_char (n / 16))) (test (digit_char (n % 16)) && true) (takes (n / 16) (omega arith))
    (and_from (test (digit_char (n % 16))) true (takes (n % 16) (omega arith)) refl)

all-digits : (test : ℕ → Bool) (r g b : ℕ) → TakesDigits test → r < 256 → g < 256 → b < 256 → list_all test (hex_pair r ++ (hex_pair g ++ hex_pair b)) ≡ true
all-digits test r g b takes x y z =
    all-append test (hex_pair r) (hex_pair g ++ hex_pair b) (all-hex_pair test r takes x) (all-append test (hex_pair g) (hex_pair b) (all-hex_pair test g takes y) (all-hex_pair test b takes z))

colour_word-clean : (colour : Option Colour) → IfSome colour IsColour → IsClean (colour_word colour)
colour_word-clean None fits = (refl, refl, refl)
colour_word-clean (Some (Ansi n)) fits = below_sixteen (λ n. IsClean (colour_name (Ansi n)))
    ((refl, refl, refl), ((refl, refl, refl), ((refl, refl, refl), ((refl, refl, refl), ((refl, refl, refl), ((refl, refl, refl), ((refl, refl, refl), ((refl, refl, refl), ((refl, refl, refl), ((refl, refl, refl), ((refl, refl, refl), ((refl, refl, refl), ((refl, refl, refl), ((refl, refl, refl), ((refl, refl, refl), ((refl, refl, refl), tt)))))))))))))))) n fits
colour_word-clean (Some (Rgb r g b)) fits = (
  all-digits (λ c. not (c == 32)) r g b (λ d inside. digit_char-apart d 32 inside (inl (omega arith))) fits.0 fits.1 fits.2,
  all-digits (λ c. not (c == 59)) r g b (λ d inside. digit_char-apart d 59 inside (inr (omega arith, omega arith))) fits.0 fits.1 fits.2,
  all-digits (λ c. nat_lt c 128) r g b digit_char-ascii fits.0 fits.1 fits.2,
)

change_word-clean : (change : Change) → IsChange change → IsClean (change_word change)
change_word-clean (Switch Bold true) fits = (refl, refl, refl)
change_word-clean (Switch Italic true) fits = (refl, refl, refl)
change_word-clean (Switch Underline true) fits = (refl, refl, refl)
change_word-clean (Switch Blink true) fits = (refl, refl, refl)
change_word-clean (Switch Reverse true) fits = (refl, refl, refl)
change_word-clean (Switch Hidden true) fits = (refl, refl, refl)
change_word-clean (Switch Strike true) fits = (refl, refl, refl)
change_word-clean (Switch Bold false) fits = (refl, refl, refl)
change_word-clean (Switch Italic false) fits = (refl, refl, refl)
change_word-clean (Switch Underline false) fits = (refl, refl, refl)
change_word-clean (Switch Blink false) fits = (refl, refl, refl)
change_word-clean (Switch Reverse false) fits = (refl, refl, refl)
change_word-clean (Switch Hidden false) fits = (refl, refl, refl)
change_word-clean (Switch Strike false) fits = (refl, refl, refl)
change_word-clean (Foreground colour) fits = colour_word-clean colour fits
change_word-clean (Background colour) fits = colour_word-clean colour fits

-- a word that is not ASCII is no change's
pub change_word-unlike : (word : List ℕ) → is_ascii word ≡ false → (change : Change) → IsChange change → change_word change ≡ word → ⊥
change_word-unlike word other change fits is =
    let ascii : is_ascii word ≡ true = ap is_ascii (sym is) ∙ (change_word-clean change fits).2 in
    cc

-- no semicolon is in the text of changes
pub words_text-lacks : (changes : List Change) → HaveWords changes → lacks 59 (words_text changes) ≡ true
words_text-lacks changes have =
    all-join (λ c. not (c == 59)) 32 (map change_word changes) refl (each_text change_word IsChange (λ word. lacks 59 word ≡ true) (λ change fits. (change_word-clean change fits).1) changes have.each)

-- the text of changes, cut at its spaces, is their words
pub parts-words_text : (changes : List Change) → HaveWords changes → parts 32 (words_text changes) ≡ map change_word changes
parts-words_text changes have =
    parts-join 32 (map change_word changes) (rw length-map have.some) (each_text change_word IsChange (λ word. lacks 32 word ≡ true) (λ change fits. (change_word-clean change fits).0) changes have.each)

-- no text is that of two lists of changes
pub words_text-same : (a b : List Change) → HaveWords a → HaveWords b → words_text a ≡ words_text b → a ≡ b
words_text-same a b p q e =
    map-same change_word IsChange change_word-same a b p.each q.each (sym (parts-words_text a p) ∙ ap (λ text. parts 32 text) e ∙ parts-words_text b q)

-- every part of a text is a word
pub words_read : (text : List ℕ) (changes : List Change) → AllByRecursion IsChange changes → map change_word changes ++ [] ≡ parts 32 text → HaveWords changes × (words_text changes ≡ text)
words_read text changes each all =
    let words : map change_word changes ≡ parts 32 text = sym (append-nil (map change_word changes)) ∙ all in
    let many : length (map change_word changes) ≡ length (parts 32 text) = ap length words in
    let some : 0 < length changes = omega (arith, length-map changes change_word, many, parts-some 32 text) in
    (record { some = some; each = each }, ap (λ ps. join_with_byte 32 ps) words ∙ join_with_byte-slice_split 32 text)

-- a part of a text is no word
pub words_unread : (text word : List ℕ) (front rest : List (List ℕ)) → front ++ word ∷ rest ≡ parts 32 text → ((change : Change) → IsChange change → change_word change ≡ word → ⊥) → IsWords text → ⊥
words_unread text word front rest all none (changes, have, is) =
    let words : map change_word changes ≡ front ++ word ∷ rest = sym (parts-words_text changes have) ∙ ap (λ t. parts 32 t) is ∙ sym all in
    let found = among change_word IsChange changes front rest word have.each words in
    none found.0 found.1 found.2
