-- The words that name keys, and that no name is that of two keys.
use Prim.Native.Nat.{zero, suc}
use Rattle.std.proofs.Common.{◌≡◌, ℕ, ◌-◌, ◌<◌, ◌≤◌, true, false, cond, nat_lt, List, [], ◌∷◌, ◌++◌, length, get_or, Option, Some, None, IfSome, IfNone, ◌⊎◌, inl, inr, refl, sym, ap, subst, ◌∙◌, arith, ⊎_elim}
use Rattle.std.specs.Prelude.{◌==◌, codes, slice_get}
use Rattle.std.specs.List.{AllByRecursion, list_all, find}
use Rattle.std.specs.Option.{option_map_or}
use Rattle.std.specs.Str.{chars, bytes_eq, IsAscii, IsUtf8}
use lib.Utf8.{encodes, encode}
use Rattle.std.proofs.lemmas.Bool.{cases_Bool, cond-true, cond-false, eqb-true, and_parts}
use Rattle.std.proofs.lemmas.Bool.Decides.{nat_tests}
use Rattle.std.proofs.lemmas.Option.{slice_get_within}
use Rattle.std.proofs.lemmas.Str.{encodes-chars, encodes-IsAscii, chars-IsAscii, chars-nil, chars_past_char, IsUtf8-past_char}
use Rattle.key_names.specs.declared.key.Key.{Key}
use Rattle.key_names.specs.declared.key.Key.TheVariants.{Char, Control, Escape, Up, Down, Left, Right, Home, End, Insert, Delete, PageUp, PageDown, BackTab, Function, ShiftUp, ShiftDown, ShiftLeft, ShiftRight, ControlUp, ControlDown, ControlLeft, ControlRight, Paste, Ignored, Any}
use Rattle.key_names.specs.KeyName.{is_plain, is_control_letter, function_names, function_name, word_of, char_name, control_name, name_of}

-- the keys that have a word
abbrev pub word_keys : List Key
word_keys =
    Char 32 ∷ Escape ∷ Up ∷ Down ∷ Left ∷ Right ∷ Home ∷ End ∷ Insert ∷ Delete ∷ PageUp ∷ PageDown ∷ BackTab ∷ Function 1 ∷ Function 2 ∷ Function 3 ∷ Function 4 ∷ Function 5 ∷ Function 6 ∷ Function 7 ∷ Function 8 ∷ Function 9 ∷ Function 10 ∷ Function 11 ∷ Function 12 ∷ ShiftUp ∷ ShiftDown ∷ ShiftLeft ∷ ShiftRight ∷ ControlUp ∷ ControlDown ∷ ControlLeft ∷ ControlRight ∷ Paste ∷ Ignored ∷ Any ∷ []

function_bounds : (n : ℕ) (w : List ℕ) → function_name n ≡ Some w → (0 < n) × (n ≤ 12)
function_bounds n w e = ⊎_elim
    (λ (none : n == 0 ≡ true). absurd (let h = cond-true (n == 0) None (slice_get function_names (n - 1)) none in cc))
    (λ (some : n == 0 ≡ false).
    let read : slice_get function_names (n - 1) ≡ Some w = sym (cond-false (n == 0) None (slice_get function_names (n - 1)) some) ∙ e in
    let within : n - 1 < 12 = slice_get_within function_names (n - 1) w read in
    let pos : 0 < n = grind (arith, nat_tests) in
    (pos, omega arith))
    (cases_Bool (n == 0))

-- a place in the list of those keys
abbrev PlaceOf : Key → Type 0
PlaceOf key = (k : ℕ) × (k < 36) × (get_or word_keys k Any ≡ key)

function_place : (n : ℕ) → 0 < n → n ≤ 12 → PlaceOf (Function n)
function_place zero pos most = absurd (omega arith)
function_place (suc zero) pos most = (13, omega arith, refl)
function_place (suc (suc zero)) pos most = (14, omega arith, refl)
function_place (suc (suc (suc zero))) pos most = (15, omega arith, refl)
function_place (suc (suc (suc (suc zero)))) pos most = (16, omega arith, refl)
function_place (suc (suc (suc (suc (suc zero))))) pos most = (17, omega arith, refl)
function_place (suc (suc (suc (suc (suc (suc zero)))))) pos most = (18, omega arith, refl)
function_place (suc (suc (suc (suc (suc (suc (suc zero))))))) pos most = (19, omega arith, refl)
function_place (suc (suc (suc (suc (suc (suc (suc (suc zero)))))))) pos most = (20, omega arith, refl)
function_place (suc (suc (suc (suc (suc (suc (suc (suc (suc zero))))))))) pos most = (21, omega arith, refl)
function_place (suc (suc (suc (suc (suc (suc (suc (suc (suc (suc zero)))))))))) pos most = (22, omega arith, refl)
function_place (suc (suc (suc (suc (suc (suc (suc (suc (suc (suc (suc zero))))))))))) pos most = (23, omega arith, refl)
function_place (suc (suc (suc (suc (suc (suc (suc (suc (suc (suc (suc (suc zero)))))))))))) pos most = (24, omega arith, refl)
function_place (suc (suc (suc (suc (suc (suc (suc (suc (suc (suc (suc (suc (suc n))))))))))))) pos most = absurd (omega arith)

space_place : (c : ℕ) (w : List ℕ) → word_of (Char c) ≡ Some w → PlaceOf (Char c)
space_place c w e = ⊎_elim
    (λ (yes : c == 32 ≡ true). (0, omega arith, ap Char (sym (eqb-true c 32 yes))))
    (λ (other : c == 32 ≡ false). absurd (let none = cond-false (c == 32) (Some (codes "space")) None other in cc))
    (cases_Bool (c == 32))

-- each key with a word is in the list
pub place_of : (key : Key) (w : List ℕ) → word_of key ≡ Some w → PlaceOf key
place_of (Char c) w e = space_place c w e
place_of (Control c) w e = absurd (cc)
place_of Escape w e = (1, omega arith, refl)
place_of Up w e = (2, omega arith, refl)
place_of Down w e = (3, omega arith, refl)
place_of Left w e = (4, omega arith, refl)
place_of Right w e = (5, omega arith, refl)
place_of Home w e = (6, omega arith, refl)
place_of End w e = (7, omega arith, refl)
place_of Insert w e = (8, omega arith, refl)
place_of Delete w e = (9, omega arith, refl)
place_of PageUp w e = (10, omega arith, refl)
place_of PageDown w e = (11, omega arith, refl)
place_of BackTab w e = (12, omega arith, refl)
place_of (Function n) w e = let b = function_bounds n w e in function_place n b.0 b.1
place_of ShiftUp w e = (25, omega arith, refl)
place_of ShiftDown w e = (26, omega arith, refl)
place_of ShiftLeft w e = (27, omega arith, refl)
place_of ShiftRight w e = (28, omega arith, refl)
place_of ControlUp w e = (29, omega arith, refl)
place_of ControlDown w e = (30, omega arith, refl)
place_of ControlLeft w e = (31, omega arith, refl)
place_of ControlRight w e = (32, omega arith, refl)
place_of Paste w e = (33, omega arith, refl)
place_of Ignored w e = (34, omega arith, refl)
place_of Any w e = (35, omega arith, refl)

each_at : {A : Type 0} (P : A → Type 0) (xs : List A) (k : ℕ) (d : A) → AllByRecursion P xs → k < length xs → P (get_or xs k d)
each_at P [] k d all lt = absurd (omega arith)
each_at P (x ∷ xs) zero d all lt = all.0
each_at P (x ∷ xs) (suc k) d all lt = each_at P xs k d all.1 (omega arith)

-- what holds of each listed key with its word holds of any key with its word
of_word : (P : Key → List ℕ → Type 0) → AllByRecursion (λ key. IfSome (word_of key) (P key)) word_keys → (key : Key) (w : List ℕ) → word_of key ≡ Some w → P key w
of_word P all key w e =
    let place = place_of key w e in
    let Q : Key → Type 0 = λ k. IfSome (word_of k) (P k) in
    let here : Q key = subst Q place.2 (each_at Q word_keys place.0 Any all place.1) in
    subst (λ (o : Option (List ℕ)). IfSome o (P key)) e here

-- the key that a name is that of, if it is one
abbrev key_of_word : List ℕ → Option Key
key_of_word cs = find (λ key. option_map_or (bytes_eq cs) (word_of key) false) word_keys

abbrev key_of : List ℕ → Option Key
key_of [] = None
key_of (c ∷ []) = Some (Char c)
key_of (a ∷ b ∷ []) = key_of_word (a ∷ b ∷ [])
key_of (a ∷ b ∷ c ∷ []) = cond (b == 45) (Some (Control c)) (key_of_word (a ∷ b ∷ c ∷ []))
key_of (a ∷ b ∷ c ∷ d ∷ cs) = key_of_word (a ∷ b ∷ c ∷ d ∷ cs)

key_of-word : (key : Key) (w : List ℕ) → word_of key ≡ Some w → key_of w ≡ Some key
key_of-word = of_word (λ key w. key_of w ≡ Some key)
    (refl, (refl, (refl, (refl, (refl, (refl, (refl, (refl, (refl, (refl, (refl, (refl, (refl, (refl, (refl, (refl, (refl, (refl, (refl, (refl, (refl, (refl, (refl, (refl, (refl, (refl, (refl, (refl, (refl, (refl, (refl, (refl, (refl, (refl, (refl, (refl, tt))))))))))))))))))))))))))))))))))))

IsAscii-from_all : (w : List ℕ) → list_all (λ b. nat_lt b 128) w ≡ true → IsAscii w
IsAscii-from_all [] all i = omega arith
IsAscii-from_all (b ∷ w) all zero = let h : nat_lt b 128 ≡ true = (and_parts (nat_lt b 128) (list_all (λ b. nat_lt b 128) w) all).0 in grind (arith, nat_tests)
IsAscii-from_all (b ∷ w) all (suc i) = IsAscii-from_all w (and_parts (nat_lt b 128) (list_all (λ b. nat_lt b 128) w) all).1 i

pub IsAscii-word : (key : Key) (w : List ℕ) → word_of key ≡ Some w → IsAscii w
IsAscii-word key w e = IsAscii-from_all w (of_word (λ _ v. list_all (λ b. nat_lt b 128) v ≡ true)
    (refl, (refl, (refl, (refl, (refl, (refl, (refl, (refl, (refl, (refl, (refl, (refl, (refl, (refl, (refl, (refl, (refl, (refl, (refl, (refl, (refl, (refl, (refl, (refl, (refl, (refl, (refl, (refl, (refl, (refl, (refl, (refl, (refl, (refl, (refl, (refl, tt)))))))))))))))))))))))))))))))))))) key w e)

-- bytes that read as ASCII characters are those characters
pub bytes-from_chars : (bs w : List ℕ) → IsUtf8 bs → chars bs ≡ w → IsAscii w → bs ≡ w
bytes-from_chars bs w text e ascii = sym (encodes-chars bs text) ∙ ap (λ t. encodes t) e ∙ encodes-IsAscii w ascii

-- a control key's name is three ASCII characters
pub control_name-is : (c : ℕ) (w : List ℕ) → control_name c ≡ Some w → (is_control_letter c ≡ true) × (w ≡ 99 ∷ 45 ∷ c ∷ [])
control_name-is c w e = ⊎_elim
    (λ (yes : is_control_letter c ≡ true). (yes, let h = cond-true (is_control_letter c) (Some (codes "c-" ++ c ∷ [])) None yes in cc))
    (λ (no : is_control_letter c ≡ false). absurd (let h = cond-false (is_control_letter c) (Some (codes "c-" ++ c ∷ [])) None no in cc))
    (cases_Bool (is_control_letter c))

below_128 : (c : ℕ) → is_control_letter c ≡ true → c < 128
below_128 c typed = grind (arith, nat_tests)

IsAscii-three : (c : ℕ) → c < 128 → IsAscii (99 ∷ 45 ∷ c ∷ [])
IsAscii-three c small zero = omega arith
IsAscii-three c small (suc zero) = omega arith
IsAscii-three c small (suc (suc zero)) = small
IsAscii-three c small (suc (suc (suc i))) = omega arith

pub IsAscii-control : (c : ℕ) (w : List ℕ) → control_name c ≡ Some w → IsAscii w
IsAscii-control c w e =
    let h = control_name-is c w e in subst IsAscii (sym h.1) (IsAscii-three c (below_128 c h.0))

-- a character's name is the word for the space, or the character
pub char_name-is : (c : ℕ) (w : List ℕ) → char_name c ≡ Some w → (word_of (Char c) ≡ Some w) ⊎ ((w ≡ c ∷ []) × (is_plain c ≡ true) × (c == 32 ≡ false))
char_name-is c w e = ⊎_elim
    (λ (space : c == 32 ≡ true).
    inl (cond-true (c == 32) (Some (codes "space")) None space ∙ sym (cond-true (c == 32) (Some (codes "space")) (cond (is_plain c) (Some (c ∷ [])) None) space) ∙ e))
    (λ (other : c == 32 ≡ false). ⊎_elim
    (λ (yes : is_plain c ≡ true). inr (
      let h = cond-false (c == 32) (Some (codes "space")) (cond (is_plain c) (Some (c ∷ [])) None) other in
          let k = cond-true (is_plain c) (Some (c ∷ [])) None yes in cc,
      yes,
      other,
    ))
    (λ (no : is_plain c ≡ false). absurd (
    let h = cond-false (c == 32) (Some (codes "space")) (cond (is_plain c) (Some (c ∷ [])) None) other in
    let k = cond-false (is_plain c) (Some (c ∷ [])) None no in cc))
    (cases_Bool (is_plain c)))
    (cases_Bool (c == 32))

key_of-char : (c : ℕ) (w : List ℕ) → name_of (Char c) ≡ Some w → key_of w ≡ Some (Char c)
key_of-char c w e = ⊎_elim
    (λ (word : word_of (Char c) ≡ Some w). key_of-word (Char c) w word)
    (λ (plain : (w ≡ c ∷ []) × (is_plain c ≡ true) × (c == 32 ≡ false)). ap (λ v. key_of v) plain.0)
    (char_name-is c w e)

key_of-control : (c : ℕ) (w : List ℕ) → name_of (Control c) ≡ Some w → key_of w ≡ Some (Control c)
key_of-control c w e = ap (λ v. key_of v) (control_name-is c w e).1

-- the name of any other key is a word
pub by_kind : (Q : Key → Type 0) (w : List ℕ) → ((c : ℕ) → name_of (Char c) ≡ Some w → Q (Char c)) → ((c : ℕ) → name_of (Control c) ≡ Some w → Q (Control c))
    → ((key : Key) → word_of key ≡ Some w → Q key) → (key : Key) → name_of key ≡ Some w → Q key
by_kind Q w char control word (Char c) e = char c e
by_kind Q w char control word (Control c) e = control c e
by_kind Q w char control word key e = word key e

pub key_of-name : (key : Key) (w : List ℕ) → name_of key ≡ Some w → key_of w ≡ Some key
key_of-name key w e = by_kind (λ k. key_of w ≡ Some k) w (λ c h. key_of-char c w h) (λ c h. key_of-control c w h) (λ k h. key_of-word k w h) key e

-- no name is that of two keys
pub name_of-injective : (a b : Key) (w : List ℕ) → name_of a ≡ Some w → name_of b ≡ Some w → a ≡ b
name_of-injective a b w p q =
    let x = key_of-name a w p in
    let y = key_of-name b w q in
    cc

-- a character and nothing behind it
pub chars-lone : (bs rest : List ℕ) (c : ℕ) → IsUtf8 bs → bs ≡ encode c ++ rest → length rest ≡ 0 → chars bs ≡ c ∷ []
chars-lone bs [] c text e none = chars_past_char bs [] c text e ∙ ap (λ t. c ∷ t) chars-nil
chars-lone bs (r ∷ rest) c text e none = absurd (omega arith)

-- two characters are not one
pub not_lone : (bs rest after : List ℕ) (c d : ℕ) → IsUtf8 bs → bs ≡ encode c ++ rest → rest ≡ encode d ++ after → (x : ℕ) → chars bs ≡ x ∷ [] → ⊥
not_lone bs rest after c d text first second x one =
    let a = chars_past_char bs rest c text first in
    let b = chars_past_char rest after d (IsUtf8-past_char bs rest c text first) second in
    cc

-- no key has the name: not a character, not a control key and no word
pub unnamed : (bs : List ℕ) → IsUtf8 bs → ((c : ℕ) → chars bs ≡ c ∷ [] → ⊥) → ((c : ℕ) → control_name c ≡ Some bs → ⊥) → ((key : Key) → word_of key ≡ Some bs → ⊥)
    → (key : Key) → name_of key ≡ Some (chars bs) → ⊥
unnamed bs text no_char no_control no_word key e =
    let of_word_is = λ (k : Key) (h : word_of k ≡ Some (chars bs)). no_word k (h ∙ ap (λ t. Some t) (sym (bytes-from_chars bs (chars bs) text refl (IsAscii-word k (chars bs) h)))) in
    by_kind (λ _. ⊥) (chars bs)
    (λ c h. ⊎_elim
    (λ (word : word_of (Char c) ≡ Some (chars bs)). of_word_is (Char c) word)
    (λ (plain : (chars bs ≡ c ∷ []) × (is_plain c ≡ true) × (c == 32 ≡ false)). no_char c plain.0)
    (char_name-is c (chars bs) h))
    (λ c h. no_control c (h ∙ ap (λ t. Some t) (sym (bytes-from_chars bs (chars bs) text refl (IsAscii-control c (chars bs) h)))))
    of_word_is key e

-- the space is named by its word
name_of-char_word : (c : ℕ) (w : List ℕ) → word_of (Char c) ≡ Some w → name_of (Char c) ≡ Some w
name_of-char_word c w e = ⊎_elim
    (λ (space : c == 32 ≡ true). let a = cond-true (c == 32) (Some (codes "space")) None space in let b = cond-true (c == 32) (Some (codes "space")) (cond (is_plain c) (Some (c ∷ [])) None) space in cc)
    (λ (other : c == 32 ≡ false). absurd (let a = cond-false (c == 32) (Some (codes "space")) None other in cc))
    (cases_Bool (c == 32))

-- the name of bytes that are a control key's, and of bytes that are a word
pub name_from_control : (bs : List ℕ) (c : ℕ) → control_name c ≡ Some bs → control_name c ≡ Some (chars bs)
name_from_control bs c e = e ∙ ap (λ t. Some t) (sym (chars-IsAscii bs (IsAscii-control c bs e)))

pub name_from_word : (bs : List ℕ) (key : Key) → word_of key ≡ Some bs → name_of key ≡ Some (chars bs)
name_from_word bs (Char c) e =
    let named = name_of-char_word c bs e in named ∙ ap (λ t. Some t) (sym (chars-IsAscii bs (IsAscii-word (Char c) bs e)))
name_from_word bs (Control c) e = absurd cc
name_from_word bs key e = e ∙ ap (λ t. Some t) (sym (chars-IsAscii bs (IsAscii-word key bs e)))

pub IfNone-weaker : {A : Type 0} (o : Option A) {P Q : Type 0} → (P → Q) → IfNone o P → IfNone o Q
IfNone-weaker None change held = change held
IfNone-weaker (Some x) change held = tt
