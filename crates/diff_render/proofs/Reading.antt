-- What the pieces of a frame read as, whatever comes behind them, and that they hold no question.
use Rattle.std.proofs.Common.{◌≡◌, ℕ, ◌+◌, ◌-◌, ◌*◌, ◌/◌, ◌%◌, ◌^◌, ◌<◌, ◌≤◌, Bool, true, false, not, List, [], ◌∷◌}
use Rattle.std.proofs.Common.{◌++◌, nat_eq, nat_lt, max, refl, sym, ap, ◌∙◌, arith}
use Rattle.std.proofs.Common.{append_assoc, append-nil, if◌then◌else◌}
use Rattle.term_model.specs.Obeying.{chars_of}
use Rattle.std.specs.List.{list_all}
use Rattle.std.specs.Fmt.{decimal}
use Rattle.std.proofs.lemmas.Bool.{and_parts, and_from, and_right, false≢true}
use Rattle.std.proofs.lemmas.Bool.Decides.{nat_tests}
use Rattle.std.proofs.lemmas.List.Folds.{list_all-append}
use Rattle.std.proofs.lemmas.Fmt.{decimal_by_steps}
use Rattle.term_model.proofs.CharLemmas.{chars_of-ascii}
use Rattle.term_model.specs.Parameters.{is_digit, is_numeric, capped, numbers_from, numbers}
use Rattle.characters.specs.ControlCharacters.{is_parameter, is_intermediate, is_final}
use Rattle.term_model.specs.Controls.{Control, between, parameters, controls_from, function_of, stepped, only}
use Rattle.term_model.specs.Controls.{rendition, SGR}
use Rattle.diff_render.specs.Canvas.{reads, Spells, starts, one_more, asked, IsQuiet}
use Rattle.diff_render.specs.Spelling.{listed, listed_by, still_first}

-- ---- lists of tests

pub weaker : (p q : ℕ → Bool) → ((c : ℕ) → p c ≡ true → q c ≡ true) → (cs : List ℕ) → list_all p cs ≡ true → list_all q cs ≡ true
weaker p q step [] h = refl
weaker p q step (c ∷ cs) h =
    let parts = and_parts (p c) (list_all p cs) h in and_from (q c) (list_all q cs) (step c parts.0) (weaker p q step cs parts.1)

pub all_append : (p : ℕ → Bool) (xs ys : List ℕ) → list_all p xs ≡ true → list_all p ys ≡ true → list_all p (xs ++ ys) ≡ true
all_append p xs ys h k = list_all-append p xs ys ∙ and_from (list_all p xs) (list_all p ys) h k

-- ---- bytes as characters

abbrev pub is_low : ℕ → Bool
is_low c = nat_lt c 128

low-less : (c : ℕ) → is_low c ≡ true → c < 128
low-less c h = grind (arith, nat_tests)

pub chars_of-all_low : (chars rest : List ℕ) → list_all is_low chars ≡ true → chars_of (chars ++ rest) ≡ chars ++ chars_of rest
chars_of-all_low [] rest h = refl
chars_of-all_low (c ∷ cs) rest h =
    let parts = and_parts (is_low c) (list_all is_low cs) h in
    chars_of-ascii c (cs ++ rest) (low-less c parts.0) ∙ ap (λ x. c ∷ x) (chars_of-all_low cs rest parts.1)

-- ---- readings one after another

pub spells_none : Spells [] []
spells_none rest = refl

pub spells_then : (a b : List ℕ) (cs ds : List Control) → Spells a cs → Spells b ds → Spells (a ++ b) (cs ++ ds)
spells_then a b cs ds p q rest =
    ap reads (append_assoc a b rest) ∙ p (b ++ rest) ∙ ap (λ x. cs ++ x) (q rest) ∙ sym (append_assoc cs ds (reads rest))

-- characters below 128 read as they do
pub spells_low : (chars : List ℕ) (controls : List Control) → list_all is_low chars ≡ true
    → ((rest : List ℕ) → controls_from between (chars ++ rest) ≡ controls ++ controls_from between rest) → Spells chars controls
spells_low chars controls low step rest = ap (controls_from between) (chars_of-all_low chars rest low) ∙ step (chars_of rest)

-- ---- control sequences

params_read : (acc ps xs : List ℕ) → list_all is_parameter ps ≡ true → controls_from (parameters acc) (ps ++ xs) ≡ controls_from (parameters (acc ++ ps)) xs
params_read acc [] xs h = ap (λ a. controls_from (parameters a) xs) (sym (append-nil acc))
params_read acc (p ∷ ps) xs h =
    let parts = and_parts (is_parameter p) (list_all is_parameter ps) h in
    rw parts.0 (params_read (acc ++ p ∷ []) ps xs parts.1 ∙ ap (λ a. controls_from (parameters a) xs) (append_assoc acc (p ∷ []) ps))

-- CSI, parameters and a final character
pub sequence_reads : (ps : List ℕ) (final : ℕ) → list_all is_parameter ps ≡ true
    → is_parameter final ≡ false → is_intermediate final ≡ false → is_final final ≡ true
    → (rest : List ℕ) → controls_from between (27 ∷ 91 ∷ (ps ++ final ∷ rest)) ≡ function_of ps final ∷ controls_from between rest
sequence_reads ps final h a b c rest = params_read [] ps (final ∷ rest) h ∙ rw (a, b, c) refl

low_parameter : (c : ℕ) → is_parameter c ≡ true → is_low c ≡ true
low_parameter c h = grind (arith, nat_tests)

pub spells_sequence : (ps : List ℕ) (final : ℕ) → list_all is_parameter ps ≡ true
    → is_parameter final ≡ false → is_intermediate final ≡ false → is_final final ≡ true → is_low final ≡ true
    → Spells (27 ∷ 91 ∷ ps ++ final ∷ []) (function_of ps final ∷ [])
spells_sequence ps final h a b c low =
    spells_low (27 ∷ 91 ∷ ps ++ final ∷ []) (function_of ps final ∷ [])
    (all_append is_low ps (final ∷ []) (weaker is_parameter is_low low_parameter ps h) (and_from (is_low final) true low refl))
    (λ rest. ap (λ x. controls_from between (27 ∷ 91 ∷ x)) (append_assoc ps (final ∷ []) rest) ∙ sequence_reads ps final h a b c rest)

-- ---- numbers

numeric_digit : (c : ℕ) → is_digit c ≡ true → is_numeric c ≡ true
numeric_digit c h = rw h refl

pub parameter_numeric : (c : ℕ) → is_numeric c ≡ true → is_parameter c ≡ true
parameter_numeric c h = grind (arith, nat_tests)

digit_of : (n : ℕ) → n < 10 → is_digit (48 + n) ≡ true
digit_of n h = grind (arith, nat_tests)

digits_of_decimal : (n : ℕ) → n < 2 ^ 64 → list_all is_digit (decimal n) ≡ true
digits_of_decimal n h = decimal_by_steps (λ n ds. list_all is_digit ds ≡ true) (λ n h. and_from (is_digit (48 + n)) true (digit_of n h) refl)
    (λ n ds h k. all_append is_digit ds ((48 + n % 10) ∷ []) k (and_from (is_digit (48 + n % 10)) true (digit_of (n % 10) (omega arith)) refl)) n h

pub decimal_numeric : (n : ℕ) → n < 2 ^ 64 → list_all is_numeric (decimal n) ≡ true
decimal_numeric n h = weaker is_digit is_numeric numeric_digit (decimal n) (digits_of_decimal n h)

-- one digit more
numbers_digit : (value d : ℕ) (rest : List ℕ) → d < 10 → numbers_from value ((48 + d) ∷ rest) ≡ numbers_from (10 * value + d) rest
numbers_digit value d rest h =
    let other : nat_eq (48 + d) 59 ≡ false = grind (arith, nat_tests) in
    let same : 48 + d - 48 ≡ d = omega arith in
    rw (other, same) refl

pub numbers_decimal : (n : ℕ) → n < 2 ^ 64 → (rest : List ℕ) → numbers_from 0 (decimal n ++ rest) ≡ numbers_from n rest
numbers_decimal n h = decimal_by_steps (λ n ds. (rest : List ℕ) → numbers_from 0 (ds ++ rest) ≡ numbers_from n rest)
    (λ n h rest. numbers_digit 0 n rest h ∙ ap (λ m. numbers_from m rest) (omega arith))
    (λ n ds h k rest. ap (numbers_from 0) (append_assoc ds ((48 + n % 10) ∷ []) rest) ∙ k ((48 + n % 10) ∷ rest)
    ∙ numbers_digit (n / 10) (n % 10) rest (omega arith) ∙ ap (λ m. numbers_from m rest) (omega arith)) n h

-- numbers within what a parameter counts as
abbrev pub AllSmall : List ℕ → Type 0
AllSmall [] = Unit {0}
AllSmall (n ∷ ns) = (n ≤ 9999) × AllSmall ns

numbers_end : (n : ℕ) → n ≤ 9999 → numbers_from n [] ≡ n ∷ []
numbers_end n h = ap (λ m. m ∷ []) (omega arith)

pub numbers_listed : (value : ℕ) (ns : List ℕ) → value ≤ 9999 → AllSmall ns → numbers_from value (listed ns) ≡ value ∷ ns
numbers_listed value [] h k = numbers_end value h
numbers_listed value (n ∷ ns) h k =
    ap (λ m. m ∷ numbers_from 0 (decimal n ++ listed ns)) (let e : capped value ≡ value = omega arith in e)
    ∙ ap (λ x. value ∷ x) (numbers_decimal n (omega (arith, k.0)) (listed ns) ∙ numbers_listed n ns k.0 k.1)

pub listed_numeric : (ns : List ℕ) → AllSmall ns → list_all is_numeric (listed ns) ≡ true
listed_numeric [] h = refl
listed_numeric (n ∷ ns) h = all_append is_numeric (decimal n) (listed ns) (decimal_numeric n (omega (arith, h.0))) (listed_numeric ns h.1)

arrow_number : (n : ℕ) → 0 < n → n ≤ 9999 → max 1 n ≡ n
arrow_number n h k = omega arith

pub stepped_decimal : (control : ℕ → Control) (n : ℕ) → 0 < n → n ≤ 9999 → stepped control (only (numbers (decimal n))) ≡ control n
stepped_decimal control n h k =
    let whole : numbers_from 0 (decimal n) ≡ n ∷ [] = ap (numbers_from 0) (sym (append-nil (decimal n))) ∙ numbers_decimal n (omega arith) [] ∙ numbers_end n k in
    let is : numbers (decimal n) ≡ n ∷ [] = rw (decimal_numeric n (omega arith)) whole in
    ap (λ x. stepped control (only x)) is ∙ ap control (arrow_number n h k)

-- behind a number each has its separator
listed_behind : (ms : List ℕ) → listed_by false ms ≡ listed ms
listed_behind [] = refl
listed_behind (m ∷ ms) = refl

pub listed-append : (ms ns : List ℕ) → listed (ms ++ ns) ≡ listed ms ++ listed ns
listed-append [] ns = refl
listed-append (m ∷ ms) ns = ap (λ x. 59 ∷ decimal m ++ x) (listed-append ms ns) ∙ ap (λ x. 59 ∷ x) (sym (append_assoc (decimal m) (listed ms) (listed ns)))

-- a list of numbers that is appended behind another one
listed_more : (x : List ℕ) (first : Bool) (ns ms : List ℕ) → (x ++ listed_by first ns) ++ listed_by (still_first first ns) ms ≡ x ++ listed_by first (ns ++ ms)
listed_more x first [] ms = ap (λ y. y ++ listed_by first ms) (append-nil x)
listed_more x true (n ∷ ns) ms =
    ap (λ y. (x ++ (decimal n ++ listed ns)) ++ y) (listed_behind ms) ∙ append_assoc x (decimal n ++ listed ns) (listed ms)
    ∙ ap (λ y. x ++ y) (append_assoc (decimal n) (listed ns) (listed ms) ∙ ap (λ y. decimal n ++ y) (sym (listed-append ns ms)))
listed_more x false (n ∷ ns) ms =
    ap (λ y. (x ++ listed (n ∷ ns)) ++ y) (listed_behind ms) ∙ append_assoc x (listed (n ∷ ns)) (listed ms)
    ∙ ap (λ y. x ++ y) (sym (listed-append (n ∷ ns) ms))

still_more : (first : Bool) (ns ms : List ℕ) → still_first (still_first first ns) ms ≡ still_first first (ns ++ ms)
still_more first [] ms = refl
still_more first (n ∷ ns) [] = refl
still_more first (n ∷ ns) (m ∷ ms) = refl

-- bytes behind which some numbers were listed, and whether the next one is the first
abbrev pub Listed : List ℕ → Bool → List ℕ → List ℕ → Bool → Type 0
Listed old first ns bytes still = (bytes ≡ old ++ listed_by first ns) × (still ≡ still_first first ns)

pub listed_then : (old : List ℕ) (first : Bool) (ns : List ℕ) (bytes : List ℕ) (still : Bool) (ms new : List ℕ) (then_still : Bool) → Listed old first ns bytes still
    → new ≡ bytes ++ listed_by still ms → then_still ≡ still_first still ms → Listed old first (ns ++ ms) new then_still
listed_then old first ns bytes still ms new then_still h wrote next = (
  wrote ∙ ap (λ b. b ++ listed_by still ms) h.0 ∙ ap (λ b. old ++ listed_by first ns ++ listed_by b ms) h.1 ∙ listed_more old first ns ms,
  next ∙ ap (λ b. still_first b ms) h.1 ∙ still_more first ns ms,
)

-- the whole sequence
pub listed_whole : (old : List ℕ) (first : Bool) (ns start bytes new : List ℕ) (still : Bool) → start ≡ old ++ 27 ∷ 91 ∷ [] → Listed start first ns bytes still
    → new ≡ bytes ++ 109 ∷ [] → new ≡ old ++ (27 ∷ 91 ∷ listed_by first ns ++ 109 ∷ [])
listed_whole old first ns start bytes new still begin h wrote =
    wrote ∙ ap (λ b. b ++ 109 ∷ []) (h.0 ∙ ap (λ b. b ++ listed_by first ns) begin)
    ∙ append_assoc (old ++ 27 ∷ 91 ∷ []) (listed_by first ns) (109 ∷ []) ∙ append_assoc old (27 ∷ 91 ∷ []) (listed_by first ns ++ 109 ∷ [])

-- ---- what listed numbers read as

pub listed_by_numeric : (first : Bool) (ns : List ℕ) → AllSmall ns → list_all is_numeric (listed_by first ns) ≡ true
listed_by_numeric first [] h = refl
listed_by_numeric true (n ∷ ns) h =
    all_append is_numeric (decimal n) (listed ns) (decimal_numeric n (omega (arith, h.0))) (listed_numeric ns h.1)
listed_by_numeric false (n ∷ ns) h = listed_numeric (n ∷ ns) h

-- an empty number is the first
pub numbers_anew : (ns : List ℕ) → AllSmall ns → numbers (listed_by false ns) ≡ 0 ∷ ns
numbers_anew [] h = refl
numbers_anew (n ∷ ns) h =
    ap (λ b. if b then numbers_from 0 (listed (n ∷ ns)) else []) (listed_numeric (n ∷ ns) h) ∙ numbers_listed 0 (n ∷ ns) (omega arith) h

pub numbers_added : (ns : List ℕ) → AllSmall ns → (ns ≡ [] → ⊥) → numbers (listed_by true ns) ≡ ns
numbers_added [] h some = absurd (some refl)
numbers_added (n ∷ ns) h some =
    ap (λ b. if b then numbers_from 0 (decimal n ++ listed ns) else []) (listed_by_numeric true (n ∷ ns) h)
    ∙ numbers_decimal n (omega (arith, h.0)) (listed ns) ∙ numbers_listed n ns h.0 h.1

pub rendition_some : (ns : List ℕ) → (ns ≡ [] → ⊥) → rendition ns ≡ SGR ns
rendition_some [] some = absurd (some refl)
rendition_some (n ∷ ns) some = refl

-- ---- no question

quiet_byte : (byte : ℕ) (rest : List ℕ) → nat_eq 27 byte ≡ false → asked (byte ∷ rest) ≡ asked rest
quiet_byte byte rest h = rw h refl

pub quiet_none : IsQuiet []
quiet_none rest = refl

pub quiet_then : (a b : List ℕ) → IsQuiet a → IsQuiet b → IsQuiet (a ++ b)
quiet_then a b p q rest = ap asked (append_assoc a b rest) ∙ p (b ++ rest) ∙ q rest

-- a byte that is not ESC
abbrev pub is_other : ℕ → Bool
is_other byte = not (nat_eq 27 byte)

not_true : (b : Bool) → not b ≡ true → b ≡ false
not_true true h = absurd (false≢true h)
not_true false h = refl

pub quiet_others : (bytes : List ℕ) → list_all is_other bytes ≡ true → IsQuiet bytes
quiet_others [] h rest = refl
quiet_others (b ∷ bs) h rest =
    let parts = and_parts (is_other b) (list_all is_other bs) h in
    quiet_byte b (bs ++ rest) (not_true (nat_eq 27 b) parts.0) ∙ quiet_others bs parts.1 rest

other_parameter : (c : ℕ) → is_parameter c ≡ true → is_other c ≡ true
other_parameter c h = let e : nat_eq 27 c ≡ false = grind (arith, nat_tests) in rw e refl

not_n : (c : ℕ) → is_parameter c ≡ true → nat_eq 110 c ≡ false
not_n c h = grind (arith, nat_tests)

-- CSI with parameters and a final character other than `n` does not begin the question
not_begun : (ps rest : List ℕ) (final : ℕ) → list_all is_parameter ps ≡ true → nat_eq 54 final ≡ false → nat_eq 110 final ≡ false
    → starts (54 ∷ 110 ∷ []) (ps ++ final ∷ rest) ≡ false
not_begun [] rest final h a b = rw a refl
not_begun (p ∷ []) rest final h a b = rw b (and_right (nat_eq 54 p) false refl)
not_begun (p ∷ q ∷ qs) rest final h a b =
    let parts = and_parts (is_parameter p) (list_all is_parameter (q ∷ qs)) h in
    let more = and_parts (is_parameter q) (list_all is_parameter qs) parts.1 in
    let no : nat_eq 110 q ≡ false = not_n q more.0 in
    rw no (and_right (nat_eq 54 p) false refl)

pub quiet_sequence : (ps : List ℕ) (final : ℕ) → list_all is_parameter ps ≡ true → nat_eq 54 final ≡ false → nat_eq 110 final ≡ false → is_other final ≡ true
    → IsQuiet (27 ∷ 91 ∷ ps ++ final ∷ [])
quiet_sequence ps final h a b c rest =
    let same : (ps ++ final ∷ []) ++ rest ≡ ps ++ (final ∷ rest) = append_assoc ps (final ∷ []) rest in
    let others : list_all is_other (ps ++ final ∷ []) ≡ true =
    all_append is_other ps (final ∷ []) (weaker is_parameter is_other other_parameter ps h) (and_from (is_other final) true c refl) in
    let begun : starts (54 ∷ 110 ∷ []) ((ps ++ final ∷ []) ++ rest) ≡ false = ap (starts (54 ∷ 110 ∷ [])) same ∙ not_begun ps rest final h a b in
    ap (λ x. one_more x (asked ((ps ++ final ∷ []) ++ rest))) begun ∙ quiet_others (ps ++ final ∷ []) others rest
