-- What is decided at the front of a text stays decided, whatever follows.
use Rattle.std.proofs.Common.{◌≡◌, ℕ, ◌+◌, ◌<◌, ◌≤◌, Bool, true, false, cond, nat_lt, List, [], ◌∷◌, ◌++◌, length, drop, Option, Some, None, refl, sym, ap, subst, ◌∙◌, arith, ⊎_elim}
use Rattle.std.specs.Prelude.{◌==◌, ◌&&◌, ◌||◌, nat_le}
use Rattle.std.proofs.lemmas.Bool.{cases_Bool, cond-true, cond-false, and_parts, or_parts, or_from}
use Rattle.std.proofs.lemmas.Bool.Decides.{nat_tests}
use Rattle.characters.specs.ControlCharacters.{is_final}
use Rattle.key_names.specs.declared.key.Key.{Key}
use Rattle.vt_input.specs.declared.sequence.ControlSequence.{ControlSequence}
use Rattle.vt_input.specs.declared.sequence.ControlSequence.TheVariants.{Unended, Whole, Broken}
use Rattle.vt_input.specs.declared.row.SeqRow.{SeqRow}
use Rattle.vt_input.specs.Sequences.{is_prefix, is_proper_prefix, introducer, late_after, sequence_limit, sequence_on, sequence_from, control_sequence, is_begun, is_known, is_short, longer, longest_from}
use Rattle.vt_input.specs.Pressed.{is_open}

-- either both, or the first decides
and-same : (b p x y : Bool) → (b && p) ≡ false → (p ≡ false → x ≡ y) → (b && x) ≡ (b && y)
and-same true p x y e same = same e
and-same false p x y e same = refl

and-false : (b p q : Bool) → (b && p) ≡ false → (p ≡ false → q ≡ false) → (b && q) ≡ false
and-false true p q e stays = stays e
and-false false p q e stays = refl

and-true : (b : Bool) → (b && true) ≡ false → b ≡ false
and-true true e = e
and-true false e = refl

-- a list that is no proper front of the row stays none, and more text changes nothing
pub is_prefix-more : (row x more : List ℕ) → is_proper_prefix x row ≡ false → is_prefix row (x ++ more) ≡ is_prefix row x
is_prefix-more [] x more e = refl
is_prefix-more (r ∷ rs) [] more e = absurd (cc)
is_prefix-more (r ∷ rs) (c ∷ cs) more e =
    and-same (r == c) (is_proper_prefix cs rs) (is_prefix rs (cs ++ more)) (is_prefix rs cs) e (λ h. is_prefix-more rs cs more h)

pub is_proper_prefix-more : (row x more : List ℕ) → is_proper_prefix x row ≡ false → is_proper_prefix (x ++ more) row ≡ false
is_proper_prefix-more [] x more e = refl
is_proper_prefix-more (r ∷ rs) [] more e = absurd (cc)
is_proper_prefix-more (r ∷ rs) (c ∷ cs) more e =
    and-false (r == c) (is_proper_prefix cs rs) (is_proper_prefix (cs ++ more) rs) e (λ h. is_proper_prefix-more rs cs more h)

-- a front stays a front, and is no longer than the text
pub is_prefix-append : (row x more : List ℕ) → is_prefix row x ≡ true → is_prefix row (x ++ more) ≡ true
is_prefix-append [] x more e = refl
is_prefix-append (r ∷ rs) [] more e = absurd (cc)
is_prefix-append (r ∷ rs) (c ∷ cs) more e =
    let both : (r == c ≡ true) × (is_prefix rs cs ≡ true) = and_parts (r == c) (is_prefix rs cs) e in
    ap (λ b. b && is_prefix rs (cs ++ more)) both.0 ∙ is_prefix-append rs cs more both.1

pub length-is_prefix : (row x : List ℕ) → is_prefix row x ≡ true → length row ≤ length x
length-is_prefix [] x e = omega arith
length-is_prefix (r ∷ rs) [] e = absurd (cc)
length-is_prefix (r ∷ rs) (c ∷ cs) e =
    let both : (r == c ≡ true) × (is_prefix rs cs ≡ true) = and_parts (r == c) (is_prefix rs cs) e in
    omega (arith, length-is_prefix rs cs both.1)

pub length-is_proper_prefix : (row x : List ℕ) → is_proper_prefix x row ≡ true → length x < length row
length-is_proper_prefix [] x e = absurd (cc)
length-is_proper_prefix (r ∷ rs) [] e = omega arith
length-is_proper_prefix (r ∷ rs) (c ∷ cs) e =
    let both : (r == c ≡ true) × (is_proper_prefix cs rs ≡ true) = and_parts (r == c) (is_proper_prefix cs rs) e in
    omega (arith, length-is_proper_prefix rs cs both.1)

pub is_begun-more : (rows : List SeqRow) (x more : List ℕ) → is_begun rows x ≡ false → is_begun rows (x ++ more) ≡ false
is_begun-more [] x more e = refl
is_begun-more (row ∷ rows) x more e =
    let parts : (is_proper_prefix x row.text ≡ false) × (is_begun rows x ≡ false) = or_parts (is_proper_prefix x row.text) (is_begun rows x) e in
    or_from (is_proper_prefix (x ++ more) row.text) (is_begun rows (x ++ more)) (is_proper_prefix-more row.text x more parts.0) (is_begun-more rows x more parts.1)

pub is_known-more : (rows : List SeqRow) (n : ℕ) (x more : List ℕ) → is_begun rows x ≡ false → is_known rows n (x ++ more) ≡ is_known rows n x
is_known-more [] n x more e = refl
is_known-more (row ∷ rows) n x more e =
    let parts : (is_proper_prefix x row.text ≡ false) × (is_begun rows x ≡ false) = or_parts (is_proper_prefix x row.text) (is_begun rows x) e in
    ap (λ (b : Bool). (b && length row.text == n) || is_known rows n (x ++ more)) (is_prefix-more row.text x more parts.0)
    ∙ ap (λ (b : Bool). (is_prefix row.text x && length row.text == n) || b) (is_known-more rows n x more parts.1)

-- no row of the table is longer than a control sequence may be, so neither is a text that begins one
pub length-is_begun : (rows : List SeqRow) (x : List ℕ) → is_short rows ≡ true → is_begun rows x ≡ true → length x ≤ 63
length-is_begun [] x short e = absurd (cc)
length-is_begun (row ∷ rows) x short e =
    let all : (nat_le (length row.text) sequence_limit ≡ true) × (is_short rows ≡ true) = and_parts (nat_le (length row.text) sequence_limit) (is_short rows) short in
    ⊎_elim
    (λ (here : is_proper_prefix x row.text ≡ true).
    let below = length-is_proper_prefix row.text x here in
    let limit : length row.text ≤ 64 = grind (arith, nat_tests) in
    omega arith)
    (λ (other : is_proper_prefix x row.text ≡ false). length-is_begun rows x all.1 (sym (ap (λ b. b || is_begun rows x) other) ∙ e))
    (cases_Bool (is_proper_prefix x row.text))

longer-more : (row : SeqRow) (best : Key × ℕ) (x more : List ℕ) → is_proper_prefix x row.text ≡ false → longer row best (x ++ more) ≡ longer row best x
longer-more row best x more e =
    ap (λ (b : Bool). cond (b && nat_le best.1 (length row.text)) (row.key, length row.text) best) (is_prefix-more row.text x more e)

pub longest_from-more : (rows : List SeqRow) (best : Key × ℕ) (x more : List ℕ) → is_begun rows x ≡ false → longest_from rows best (x ++ more) ≡ longest_from rows best x
longest_from-more [] best x more e = refl
longest_from-more (row ∷ rows) best x more e =
    let parts : (is_proper_prefix x row.text ≡ false) × (is_begun rows x ≡ false) = or_parts (is_proper_prefix x row.text) (is_begun rows x) e in
    ap (λ (b : Key × ℕ). longest_from rows b (x ++ more)) (longer-more row best x more parts.0) ∙ longest_from-more rows (longer row best x) x more parts.1

-- the number of characters of a key, at least that of the best so far
abbrev pub Takes : ℕ → Key × ℕ → List ℕ → Type 0
Takes least taken x = (least ≤ taken.1) × (taken.1 ≤ length x)

Takes-longer : (row : SeqRow) (best : Key × ℕ) (x : List ℕ) (least : ℕ) → Takes least best x → Takes least (longer row best x) x
Takes-longer row best x least h = ⊎_elim
    (λ (better : (is_prefix row.text x && nat_le best.1 (length row.text)) ≡ true).
    let both : (is_prefix row.text x ≡ true) × (nat_le best.1 (length row.text) ≡ true) = and_parts (is_prefix row.text x) (nat_le best.1 (length row.text)) better in
    let within = length-is_prefix row.text x both.0 in
    let above : best.1 ≤ length row.text = grind (arith, nat_tests) in
    let new : Key × ℕ = (row.key, length row.text) in
    let held : Takes least new x = (omega arith, omega arith) in
    subst (λ (t : Key × ℕ). Takes least t x) (sym (cond-true (is_prefix row.text x && nat_le best.1 (length row.text)) new best better)) held)
    (λ (other : (is_prefix row.text x && nat_le best.1 (length row.text)) ≡ false).
    subst (λ (t : Key × ℕ). Takes least t x) (sym (cond-false (is_prefix row.text x && nat_le best.1 (length row.text)) (row.key, length row.text) best other)) h)
    (cases_Bool (is_prefix row.text x && nat_le best.1 (length row.text)))

pub Takes-longest_from : (rows : List SeqRow) (best : Key × ℕ) (x : List ℕ) (least : ℕ) → Takes least best x → Takes least (longest_from rows best x) x
Takes-longest_from [] best x least h = h
Takes-longest_from (row ∷ rows) best x least h = Takes-longest_from rows (longer row best x) x least (Takes-longer row best x least h)

-- at the limit nothing is a control sequence any more
pub sequence_from-limit : (x : List ℕ) (n : ℕ) (late : Bool) → sequence_limit ≤ n → sequence_from x n late ≡ Broken
sequence_from-limit [] n late e = cond-false (nat_lt n sequence_limit) Unended Broken (grind (arith, nat_tests))
sequence_from-limit (c ∷ cs) n late e =
    cond-false (nat_lt n sequence_limit) (cond (is_final c) (Whole (n + 1)) (sequence_on (late_after c late) (λ l. sequence_from cs (n + 1) l))) Broken (grind (arith, nat_tests))

-- one step of a sequence, with its tests as variables
abbrev stepped : Bool → Bool → Option Bool → ℕ → (Bool → ControlSequence) → ControlSequence
stepped short final late n more = cond short (cond final (Whole n) (sequence_on late more)) Broken

stepped-same : (short final : Bool) (late : Option Bool) (n : ℕ) (f g : Bool → ControlSequence) → is_open (stepped short final late n f) ≡ false
    → ((l : Bool) → is_open (f l) ≡ false → g l ≡ f l) → stepped short final late n g ≡ stepped short final late n f
stepped-same false final late n f g e same = refl
stepped-same true true late n f g e same = refl
stepped-same true false None n f g e same = refl
stepped-same true false (Some l) n f g e same = same l e

ended : (n : ℕ) (more : List ℕ) (late short : Bool) → nat_lt n sequence_limit ≡ short → is_open (cond short Unended Broken) ≡ false → sequence_from more n late ≡ cond short Unended Broken
ended n more late true is e = absurd (cc)
ended n more late false is e = sequence_from-limit more n late (grind (arith, nat_tests))

pub sequence_from-more : (x more : List ℕ) (n : ℕ) (late : Bool) → is_open (sequence_from x n late) ≡ false → sequence_from (x ++ more) n late ≡ sequence_from x n late
sequence_from-more [] more n late e = ended n more late (nat_lt n sequence_limit) refl e
sequence_from-more (c ∷ cs) more n late e =
    stepped-same (nat_lt n sequence_limit) (is_final c) (late_after c late) (n + 1) (λ l. sequence_from cs (n + 1) l) (λ l. sequence_from (cs ++ more) (n + 1) l) e
    (λ l h. sequence_from-more cs more (n + 1) l h)

introduced-same : (b : Bool) (x more : List ℕ) → is_open (cond b (sequence_from x 2 false) Broken) ≡ false
    → cond b (sequence_from (x ++ more) 2 false) Broken ≡ cond b (sequence_from x 2 false) Broken
introduced-same true x more e = sequence_from-more x more 2 false e
introduced-same false x more e = refl

pub control_sequence-more : (x more : List ℕ) → is_proper_prefix x introducer ≡ false → is_open (control_sequence x) ≡ false → control_sequence (x ++ more) ≡ control_sequence x
control_sequence-more [] more p e = absurd (cc)
control_sequence-more (a ∷ []) more p e =
    let other : 27 == a ≡ false = and-true (27 == a) p in
    let first : is_prefix introducer (a ∷ more) ≡ false = ap (λ b. b && is_prefix (91 ∷ []) more) other in
    let before : is_prefix introducer (a ∷ []) ≡ false = ap (λ b. b && false) other in
    cond-false (is_prefix introducer (a ∷ more)) (sequence_from (drop 2 (a ∷ more)) 2 false) Broken first
    ∙ sym (cond-false (is_prefix introducer (a ∷ [])) (sequence_from (drop 2 (a ∷ [])) 2 false) Broken before)
control_sequence-more (a ∷ b ∷ cs) more p e = introduced-same (is_prefix introducer (a ∷ b ∷ cs)) cs more e

-- a whole sequence is a front of the text
abbrev pub IfWhole : ControlSequence → (ℕ → Type 0) → Type 0
IfWhole Unended P = Unit {0}
IfWhole (Whole n) P = P n
IfWhole Broken P = Unit {0}

stepped-whole : (short final : Bool) (late : Option Bool) (n top : ℕ) (f : Bool → ControlSequence) → n ≤ top → 1 ≤ n
    → ((l : Bool) → IfWhole (f l) (λ m. (1 ≤ m) × (m ≤ top))) → IfWhole (stepped short final late n f) (λ m. (1 ≤ m) × (m ≤ top))
stepped-whole false final late n top f le some rest = tt
stepped-whole true true late n top f le some rest = (some, le)
stepped-whole true false None n top f le some rest = tt
stepped-whole true false (Some l) n top f le some rest = rest l

whole-none : (b : Bool) (P : ℕ → Type 0) → IfWhole (cond b Unended Broken) P
whole-none true P = tt
whole-none false P = tt

whole-from : (x : List ℕ) (n top : ℕ) (late : Bool) → n + length x ≤ top → IfWhole (sequence_from x n late) (λ m. (1 ≤ m) × (m ≤ top))
whole-from [] n top late le = whole-none (nat_lt n sequence_limit) (λ m. (1 ≤ m) × (m ≤ top))
whole-from (c ∷ cs) n top late le =
    stepped-whole (nat_lt n sequence_limit) (is_final c) (late_after c late) (n + 1) top (λ l. sequence_from cs (n + 1) l) (omega arith) (omega arith)
    (λ l. whole-from cs (n + 1) top l (omega arith))

whole_by : (b : Bool) (x : List ℕ) (top : ℕ) → (b ≡ true → 2 + length x ≤ top) → IfWhole (cond b (sequence_from x 2 false) Broken) (λ m. (1 ≤ m) × (m ≤ top))
whole_by true x top le = whole-from x 2 top false (le refl)
whole_by false x top le = tt

pub whole-within : (x : List ℕ) → IfWhole (control_sequence x) (λ m. (1 ≤ m) × (m ≤ length x))
whole-within [] = tt
whole-within (a ∷ []) = whole_by (is_prefix introducer (a ∷ [])) (drop 2 (a ∷ [])) 1 (λ e. absurd (let long = length-is_prefix introducer (a ∷ []) e in omega arith))
whole-within (a ∷ b ∷ cs) = whole_by (is_prefix introducer (a ∷ b ∷ cs)) cs (length (a ∷ b ∷ cs)) (λ e. omega arith)

-- an open control sequence is shorter than the limit
open-stepped : (short final : Bool) (late : Option Bool) (n : ℕ) (f : Bool → ControlSequence) (P : Type 0) → is_open (stepped short final late n f) ≡ true
    → ((l : Bool) → is_open (f l) ≡ true → P) → P
open-stepped false final late n f P e rest = absurd (cc)
open-stepped true true late n f P e rest = absurd (cc)
open-stepped true false None n f P e rest = absurd (cc)
open-stepped true false (Some l) n f P e rest = rest l e

open-ended : (n : ℕ) (short : Bool) → nat_lt n sequence_limit ≡ short → is_open (cond short Unended Broken) ≡ true → n + 0 ≤ 63
open-ended n true is e = grind (arith, nat_tests)
open-ended n false is e = absurd (cc)

open-from : (x : List ℕ) (n : ℕ) (late : Bool) → is_open (sequence_from x n late) ≡ true → n + length x ≤ 63
open-from [] n late e = open-ended n (nat_lt n sequence_limit) refl e
open-from (c ∷ cs) n late e =
    open-stepped (nat_lt n sequence_limit) (is_final c) (late_after c late) (n + 1) (λ l. sequence_from cs (n + 1) l) (n + length (c ∷ cs) ≤ 63) e
    (λ l h. let below = open-from cs (n + 1) l h in omega arith)

open_by : (b : Bool) (x : List ℕ) → is_open (cond b (sequence_from x 2 false) Broken) ≡ true → 2 + length x ≤ 63
open_by true x e = open-from x 2 false e
open_by false x e = absurd (cc)

pub length-is_open : (x : List ℕ) → is_open (control_sequence x) ≡ true → length x ≤ 63
length-is_open [] e = omega arith
length-is_open (a ∷ []) e = omega arith
length-is_open (a ∷ b ∷ cs) e = let below = open_by (is_prefix introducer (a ∷ b ∷ cs)) cs e in omega arith

-- lengths decide
pub prefix-long : (row x : List ℕ) → length x < length row → is_prefix row x ≡ false
prefix-long row x lt = ⊎_elim
    (λ (front : is_prefix row x ≡ true). absurd (let le = length-is_prefix row x front in omega arith))
    (λ (other : is_prefix row x ≡ false). other)
    (cases_Bool (is_prefix row x))

pub proper_prefix-long : (row x : List ℕ) → length row ≤ length x → is_proper_prefix x row ≡ false
proper_prefix-long row x le = ⊎_elim
    (λ (front : is_proper_prefix x row ≡ true). absurd (let below = length-is_proper_prefix row x front in omega arith))
    (λ (other : is_proper_prefix x row ≡ false). other)
    (cases_Bool (is_proper_prefix x row))

pub proper_prefix-nil : (row : List ℕ) → 0 < length row → is_proper_prefix [] row ≡ true
proper_prefix-nil [] some = absurd (omega arith)
proper_prefix-nil (r ∷ rs) some = refl
