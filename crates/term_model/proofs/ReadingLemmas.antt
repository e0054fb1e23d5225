-- How bytes read as control sequences.
use Rattle.std.proofs.Common.{◌≡◌, ℕ, ◌+◌, ◌-◌, ◌*◌, ◌<◌, ◌≤◌, ◌≢◌, Bool, true, false, cond, List, [], ◌∷◌, ◌++◌, length, take, drop, get_or, None, slice_index, refl, sym, ap, subst, ◌∙◌, arith, append_assoc, append-nil, length-drop, length-take-le, ⊎_elim}
use Rattle.std.specs.Prelude.{◌==◌}
use Rattle.std.specs.Int.{is_in_range}
use Rattle.std.specs.List.{list_all}
use Rattle.std.proofs.lemmas.Bool.{and_parts, cases_lt, cond-true, cond-false}
use Rattle.std.proofs.lemmas.List.{drop-drop, drop_more, drop_all, take-append-drop}
use Rattle.std.proofs.lemmas.Bool.Decides.{nat_tests}
use Rattle.bstr.specs.Utf8.{Decoded, decoded, decoded_by, good, bad, or_replacement, second, code_of_2, code_of_3, code_of_4}
use Rattle.bstr.proofs.lemmas.PieceLemmas.{by-shape}
use Rattle.characters.specs.Characters.{is_unfinished}
use Rattle.characters.specs.ControlCharacters.{is_parameter, is_intermediate, is_final}
use Rattle.term_model.specs.Obeying.{chars_of}
use Rattle.term_model.specs.Parameters.{numbers_from}
use Rattle.term_model.specs.Controls.{Control, Read, between, escape, parameters, intermediates, controls_from, next_of, function_of, next_broken, only, rendition, SGR, Ignored, Print, is_control}
use Rattle.term_model.proofs.CharLemmas.{chars_of-ascii, chars_of-step}

only_by : (t : Bool) (n x : ℕ) (xs ys : List ℕ) → only (n ∷ ys) ≡ None → only (n ∷ cond t (x ∷ xs) ys) ≡ None
only_by true n x xs ys more = refl
only_by false n x xs ys more = more

-- a separator that was read leaves a number behind it
pub only-more : (params : List ℕ) (n value : ℕ) → only (n ∷ numbers_from value params) ≡ None
only-more [] n value = refl
only-more (c ∷ cs) n value = only_by (c == 59) n _ _ _ (only-more cs n (10 * value + (c - 48)))

three_bytes : (b c : ℕ) → 0xE0 ≤ b → second b c ≡ true → 2 ≤ (b - 0xE0) * 64 + (c - 0x80)
three_bytes b c from is = grind (arith, nat_tests)

four_bytes : (b c : ℕ) → 0xF0 ≤ b → b ≤ 0xF4 → second b c ≡ true → 1 ≤ (b - 0xF0) * 64 + (c - 0x80)
four_bytes b c from to is = grind (arith, nat_tests)

high_by : (p r : Decoded) → p ≡ r → 128 ≤ or_replacement r.char → 128 ≤ or_replacement p.char
high_by p r is high = subst (λ (q : Decoded). 128 ≤ or_replacement q.char) (sym is) high

-- another byte begins a character above those, or none
pub decoded_by-high : (n b c d e : ℕ) → 0 < n → 128 ≤ b → 128 ≤ or_replacement (decoded_by n b c d e).char
decoded_by-high n b c d e some high =
    let p = decoded_by n b c d e in
    by-shape n b c d e
    (λ h. absurd (omega arith))
    (λ h. absurd (omega arith))
    (λ h. high_by p (bad 1) h.3 (omega arith))
    (λ h. high_by p (bad 1) h.2 (omega arith))
    (λ h. high_by p (bad 1) h.4 (omega arith))
    (λ h. high_by p (bad 1) h.4 (omega arith))
    (λ h. high_by p (good (code_of_2 b c) 2) h.4 (omega arith))
    (λ h. high_by p (bad 2) h.5 (omega arith))
    (λ h. high_by p (bad 2) h.5 (omega arith))
    (λ h. high_by p (good (code_of_3 b c d) 3) h.5 (omega (arith, three_bytes b c h.1 h.3)))
    (λ h. high_by p (bad 3) h.6 (omega arith))
    (λ h. high_by p (bad 3) h.6 (omega arith))
    (λ h. high_by p (good (code_of_4 b c d e) 4) h.6 (omega (arith, four_bytes b c h.1 h.2 h.3)))

-- what the first character does
step : (read : Read) (c : ℕ) (cs : List ℕ) (next : Read × List Control) → next_of read c ≡ next
    → controls_from read (c ∷ cs) ≡ next.1 ++ controls_from next.0 cs
step read c cs next is = ap (λ (n : Read × List Control). n.1 ++ controls_from n.0 cs) is

next_of-parameter : (before : List ℕ) (c : ℕ) → is_parameter c ≡ true → next_of (parameters before) c ≡ (parameters (before ++ c ∷ []), [])
next_of-parameter before c is = cond-true _ _ _ is

next_of-intermediate : (c : ℕ) → is_intermediate c ≡ true → next_of intermediates c ≡ (intermediates, [])
next_of-intermediate c is = cond-true _ _ _ is

next_of-first_intermediate : (before : List ℕ) (c : ℕ) → is_intermediate c ≡ true → next_of (parameters before) c ≡ (intermediates, [])
next_of-first_intermediate before c is =
    let other : is_parameter c ≡ false = grind (arith, nat_tests) in cond-false _ _ _ other ∙ cond-true _ _ _ is

above_range : (low high c : ℕ) → high < c → is_in_range low high c ≡ false
above_range low high c above = grind (arith, nat_tests)

-- some parameters are gathered
pub controls_from-parameters : (run before rest : List ℕ) → list_all is_parameter run ≡ true
    → controls_from (parameters before) (chars_of (run ++ rest)) ≡ controls_from (parameters (before ++ run)) (chars_of rest)
controls_from-parameters [] before rest all = ap (λ xs. controls_from (parameters xs) (chars_of rest)) (sym (append-nil before))
controls_from-parameters (b ∷ run) before rest all =
    let both = and_parts (is_parameter b) (list_all is_parameter run) all in
    let low : b < 128 = grind (arith, nat_tests) in
    ap (controls_from (parameters before)) (chars_of-ascii b (run ++ rest) low)
    ∙ step (parameters before) b (chars_of (run ++ rest)) _ (next_of-parameter before b both.0)
    ∙ controls_from-parameters run (before ++ b ∷ []) rest both.1
    ∙ ap (λ xs. controls_from (parameters xs) (chars_of rest)) (append_assoc before (b ∷ []) run)

-- some intermediates are passed over
pub controls_from-intermediates : (run rest : List ℕ) → list_all is_intermediate run ≡ true
    → controls_from intermediates (chars_of (run ++ rest)) ≡ controls_from intermediates (chars_of rest)
controls_from-intermediates [] rest all = refl
controls_from-intermediates (b ∷ run) rest all =
    let both = and_parts (is_intermediate b) (list_all is_intermediate run) all in
    let low : b < 128 = grind (arith, nat_tests) in
    ap (controls_from intermediates) (chars_of-ascii b (run ++ rest) low)
    ∙ step intermediates b (chars_of (run ++ rest)) _ (next_of-intermediate b both.0)
    ∙ controls_from-intermediates run rest both.1

-- where the parameters and some intermediates lead
abbrev pub behind : List ℕ → List ℕ → Read
behind params [] = parameters params
behind params (i ∷ is) = intermediates

-- the front of a control sequence
pub controls_from-front : (params run rest : List ℕ) → list_all is_parameter params ≡ true → list_all is_intermediate run ≡ true
    → controls_from (parameters []) (chars_of (params ++ (run ++ rest))) ≡ controls_from (behind params run) (chars_of rest)
controls_from-front params [] rest first second = controls_from-parameters params [] rest first
controls_from-front params (i ∷ run) rest first second =
    let both = and_parts (is_intermediate i) (list_all is_intermediate run) second in
    let low : i < 128 = grind (arith, nat_tests) in
    controls_from-parameters params [] (i ∷ run ++ rest) first
    ∙ ap (controls_from (parameters params)) (chars_of-ascii i (run ++ rest) low)
    ∙ step (parameters params) i (chars_of (run ++ rest)) _ (next_of-first_intermediate params i both.0)
    ∙ controls_from-intermediates run rest both.1

-- the function of a control sequence that has a final character
abbrev pub function_behind : List ℕ → List ℕ → ℕ → Control
function_behind params [] final = function_of params final
function_behind params (i ∷ is) final = Ignored

next_of-final : (params run : List ℕ) (c : ℕ) → is_final c ≡ true → next_of (behind params run) c ≡ (between, function_behind params run c ∷ [])
next_of-final params [] c is =
    let other : is_parameter c ≡ false = grind (arith, nat_tests) in
    let neither : is_intermediate c ≡ false = grind (arith, nat_tests) in
    cond-false _ _ _ other ∙ cond-false _ _ _ neither ∙ cond-true _ _ _ is
next_of-final params (i ∷ run) c is =
    let neither : is_intermediate c ≡ false = grind (arith, nat_tests) in cond-false _ _ _ neither ∙ cond-true _ _ _ is

next_of-broken : (params run : List ℕ) (c : ℕ) → (run ≡ [] → is_parameter c ≡ false) → is_intermediate c ≡ false → is_final c ≡ false
    → next_of (behind params run) c ≡ next_broken c
next_of-broken params [] c first second third = cond-false _ _ _ (first refl) ∙ cond-false _ _ _ second ∙ cond-false _ _ _ third
next_of-broken params (i ∷ run) c first second third = cond-false _ _ _ second ∙ cond-false _ _ _ third

-- a character that fits nothing is read anew
read_anew : (params run : List ℕ) (c : ℕ) (cs : List ℕ) → (run ≡ [] → is_parameter c ≡ false) → is_intermediate c ≡ false → is_final c ≡ false
    → controls_from (behind params run) (c ∷ cs) ≡ Ignored ∷ controls_from between (c ∷ cs)
read_anew params run c cs first second third = step (behind params run) c cs _ (next_of-broken params run c first second third)

pub controls_from-broken : (params run : List ℕ) (b : ℕ) (rest : List ℕ) → (run ≡ [] → is_parameter b ≡ false) → is_intermediate b ≡ false → is_final b ≡ false
    → is_unfinished (b ∷ rest) ≡ false → controls_from (behind params run) (chars_of (b ∷ rest)) ≡ Ignored ∷ controls_from between (chars_of (b ∷ rest))
controls_from-broken params run b rest first second third whole =
    let bytes = b ∷ rest in
    ⊎_elim
    (λ (low : b < 128).
    rw (chars_of-ascii b rest low) (read_anew params run b (chars_of rest) first second third))
    (λ (high : 128 ≤ b).
    let c = or_replacement (decoded bytes).char in
    let above : 128 ≤ c = decoded_by-high (length bytes) b (slice_index bytes 1) (slice_index bytes 2) (slice_index bytes 3) (omega arith) high in
    let no_parameter : is_parameter c ≡ false = above_range 0x30 0x3F c (omega arith) in
    let no_intermediate : is_intermediate c ≡ false = above_range 0x20 0x2F c (omega arith) in
    let no_final : is_final c ≡ false = above_range 0x40 0x7E c (omega arith) in
    rw (chars_of-step bytes (omega arith) whole)
    (read_anew params run c (chars_of (drop (decoded bytes).size bytes)) (λ _. no_parameter) no_intermediate no_final))
    (cases_lt b 128)

-- a whole control sequence
pub controls_from-final : (params run : List ℕ) (c : ℕ) (rest : List ℕ) → is_final c ≡ true
    → controls_from (behind params run) (chars_of (c ∷ rest)) ≡ function_behind params run c ∷ controls_from between (chars_of rest)
controls_from-final params run c rest is =
    let low : c < 128 = grind (arith, nat_tests) in
    ap (controls_from (behind params run)) (chars_of-ascii c rest low)
    ∙ step (behind params run) c (chars_of rest) _ (next_of-final params run c is)

-- bytes cut at two places
cut : (bytes : List ℕ) (n m : ℕ) → take n bytes ++ (take m (drop n bytes) ++ drop (n + m) bytes) ≡ bytes
cut bytes n m =
    ap (λ rest. take n bytes ++ (take m (drop n bytes) ++ rest)) (sym (drop-drop m n bytes))
    ∙ ap (λ rest. take n bytes ++ rest) (take-append-drop m (drop n bytes))
    ∙ take-append-drop n bytes

module _ (bytes : List ℕ) (n m : ℕ) (first : list_all is_parameter (take n bytes) ≡ true) (second : list_all is_intermediate (take m (drop n bytes)) ≡ true) where
  reads-front : controls_from (parameters []) (chars_of bytes) ≡ controls_from (behind (take n bytes) (take m (drop n bytes))) (chars_of (drop (n + m) bytes))
  reads-front =
      ap (λ xs. controls_from (parameters []) (chars_of xs)) (sym (cut bytes n m))
      ∙ controls_from-front (take n bytes) (take m (drop n bytes)) (drop (n + m) bytes) first second

  -- bytes that are a control sequence at their front
  pub reads-final : n + m < length bytes → is_final (get_or bytes (n + m) 0) ≡ true
      → controls_from (parameters []) (chars_of bytes)
      ≡ function_behind (take n bytes) (take m (drop n bytes)) (get_or bytes (n + m) 0) ∷ controls_from between (chars_of (drop (n + m + 1) bytes))
  reads-final more is =
      reads-front
      ∙ ap (λ xs. controls_from (behind (take n bytes) (take m (drop n bytes))) (chars_of xs)) (drop_more bytes (n + m) 0 more)
      ∙ controls_from-final (take n bytes) (take m (drop n bytes)) (get_or bytes (n + m) 0) (drop (n + m + 1) bytes) is

  -- bytes that end before the control sequence does
  pub reads-unfinished : chars_of (drop (n + m) bytes) ≡ [] → controls_from (parameters []) (chars_of bytes) ≡ []
  reads-unfinished none = reads-front ∙ ap (controls_from (behind (take n bytes) (take m (drop n bytes)))) none

  -- bytes with another character where the control sequence should go on
  pub reads-broken : n + m < length bytes → (m ≡ 0 → is_parameter (get_or bytes (n + m) 0) ≡ false)
      → is_intermediate (get_or bytes (n + m) 0) ≡ false → is_final (get_or bytes (n + m) 0) ≡ false → is_unfinished (drop (n + m) bytes) ≡ false
      → controls_from (parameters []) (chars_of bytes) ≡ Ignored ∷ controls_from between (chars_of (drop (n + m) bytes))
  reads-broken more no_parameter no_intermediate no_final whole =
      let none : take m (drop n bytes) ≡ [] → m ≡ 0 =
      λ (e : take m (drop n bytes) ≡ []). omega (arith, ap length e, length-drop n bytes, length-take-le m (drop n bytes) (omega (arith, length-drop n bytes))) in
      let here = drop_more bytes (n + m) 0 more in
      reads-front
      ∙ rw here
      (controls_from-broken (take n bytes) (take m (drop n bytes)) (get_or bytes (n + m) 0) (drop (n + m + 1) bytes) (λ e. no_parameter (none e)) no_intermediate no_final
      (ap is_unfinished (sym here) ∙ whole))

-- an intermediate takes its effect from a control sequence
pub function_behind-some : (params run : List ℕ) (final : ℕ) → 0 < length run → function_behind params run final ≡ Ignored
function_behind-some params [] final some = absurd (omega arith)
function_behind-some params (i ∷ run) final some = refl

-- ---- what one character leads to

pub controls_from-csi : (c : ℕ) (cs : List ℕ) → c ≡ 0x5B → controls_from escape (c ∷ cs) ≡ controls_from (parameters []) cs
controls_from-csi c cs is = rw is refl

pub controls_from-escaped : (c : ℕ) (cs : List ℕ) → c ≢ 0x5B → controls_from escape (c ∷ cs) ≡ Ignored ∷ controls_from between cs
controls_from-escaped c cs other =
    let test : (c == 0x5B) ≡ false = grind (arith, nat_tests) in
    step escape c cs (between, Ignored ∷ []) (cond-false _ _ _ test)

pub controls_from-control : (c : ℕ) (cs : List ℕ) → is_control c ≡ true → c ≢ 0x1B → c ≢ 0x0D → c ≢ 0x0A
    → controls_from between (c ∷ cs) ≡ Ignored ∷ controls_from between cs
controls_from-control c cs is no_escape no_return no_feed =
    let first : (c == 0x1B) ≡ false = grind (arith, nat_tests) in
    let second : (c == 0x0D) ≡ false = grind (arith, nat_tests) in
    let third : (c == 0x0A) ≡ false = grind (arith, nat_tests) in
    step between c cs (between, Ignored ∷ []) (cond-false _ _ _ first ∙ cond-false _ _ _ second ∙ cond-false _ _ _ third ∙ cond-true _ _ _ is)

pub controls_from-printed : (c : ℕ) (cs : List ℕ) → is_control c ≡ false
    → controls_from between (c ∷ cs) ≡ Print c ∷ controls_from between cs
controls_from-printed c cs is =
    let first : (c == 0x1B) ≡ false = grind (arith, nat_tests) in
    let second : (c == 0x0D) ≡ false = grind (arith, nat_tests) in
    let third : (c == 0x0A) ≡ false = grind (arith, nat_tests) in
    step between c cs (between, Print c ∷ []) (cond-false _ _ _ first ∙ cond-false _ _ _ second ∙ cond-false _ _ _ third ∙ cond-false _ _ _ is)

rendition_by : (t : Bool) (x : ℕ) (xs ys : List ℕ) → rendition ys ≡ SGR ys → rendition (cond t (x ∷ xs) ys) ≡ SGR (cond t (x ∷ xs) ys)
rendition_by true x xs ys some = refl
rendition_by false x xs ys some = some

-- parameters that are numbers are at least one number
pub rendition-numbers : (params : List ℕ) (value : ℕ) → rendition (numbers_from value params) ≡ SGR (numbers_from value params)
rendition-numbers [] value = refl
rendition-numbers (c ∷ cs) value = rendition_by (c == 59) _ _ _ (rendition-numbers cs (10 * value + (c - 48)))
