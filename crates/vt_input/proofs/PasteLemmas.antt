-- A paste that is read a character at a time is the paste of the whole text.
use Prim.Native.Nat.{zero, suc}
use Rattle.std.proofs.Common.{◌≡◌, ℕ, ◌+◌, ◌<◌, ◌≤◌, Bool, true, false, cond, nat_lt, List, [], ◌∷◌, ◌++◌, append_assoc, length, length-append, length-take, take, take_all, drop, slice_index, Option, Some, None, refl, sym, ap, subst, ◌∙◌, arith, ⊎_elim}
use Rattle.std.specs.Prelude.{◌==◌, ◌&&◌}
use Rattle.std.specs.Option.{option_map}
use Rattle.std.proofs.lemmas.Bool.{cases_Bool, cond-true, cond-false, eqb-true}
use Rattle.std.proofs.lemmas.Bool.Decides.{nat_tests}
use Rattle.std.proofs.lemmas.List.{append-nil, take-append-le, length-take-le}
use Rattle.std.proofs.Math.Seq.{take-append-add, drop-append-add}
use Rattle.vt_input.specs.declared.pasted.PastedText.{PastedText}
use Rattle.vt_input.specs.Sequences.{is_prefix}
use Rattle.vt_input.specs.Pressed.{ending, end_place, line_feeds_from, pasted, paste_limit}
use Rattle.vt_input.specs.Held.{Paste, begun, kept_with, add_by, add, add_all, missed_by, missed, step_by, step, Went, still, over, went_by, went}

pub add_all-append : (x y : List ℕ) (t : PastedText) → add_all (x ++ y) t ≡ add_all y (add_all x t)
add_all-append [] y t = refl
add_all-append (c ∷ cs) y t = add_all-append cs y (add t c)

-- more text after text
abbrev pub went_then : Went → List ℕ → Went
went_then (still p) y = went y p
went_then (over text rest) y = over text (rest ++ y)

then_by : (o : Option Paste) (kept cs y : List ℕ) → ((q : Paste) → went (cs ++ y) q ≡ went_then (went cs q) y)
    → went_by o kept (cs ++ y) (λ q. went (cs ++ y) q) ≡ went_then (went_by o kept cs (λ q. went cs q)) y
then_by None kept cs y ih = refl
then_by (Some q) kept cs y ih = ih q

pub went-append : (x y : List ℕ) (p : Paste) → went (x ++ y) p ≡ went_then (went x p) y
went-append [] y p = refl
went-append (c ∷ cs) y p = then_by (step p c) p.text.kept cs y (λ q. went-append cs y q)

-- what is kept is the front of the text

take_take-append : (n : ℕ) (a b : List ℕ) → take n (take n a ++ b) ≡ take n (a ++ b)
take_take-append zero a b = refl
take_take-append (suc n) [] b = refl
take_take-append (suc n) (x ∷ a) b = ap (λ t. x ∷ t) (take_take-append n a b)

kept_with-is : (kept : List ℕ) (c : ℕ) → length kept ≤ paste_limit → kept_with kept c ≡ take paste_limit (kept ++ c ∷ [])
kept_with-is kept c le = ⊎_elim
    (λ (room : nat_lt (length kept) paste_limit ≡ true).
    let below : length kept < paste_limit = grind (arith, nat_tests) in
    cond-true (nat_lt (length kept) paste_limit) (kept ++ c ∷ []) kept room ∙ sym (take_all paste_limit (kept ++ c ∷ []) (omega (arith, length-append kept (c ∷ [])))))
    (λ (full : nat_lt (length kept) paste_limit ≡ false).
    let above : paste_limit ≤ length kept = grind (arith, nat_tests) in
    cond-false (nat_lt (length kept) paste_limit) (kept ++ c ∷ []) kept full
    ∙ sym (take-append-le paste_limit kept (c ∷ []) above ∙ take_all paste_limit kept le))
    (cases_Bool (nat_lt (length kept) paste_limit))

pub length-kept_with : (kept : List ℕ) (c : ℕ) → length kept ≤ paste_limit → length (kept_with kept c) ≤ paste_limit
length-kept_with kept c le =
    let same = ap (λ (t : List ℕ). length t) (kept_with-is kept c le) in
    omega (arith, length-take paste_limit (kept ++ c ∷ []))

kept_behind : (kept : List ℕ) (c : ℕ) (rest : List ℕ) → length kept ≤ paste_limit → take paste_limit (kept_with kept c ++ rest) ≡ take paste_limit (kept ++ (c ∷ [] ++ rest))
kept_behind kept c rest le =
    ap (λ (t : List ℕ). take paste_limit (t ++ rest)) (kept_with-is kept c le) ∙ take_take-append paste_limit (kept ++ c ∷ []) rest
    ∙ ap (λ (t : List ℕ). take paste_limit t) (append_assoc kept (c ∷ []) rest)

add_by-kept : (a b : Bool) (t : PastedText) (c : ℕ) (rest : List ℕ) → length t.kept ≤ paste_limit
    → take paste_limit ((add_by a b t c).kept ++ rest) ≡ take paste_limit (t.kept ++ (cond a (10 ∷ []) (cond b [] (c ∷ [])) ++ rest))
add_by-kept true b t c rest le = kept_behind t.kept 10 rest le
add_by-kept false true t c rest le = refl
add_by-kept false false t c rest le = kept_behind t.kept c rest le

add_by-returned : (a b : Bool) (t : PastedText) (c : ℕ) → (add_by a b t c).returned ≡ a
add_by-returned true b t c = refl
add_by-returned false true t c = refl
add_by-returned false false t c = refl

length-add_by : (a b : Bool) (t : PastedText) (c : ℕ) → length t.kept ≤ paste_limit → length (add_by a b t c).kept ≤ paste_limit
length-add_by true b t c le = length-kept_with t.kept 10 le
length-add_by false true t c le = le
length-add_by false false t c le = length-kept_with t.kept c le

pub length-add : (t : PastedText) (c : ℕ) → length t.kept ≤ paste_limit → length (add t c).kept ≤ paste_limit
length-add t c le = length-add_by (c == 13) (t.returned && c == 10) t c le

pub length-add_all : (x : List ℕ) (t : PastedText) → length t.kept ≤ paste_limit → length (add_all x t).kept ≤ paste_limit
length-add_all [] t le = le
length-add_all (c ∷ cs) t le = length-add_all cs (add t c) (length-add t c le)

kept-add_all : (x : List ℕ) (t : PastedText) → length t.kept ≤ paste_limit → (add_all x t).kept ≡ take paste_limit (t.kept ++ line_feeds_from t.returned x)
kept-add_all [] t le = sym (ap (λ (s : List ℕ). take paste_limit s) (append-nil t.kept) ∙ take_all paste_limit t.kept le)
kept-add_all (c ∷ cs) t le =
    kept-add_all cs (add t c) (length-add t c le)
    ∙ ap (λ (r : Bool). take paste_limit ((add t c).kept ++ line_feeds_from r cs)) (add_by-returned (c == 13) (t.returned && c == 10) t c)
    ∙ add_by-kept (c == 13) (t.returned && c == 10) t c (line_feeds_from (c == 13) cs) le

-- the text of a paste, kept a character at a time
pub pasted-is : (x : List ℕ) → (add_all x begun.text).kept ≡ pasted x
pasted-is x = kept-add_all x begun.text (omega arith)

-- ---- the end mark

abbrev up : ℕ → Option ℕ → Option ℕ
up k o = option_map (λ n. n + k) o

one-up : (k : ℕ) (o : Option ℕ) → option_map (λ n. n + 1) (up k o) ≡ up (k + 1) o
one-up k None = refl
one-up k (Some n) = let e : n + k + 1 ≡ n + (k + 1) = omega arith in ap (λ (m : ℕ). Some m) e

up-zero : (o : Option ℕ) → up 0 o ≡ o
up-zero None = refl
up-zero (Some n) = let e : n + 0 ≡ n = omega arith in ap (λ (m : ℕ). Some m) e

-- where a character does not go on with the mark, the mark begins nowhere before it
missed_place : (m : ℕ) (c : ℕ) (cs : List ℕ) → m < 6 → (slice_index ending m == c) ≡ false → end_place (take m ending ++ c ∷ cs) ≡ up m (end_place (c ∷ cs))
missed_place zero c cs lt e = sym (up-zero (end_place (c ∷ cs)))
missed_place (suc zero) c cs lt e =
    let E = end_place (c ∷ cs) in
    ap (λ (b : Bool). cond (b && is_prefix (drop 2 ending) cs) (Some 0) (up 1 E)) e
missed_place (suc (suc zero)) c cs lt e =
    let E = end_place (c ∷ cs) in
    ap (λ (b : Bool). cond (b && is_prefix (drop 3 ending) cs) (Some 0) (up 1 (up 1 E))) e ∙ one-up 1 E
missed_place (suc (suc (suc zero))) c cs lt e =
    let E = end_place (c ∷ cs) in
    ap (λ (b : Bool). cond (b && is_prefix (drop 4 ending) cs) (Some 0) (up 1 (up 1 (up 1 E)))) e ∙ ap (λ (o : Option ℕ). up 1 o) (one-up 1 E) ∙ one-up 2 E
missed_place (suc (suc (suc (suc zero)))) c cs lt e =
    let E = end_place (c ∷ cs) in
    ap (λ (b : Bool). cond (b && is_prefix (drop 5 ending) cs) (Some 0) (up 1 (up 1 (up 1 (up 1 E))))) e
    ∙ ap (λ (o : Option ℕ). up 1 (up 1 o)) (one-up 1 E) ∙ ap (λ (o : Option ℕ). up 1 o) (one-up 2 E) ∙ one-up 3 E
missed_place (suc (suc (suc (suc (suc zero))))) c cs lt e =
    let E = end_place (c ∷ cs) in
    ap (λ (b : Bool). cond (b && is_prefix (drop 6 ending) cs) (Some 0) (up 1 (up 1 (up 1 (up 1 (up 1 E)))))) e
    ∙ ap (λ (o : Option ℕ). up 1 (up 1 (up 1 o))) (one-up 1 E) ∙ ap (λ (o : Option ℕ). up 1 (up 1 o)) (one-up 2 E) ∙ ap (λ (o : Option ℕ). up 1 o) (one-up 3 E) ∙ one-up 4 E
missed_place (suc (suc (suc (suc (suc (suc m)))))) c cs lt e = absurd (omega arith)

other_place : (c : ℕ) (cs : List ℕ) → (27 == c) ≡ false → end_place (c ∷ cs) ≡ up 1 (end_place cs)
other_place c cs e = ap (λ (b : Bool). cond (b && is_prefix (drop 1 ending) cs) (Some 0) (up 1 (end_place cs))) e

-- a front of the mark holds no mark
front_place : (m : ℕ) → m < 6 → end_place (take m ending ++ []) ≡ None
front_place zero lt = refl
front_place (suc zero) lt = refl
front_place (suc (suc zero)) lt = refl
front_place (suc (suc (suc zero))) lt = refl
front_place (suc (suc (suc (suc zero)))) lt = refl
front_place (suc (suc (suc (suc (suc zero))))) lt = refl
front_place (suc (suc (suc (suc (suc (suc m)))))) lt = absurd (omega arith)

-- one character more of the mark
next_front : (m : ℕ) (cs : List ℕ) → m < 6 → take (m + 1) ending ++ cs ≡ take m ending ++ slice_index ending m ∷ cs
next_front zero cs lt = refl
next_front (suc zero) cs lt = refl
next_front (suc (suc zero)) cs lt = refl
next_front (suc (suc (suc zero))) cs lt = refl
next_front (suc (suc (suc (suc zero)))) cs lt = refl
next_front (suc (suc (suc (suc (suc zero))))) cs lt = refl
next_front (suc (suc (suc (suc (suc (suc m)))))) cs lt = absurd (omega arith)

length-front : (m : ℕ) → m < 6 → length (take m ending) ≡ m
length-front m lt = length-take-le m ending (omega arith)

-- a paste after a text is open where the text has no end mark, and else is over, with the text before the mark
abbrev pub WentIs : Went → PastedText → List ℕ → Option ℕ → Type 0
WentIs (still p) t v None = Unit {0}
WentIs (over text rest) t v None = ⊥
WentIs (still p) t v (Some n) = ⊥
WentIs (over text rest) t v (Some n) = (text ≡ (add_all (take n v) t).kept) × (rest ≡ drop (n + 6) v)

take_past : (u v : List ℕ) (n k : ℕ) → length u ≡ k → take (n + k) (u ++ v) ≡ u ++ take n v
take_past u v n k long =
    let same : n + k ≡ length u + n = omega arith in
    ap (λ (m : ℕ). take m (u ++ v)) same ∙ take-append-add u v n

drop_past : (u v : List ℕ) (n m : ℕ) → m ≡ length u + n → drop m (u ++ v) ≡ drop n v
drop_past u v n m same = ap (λ (k : ℕ). drop k (u ++ v)) same ∙ drop-append-add u v n

WentIs-behind : (w : Went) (s t : PastedText) (u v : List ℕ) (k : ℕ) (o : Option ℕ) → t ≡ add_all u s → length u ≡ k → WentIs w t v o → WentIs w s (u ++ v) (up k o)
WentIs-behind (still p) s t u v k None said long h = tt
WentIs-behind (over text rest) s t u v k None said long h = absurd h
WentIs-behind (still p) s t u v k (Some n) said long h = absurd h
WentIs-behind (over text rest) s t u v k (Some n) said long h =
    let front : take (n + k) (u ++ v) ≡ u ++ take n v = take_past u v n k long in
    let behind : drop (n + k + 6) (u ++ v) ≡ drop (n + 6) v = drop_past u v (n + 6) (n + k + 6) (omega arith) in (
      h.0 ∙ ap (λ (q : PastedText). (add_all (take n v) q).kept) said ∙ ap (λ (q : PastedText). q.kept) (sym (add_all-append u (take n v) s)) ∙ ap (λ (x : List ℕ). (add_all x s).kept) (sym front),
      h.1 ∙ sym behind,
    )

WentIs-at : (w : Went) (t : PastedText) (v v' : List ℕ) (o o' : Option ℕ) → v ≡ v' → o ≡ o' → WentIs w t v o → WentIs w t v' o'
WentIs-at w t v v' o o' e f h = subst (λ (x : Option ℕ). WentIs w t v' x) f (subst (λ (x : List ℕ). WentIs w t x o) e h)

-- what the mark's front and the text behind it are
abbrev virtual : Paste → List ℕ → List ℕ
virtual p x = take p.marked ending ++ x

-- a character that goes on with the mark
module _ (c : ℕ) (cs : List ℕ) (p : Paste) (lt : p.marked < 6) (same : (slice_index ending p.marked == c) ≡ true)
    (ih : (q : Paste) → q.marked < 6 → WentIs (went cs q) q.text (virtual q cs) (end_place (virtual q cs))) where
  goes_on : take (p.marked + 1) ending ++ cs ≡ virtual p (c ∷ cs)
  goes_on = next_front p.marked cs lt ∙ ap (λ (d : ℕ). take p.marked ending ++ d ∷ cs) (eqb-true (slice_index ending p.marked) c same)

  last_mark : (p.marked == 5) ≡ true → WentIs (over p.text.kept cs) p.text (virtual p (c ∷ cs)) (end_place (virtual p (c ∷ cs)))
  last_mark last =
      let five : p.marked ≡ 5 = eqb-true p.marked 5 last in
      let all : ending ++ cs ≡ virtual p (c ∷ cs) = ap (λ (m : ℕ). take (m + 1) ending ++ cs) (sym five) ∙ goes_on in
      let found : Some 0 ≡ end_place (virtual p (c ∷ cs)) = ap (λ (x : List ℕ). end_place x) all in
      WentIs-at (over p.text.kept cs) p.text (ending ++ cs) (virtual p (c ∷ cs)) (Some 0) (end_place (virtual p (c ∷ cs))) all found (refl, refl)

  more_mark : (p.marked == 5) ≡ false → WentIs (went cs (record { text = p.text; marked = p.marked + 1 })) p.text (virtual p (c ∷ cs)) (end_place (virtual p (c ∷ cs)))
  more_mark other =
      let q : Paste = record { text = p.text; marked = p.marked + 1 } in
      let below : q.marked < 6 = grind (arith, nat_tests) in
      WentIs-at (went cs q) p.text (virtual q cs) (virtual p (c ∷ cs)) (end_place (virtual q cs)) (end_place (virtual p (c ∷ cs))) goes_on (ap (λ (x : List ℕ). end_place x) goes_on) (ih q below)

  mark_by : (last : Bool) → (p.marked == 5) ≡ last
      → WentIs (went_by (step_by true last p c) p.text.kept cs (λ q. went cs q)) p.text (virtual p (c ∷ cs)) (end_place (virtual p (c ∷ cs)))
  mark_by true e = last_mark e
  mark_by false e = more_mark e

  pub marks : WentIs (went_by (step_by true (p.marked == 5) p c) p.text.kept cs (λ q. went cs q)) p.text (virtual p (c ∷ cs)) (end_place (virtual p (c ∷ cs)))
  marks = mark_by (p.marked == 5) refl

-- a character that does not
module _ (c : ℕ) (cs : List ℕ) (p : Paste) (lt : p.marked < 6) (other : (slice_index ending p.marked == c) ≡ false)
    (ih : (q : Paste) → q.marked < 6 → WentIs (went cs q) q.text (virtual q cs) (end_place (virtual q cs))) where
  front : List ℕ
  front = take p.marked ending

  begins : (27 == c) ≡ true → WentIs (went cs (record { text = add_all (take p.marked ending) p.text; marked = 1 })) (add_all (take p.marked ending) p.text) (c ∷ cs) (end_place (c ∷ cs))
  begins esc =
      let q : Paste = record { text = add_all (take p.marked ending) p.text; marked = 1 } in
      let all : virtual q cs ≡ c ∷ cs = ap (λ (d : ℕ). d ∷ cs) (eqb-true 27 c esc) in
      WentIs-at (went cs q) q.text (virtual q cs) (c ∷ cs) (end_place (virtual q cs)) (end_place (c ∷ cs)) all (ap (λ (x : List ℕ). end_place x) all) (ih q (omega arith))

  plain : (27 == c) ≡ false → WentIs (went cs (record { text = add (add_all (take p.marked ending) p.text) c; marked = 0 })) (add_all (take p.marked ending) p.text) (c ∷ cs) (end_place (c ∷ cs))
  plain none =
      let t : PastedText = add_all (take p.marked ending) p.text in
      let q : Paste = record { text = add t c; marked = 0 } in
      WentIs-at (went cs q) t (c ∷ cs) (c ∷ cs) (up 1 (end_place cs)) (end_place (c ∷ cs)) refl (sym (other_place c cs none))
      (WentIs-behind (went cs q) t q.text (c ∷ []) cs 1 (end_place cs) refl refl (ih q (omega arith)))

  miss_by : (esc : Bool) → (27 == c) ≡ esc → WentIs (went cs (missed_by esc (add_all (take p.marked ending) p.text) c)) (add_all (take p.marked ending) p.text) (c ∷ cs) (end_place (c ∷ cs))
  miss_by true e = begins e
  miss_by false e = plain e

  pub misses : WentIs (went cs (missed p c)) p.text (virtual p (c ∷ cs)) (end_place (virtual p (c ∷ cs)))
  misses =
      let w = went cs (missed p c) in
      WentIs-at w p.text (virtual p (c ∷ cs)) (virtual p (c ∷ cs)) (up p.marked (end_place (c ∷ cs))) (end_place (virtual p (c ∷ cs))) refl (sym (missed_place p.marked c cs lt other))
      (WentIs-behind w p.text (add_all (take p.marked ending) p.text) (take p.marked ending) (c ∷ cs) p.marked (end_place (c ∷ cs)) refl (length-front p.marked lt) (miss_by (27 == c) refl))

went_by-is : (c : ℕ) (cs : List ℕ) (p : Paste) → p.marked < 6 → ((q : Paste) → q.marked < 6 → WentIs (went cs q) q.text (virtual q cs) (end_place (virtual q cs)))
    → (same : Bool) → (slice_index ending p.marked == c) ≡ same
    → WentIs (went_by (step_by same (p.marked == 5) p c) p.text.kept cs (λ q. went cs q)) p.text (virtual p (c ∷ cs)) (end_place (virtual p (c ∷ cs)))
went_by-is c cs p lt ih true e = marks c cs p lt e ih
went_by-is c cs p lt ih false e = misses c cs p lt e ih

went-virtual : (x : List ℕ) (p : Paste) → p.marked < 6 → WentIs (went x p) p.text (virtual p x) (end_place (virtual p x))
went-virtual [] p lt = subst (λ (o : Option ℕ). WentIs (still p) p.text (virtual p []) o) (sym (front_place p.marked lt)) tt
went-virtual (c ∷ cs) p lt = went_by-is c cs p lt (λ q below. went-virtual cs q below) (slice_index ending p.marked == c) refl

-- a paste from its beginning
pub went-is : (x : List ℕ) → WentIs (went x begun) begun.text x (end_place x)
went-is x = went-virtual x begun (omega arith)
