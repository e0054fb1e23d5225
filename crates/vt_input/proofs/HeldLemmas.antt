-- What is held serves as the rest: more text gives what the whole text gives.
use Rattle.std.proofs.Common.{◌≡◌, ℕ, ◌+◌, ◌-◌, ◌<◌, ◌≤◌, Bool, true, false, cond, List, [], ◌∷◌, ◌++◌, append_assoc, length, take, drop, drop-drop, Option, Some, None, refl, sym, ap, ◌∙◌, arith, ⊎_elim}
use Rattle.std.specs.Prelude.{◌==◌, ◌&&◌, not}
use Rattle.vt_input.specs.declared.cutter.Cutter.{Cutter}
use Rattle.vt_input.specs.Taken.{Takes}
use Rattle.vt_input.proofs.SequenceLemmas.{length-is_prefix}
use Prim.Native.Nat.{zero, suc}
use Rattle.std.proofs.lemmas.Bool.{cases_Bool, eqb-true, and_parts}
use Rattle.key_names.specs.declared.key.Key.{Key}
use Rattle.key_names.specs.declared.key.KeyPress.{KeyPress}
use Rattle.vt_input.specs.declared.pasted.PastedText.{PastedText}
use Rattle.vt_input.specs.declared.row.SeqRow.{SeqRow}
use Rattle.characters.specs.Cut.{Cut}
use Rattle.vt_input.specs.Sequences.{is_prefix}
use Rattle.vt_input.specs.Pressed.{opening, end_place, pasted, paste_press, paste_by, opens, waits, chosen, decision, press_by, first_by, first_key, keys_of}
use Rattle.vt_input.specs.Held.{Paste, Held, Fed, nothing, begun, Went, still, over, went, held_still, held_by, held_of, fed_cut, press_first, fed_went, fed_by, with_presses}
use Rattle.characters.proofs.CutLemmas.{cut-append, cut-step, cut-waits, Waits, Waits-cut_behind, rest-nil}
use Rattle.vt_input.proofs.KeyLemmas.{first_key-stable, first_key-flush, end_place-none, Takes-chosen}
use Rattle.vt_input.proofs.PasteLemmas.{went_then, went-append, WentIs, went-is, pasted-is}

-- a text that begins with a list is that list and what follows it
pub prefix-split : (row x : List ℕ) → is_prefix row x ≡ true → x ≡ row ++ drop (length row) x
prefix-split [] x e = refl
prefix-split (r ∷ rs) [] e = absurd (cc)
prefix-split (r ∷ rs) (c ∷ cs) e =
    let both : (r == c ≡ true) × (is_prefix rs cs ≡ true) = and_parts (r == c) (is_prefix rs cs) e in
    let same : c ≡ r = sym (eqb-true r c both.0) in
    ap (λ (d : ℕ). d ∷ cs) same ∙ ap (λ (t : List ℕ). r ∷ t) (prefix-split rs cs both.1)

-- a text behind the opening mark
abbrev opened_tail : List ℕ → List ℕ
opened_tail z = 91 ∷ 50 ∷ 48 ∷ 48 ∷ 126 ∷ z

opened_by : (rows : List SeqRow) (z : List ℕ) (w : Went) (o : Option ℕ) → went z begun ≡ w → end_place z ≡ o → WentIs w begun.text z o
    → fed_cut (keys_of rows false (opening ++ z)) ≡ fed_went rows false w
opened_by rows z (still p) None is none h =
    let first : first_key rows false (opening ++ z) ≡ None = ap (λ (o : Option ℕ). paste_by z o) none in
    ap (λ (t : Cut KeyPress). fed_cut t) (cut-waits (first_key rows false) 27 (opened_tail z) first)
    ∙ ap (λ (w : Went). record { presses = []; held = held_still w }) is
opened_by rows z (over text rest) None is none h = absurd h
opened_by rows z (still p) (Some n) is found h = absurd h
opened_by rows z (over text rest) (Some n) is found h =
    let first : first_key rows false (opening ++ z) ≡ Some (paste_press (pasted (take n z)), n + 11) = ap (λ (o : Option ℕ). paste_by z o) found in
    let place : 5 + (n + 6) ≡ n + 11 = omega arith in
    let behind : drop (n + 11) (opened_tail z) ≡ rest =
    ap (λ (k : ℕ). drop k (opened_tail z)) (sym place) ∙ sym (drop-drop (n + 6) 5 (opened_tail z)) ∙ sym h.1 in
    let said : pasted (take n z) ≡ text = sym (pasted-is (take n z)) ∙ sym h.0 in
    ap (λ (t : Cut KeyPress). fed_cut t) (cut-step (first_key rows false) 27 (opened_tail z) (paste_press (pasted (take n z))) (n + 11) first)
    ∙ ap (λ (t : List ℕ). press_first (paste_press (pasted (take n z))) (fed_cut (keys_of rows false t))) behind
    ∙ ap (λ (t : List ℕ). press_first (paste_press t) (fed_cut (keys_of rows false rest))) said

-- a text that begins a paste gives what the paste gives
pub opened : (rows : List SeqRow) (z : List ℕ) → fed_cut (keys_of rows false (opening ++ z)) ≡ fed_went rows false (went z begun)
opened rows z = opened_by rows z (went z begun) (end_place z) refl refl (went-is z)

-- what more text gives, over what is held
abbrev pub fed_more : List SeqRow → Held → List ℕ → Fed
fed_more rows held y = fed_by rows false held.paste (held.text ++ y)

abbrev pub fed_then : List SeqRow → Fed → List ℕ → Fed
fed_then rows fed y = with_presses fed.presses (fed_more rows fed.held y)

-- a paste without an end mark stays open
still_by : (w : Went) (t : PastedText) (z : List ℕ) (o : Option ℕ) → o ≡ None → WentIs w t z o → (p : Paste) × (w ≡ still p)
still_by (still p) t z o none h = (p, refl)
still_by (over text rest) t z None none h = absurd h
still_by (over text rest) t z (Some n) none h = absurd (cc)

pub went-still : (z : List ℕ) → end_place z ≡ None → (p : Paste) × (went z begun ≡ still p)
went-still z none = still_by (went z begun) begun.text z (end_place z) none (went-is z)

held_more : (rows : List SeqRow) (r y : List ℕ) → Waits (first_key rows false) r → fed_cut (keys_of rows false (r ++ y)) ≡ fed_more rows (held_of r) y
held_more rows [] y w = refl
held_more rows (c ∷ cs) y w =
    let r = c ∷ cs in
    ⊎_elim
    (λ (mark : is_prefix opening r ≡ true).
    let z = drop 6 r in
    let split : r ≡ opening ++ z = prefix-split opening r mark in
    let open_paste = went-still z (end_place-none rows c cs mark w) in
    let p = open_paste.0 in
    let held : held_of r ≡ record { text = []; paste = Some p } = ap (λ (b : Bool). held_by b r) mark ∙ ap (λ (v : Went). held_still v) open_paste.1 in
    ap (λ (t : List ℕ). fed_cut (keys_of rows false t)) (ap (λ (t : List ℕ). t ++ y) split ∙ append_assoc opening z y)
    ∙ opened rows (z ++ y) ∙ ap (λ (v : Went). fed_went rows false v) (went-append z y begun ∙ ap (λ (v : Went). went_then v y) open_paste.1)
    ∙ ap (λ (h : Held). fed_more rows h y) (sym held))
    (λ (other : is_prefix opening r ≡ false). ap (λ (b : Bool). fed_more rows (held_by b r) y) (sym other))
    (cases_Bool (is_prefix opening r))

text-append : (rows : List SeqRow) (x y : List ℕ) → fed_cut (keys_of rows false (x ++ y)) ≡ fed_then rows (fed_cut (keys_of rows false x)) y
text-append rows x y =
    ap (λ (t : Cut KeyPress). fed_cut t) (cut-append (first_key rows false) (first_key-stable rows) x y)
    ∙ ap (λ (f : Fed). with_presses (keys_of rows false x).items f) (held_more rows (keys_of rows false x).rest y (Waits-cut_behind (first_key rows false) 0 x))

went-more : (rows : List SeqRow) (w : Went) (y : List ℕ) → fed_went rows false (went_then w y) ≡ fed_then rows (fed_went rows false w) y
went-more rows (still p) y = refl
went-more rows (over text rest) y = ap (λ (f : Fed). press_first (paste_press text) f) (text-append rows rest y)

-- a text in two pieces gives what it gives as one
pub fed_by-append : (rows : List SeqRow) (paste : Option Paste) (x y : List ℕ) → fed_by rows false paste (x ++ y) ≡ fed_then rows (fed_by rows false paste x) y
fed_by-append rows None x y = text-append rows x y
fed_by-append rows (Some p) x y = ap (λ (w : Went). fed_went rows false w) (went-append x y p) ∙ went-more rows (went x p) y

-- a flush leaves nothing
pub flushed-nothing : (rows : List SeqRow) (x : List ℕ) → fed_by rows true None x ≡ record { presses = (keys_of rows true x).items; held = nothing }
flushed-nothing rows x =
    ap (λ (r : List ℕ). record { presses = (keys_of rows true x).items; held = held_of r }) (rest-nil (first_key rows true) (λ c cs e. first_key-flush rows c cs e) 0 x)

-- ---- one step at a time

some_none : (t : Key × ℕ) → Some t ≡ None → ⊥
some_none t e = cc

-- an opening mark
pub opens-front : (rows : List SeqRow) (x : List ℕ) → is_prefix opening x ≡ true → fed_by rows false (Some begun) (drop 6 x) ≡ fed_by rows false None x
opens-front rows x mark =
    sym (ap (λ (t : List ℕ). fed_cut (keys_of rows false t)) (prefix-split opening x mark) ∙ opened rows (drop 6 x))

drop_behind : (n c : ℕ) (cs : List ℕ) → 1 ≤ n → drop (n - 1) cs ≡ drop n (c ∷ cs)
drop_behind zero c cs least = absurd (omega arith)
drop_behind (suc n) c cs least = let same : suc n - 1 ≡ n = omega arith in ap (λ (k : ℕ). drop k cs) same

-- a decided key
pub takes-front : (rows : List SeqRow) (flush : Bool) (x : List ℕ) (key : Key) (n : ℕ) → opens flush x ≡ false → decision rows flush x ≡ Some (key, n) → 0 < length x → 1 ≤ n
    → fed_by rows flush None x ≡ press_first (record { key = key; text = take n x }) (fed_by rows flush None (drop n x))
takes-front rows flush [] key n other e some least = absurd (omega arith)
takes-front rows flush (c ∷ cs) key n other e some least =
    let x = c ∷ cs in
    let press : KeyPress = record { key = key; text = take n x } in
    let first : first_key rows flush x ≡ Some (press, n - 1) = ap (λ (b : Bool). first_by b rows flush x) other ∙ ap (λ (o : Option (Key × ℕ)). press_by x o) e in
    ap (λ (t : Cut KeyPress). fed_cut t) (cut-step (first_key rows flush) c cs press (n - 1) first)
    ∙ ap (λ (t : List ℕ). press_first press (fed_cut (keys_of rows flush t))) (drop_behind n c cs least)

-- ---- steps of a cutter

-- a step that begins a paste
pub Takes-mark : (rows : List SeqRow) (flush : Bool) (before : Cutter) (x : List ℕ) → before.paste ≡ None → opens flush x ≡ true
    → Takes rows flush before (record { presses = before.presses; paste = Some begun }) x 6
Takes-mark rows true before x none mark = absurd (cc)
Takes-mark rows false before x none mark = record {
  some = omega arith;
  within = length-is_prefix opening x mark;
  same = ap (λ (f : Fed). with_presses before.presses f) (opens-front rows x mark)
      ∙ ap (λ (o : Option Paste). with_presses before.presses (fed_by rows false o x)) (sym none);
}

chosen_by-size : (rows : List SeqRow) (b : Bool) (x : List ℕ) (key : Key) (n : ℕ) → Some (key, n) ≡ cond b None (Some (chosen rows x)) → (chosen rows x).1 ≡ n
chosen_by-size rows true x key n e = absurd (some_none (key, n) e)
chosen_by-size rows false x key n e =
    let P : Type 0 = Key × ℕ in
    let got : P = (key, n) in
    let same : got ≡ chosen rows x = cc in
    sym (ap (λ (t : P). t.1) same)

chosen-size : (rows : List SeqRow) (flush : Bool) (x : List ℕ) (key : Key) (n : ℕ) → Some (key, n) ≡ decision rows flush x → (chosen rows x).1 ≡ n
chosen-size rows flush x key n e = chosen_by-size rows (not flush && waits rows x) x key n e

-- a key takes at least one character, and no more than there are
pub decision-bounds : (rows : List SeqRow) (flush : Bool) (x : List ℕ) (key : Key) (n : ℕ) → 0 < length x → Some (key, n) ≡ decision rows flush x → (1 ≤ n) × (n ≤ length x)
decision-bounds rows flush [] key n some e = absurd (omega arith)
decision-bounds rows flush (c ∷ cs) key n some e =
    let t = Takes-chosen rows c cs in
    let same : (chosen rows (c ∷ cs)).1 ≡ n = chosen-size rows flush (c ∷ cs) key n e in
    (omega arith, omega arith)

-- a step that takes a key
pub Takes-key : (rows : List SeqRow) (flush : Bool) (before : Cutter) (presses : List KeyPress) (x text : List ℕ) (key : Key) (n : ℕ) → before.paste ≡ None → opens flush x ≡ false
    → Some (key, n) ≡ decision rows flush x → 0 < length x → text ≡ take n x → presses ≡ before.presses ++ record { key = key; text = text } ∷ []
    → Takes rows flush before (record { presses = presses; paste = before.paste }) x n
Takes-key rows flush before presses x text key n none other e some said pushed =
    let bounds = decision-bounds rows flush x key n some e in
    let front = before.presses in
    let press : KeyPress = record { key = key; text = take n x } in
    let rest : Fed = fed_by rows flush None (drop n x) in
    record {
      some = bounds.0;
      within = bounds.1;
      same = ap (λ (o : Option Paste). with_presses presses (fed_by rows flush o (drop n x))) none
          ∙ ap (λ (t : List KeyPress). with_presses t rest) (pushed ∙ ap (λ (t : List ℕ). front ++ record { key = key; text = t } ∷ []) said)
          ∙ ap (λ (t : List KeyPress). record { presses = t; held = rest.held }) (append_assoc front (press ∷ []) rest.presses)
          ∙ ap (λ (f : Fed). with_presses front f) (sym (takes-front rows flush x key n other (sym e) some bounds.0))
          ∙ ap (λ (o : Option Paste). with_presses front (fed_by rows flush o x)) (sym none);
    }
