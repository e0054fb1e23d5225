-- Any pieces and flushes give the keys of the whole text.
use Rattle.std.proofs.Common.{◌≡◌, ℕ, Bool, true, false, List, [], ◌∷◌, ◌++◌, append_assoc, drop, Option, Some, None, refl, sym, ap, ◌∙◌, ⊎_elim}
use Rattle.std.proofs.lemmas.List.{append-nil}
use Rattle.std.proofs.lemmas.Bool.{cases_Bool}
use Rattle.std.specs.Prelude.{is_some}
use Rattle.key_names.specs.declared.key.KeyPress.{KeyPress}
use Rattle.vt_input.specs.declared.row.SeqRow.{SeqRow}
use Rattle.characters.specs.Cut.{Cut}
use Rattle.characters.specs.Characters.{first_char, characters, unfinished_char}
use Rattle.vt_input.specs.Sequences.{is_prefix}
use Rattle.vt_input.specs.Pressed.{opening, first_key, keys_of}
use Rattle.vt_input.specs.Held.{Paste, Held, Fed, Went, held_still, held_by, held_of, fed_cut, fed_by, with_presses}
use Rattle.vt_input.specs.Inputs.{Parsing, Input, piece, flush, fed_bytes, parsing_after, flushed_by, flushed, bytes_by, parsing_flushed, whole, stands_for, given, flushed_whole, expected_by, expected}
use Rattle.characters.proofs.CutLemmas.{cut-append, cut_then, Waits, Waits-cut_behind}
use Rattle.characters.proofs.CharacterLemmas.{first_char-stable}
use Rattle.vt_input.proofs.KeyLemmas.{end_place-none}
use Rattle.vt_input.proofs.HeldLemmas.{fed_by-append, flushed-nothing, went-still}

-- bytes in two pieces have the characters of both
pub characters-append : (x y : List ℕ) → characters (x ++ y) ≡ cut_then first_char (characters x) y
characters-append x y = cut-append first_char first_char-stable x y

-- what is left to give of a whole text is what the parser gives that stands for its front
fed-whole : (rows : List SeqRow) (bytes more : List ℕ) → fed_cut (whole rows (bytes ++ more)) ≡ with_presses (whole rows bytes).items (fed_bytes (stands_for rows bytes) more)
fed-whole rows bytes more =
    ap (λ (t : Cut ℕ). fed_cut (keys_of rows false t.items)) (characters-append bytes more)
    ∙ fed_by-append rows None (characters bytes).items (characters ((characters bytes).rest ++ more)).items

pub presses-whole : (rows : List SeqRow) (bytes more : List ℕ) → (whole rows (bytes ++ more)).items ≡ (whole rows bytes).items ++ (fed_bytes (stands_for rows bytes) more).presses
presses-whole rows bytes more = ap (λ (f : Fed). f.presses) (fed-whole rows bytes more)

pub after-whole : (rows : List SeqRow) (bytes more : List ℕ) → parsing_after (stands_for rows bytes) more ≡ stands_for rows (bytes ++ more)
after-whole rows bytes more =
    let held = ap (λ (f : Fed). f.held) (fed-whole rows bytes more) in
    let rest = ap (λ (t : Cut ℕ). t.rest) (characters-append bytes more) in
    ap (λ (h : Held). record { rows = rows; bytes = (characters ((characters bytes).rest ++ more)).rest; held = h }) (sym held)
    ∙ ap (λ (r : List ℕ). record { rows = rows; bytes = r; held = held_of (whole rows (bytes ++ more)).rest }) (sym rest)

-- one piece or two
pub fed-in-two : (p : Parsing) (x y : List ℕ) → fed_bytes p (x ++ y) ≡ with_presses (fed_bytes p x).presses (fed_bytes (parsing_after p x) y)
fed-in-two p x y =
    let first = characters (p.bytes ++ x) in
    let second = characters (first.rest ++ y) in
    ap (λ (b : List ℕ). fed_by p.rows false p.held.paste (p.held.text ++ (characters b).items)) (sym (append_assoc p.bytes x y))
    ∙ ap (λ (t : Cut ℕ). fed_by p.rows false p.held.paste (p.held.text ++ t.items)) (characters-append (p.bytes ++ x) y)
    ∙ ap (λ (t : List ℕ). fed_by p.rows false p.held.paste t) (sym (append_assoc p.held.text first.items second.items))
    ∙ fed_by-append p.rows p.held.paste (p.held.text ++ first.items) second.items

pub cut-in-two : (p : Parsing) (x y : List ℕ) → parsing_after (parsing_after p x) y ≡ parsing_after p (x ++ y)
cut-in-two p x y =
    let held = ap (λ (f : Fed). f.held) (fed-in-two p x y) in
    let rest = ap (λ (b : List ℕ). (characters b).rest) (sym (append_assoc p.bytes x y)) ∙ ap (λ (t : Cut ℕ). t.rest) (characters-append (p.bytes ++ x) y) in
    ap (λ (h : Held). record { rows = p.rows; bytes = (parsing_after (parsing_after p x) y).bytes; held = h }) (sym held)
    ∙ ap (λ (r : List ℕ). record { rows = p.rows; bytes = r; held = (parsing_after p (x ++ y)).held }) (sym rest)

pub presses-in-two : (p : Parsing) (x y : List ℕ) → (fed_bytes p x).presses ++ (fed_bytes (parsing_after p x) y).presses ≡ (fed_bytes p (x ++ y)).presses
presses-in-two p x y = sym (ap (λ (f : Fed). f.presses) (fed-in-two p x y))

-- ---- flushes

-- a rest that begins with the opening mark is an open paste
open_rest : (rows : List SeqRow) (r : List ℕ) → Waits (first_key rows false) r → is_prefix opening r ≡ true → (p : Paste) × (held_of r ≡ record { text = []; paste = Some p })
open_rest rows [] w mark = absurd (cc)
open_rest rows (c ∷ cs) w mark =
    let open_paste = went-still (drop 6 (c ∷ cs)) (end_place-none rows c cs mark w) in
    (open_paste.0, ap (λ (b : Bool). held_by b (c ∷ cs)) mark ∙ ap (λ (v : Went). held_still v) open_paste.1)

-- in a paste a flush does nothing
in_paste : (rows : List SeqRow) (bytes : List ℕ) → is_prefix opening (whole rows bytes).rest ≡ true
    → ((flushed (stands_for rows bytes)).presses ≡ []) × (parsing_flushed (stands_for rows bytes) ≡ stands_for rows bytes)
in_paste rows bytes mark =
    let held = open_rest rows (whole rows bytes).rest (Waits-cut_behind (first_key rows false) 0 (characters bytes).items) mark in
    let p : Parsing = record { rows = rows; bytes = (characters bytes).rest; held = record { text = []; paste = Some held.0 } } in
    let same : stands_for rows bytes ≡ p = ap (λ (h : Held). record { rows = rows; bytes = (characters bytes).rest; held = h }) held.1 in (
      ap (λ (q : Parsing). (flushed q).presses) same,
      ap (λ (q : Parsing). parsing_flushed q) same ∙ sym same,
    )

-- outside a paste it decides all
outside : (rows : List SeqRow) (bytes : List ℕ) → is_prefix opening (whole rows bytes).rest ≡ false
    → ((flushed (stands_for rows bytes)).presses ≡ (keys_of rows true ((whole rows bytes).rest ++ unfinished_char (characters bytes).rest)).items)
    × (parsing_flushed (stands_for rows bytes) ≡ stands_for rows [])
outside rows bytes other =
    let r = (whole rows bytes).rest in
    let b = (characters bytes).rest in
    let x = r ++ unfinished_char b in
    let p : Parsing = record { rows = rows; bytes = b; held = record { text = r; paste = None } } in
    let same : stands_for rows bytes ≡ p = ap (λ (m : Bool). record { rows = rows; bytes = b; held = held_by m r }) other in
    let none = flushed-nothing rows x in (
      ap (λ (q : Parsing). (flushed q).presses) same ∙ ap (λ (f : Fed). f.presses) none,
      ap (λ (q : Parsing). parsing_flushed q) same ∙ ap (λ (f : Fed). record { rows = rows; bytes = []; held = f.held }) none,
    )

-- the keys of the text so far, and then those that the parser gives that stands for it
pub given-is : (inputs : List Input) (rows : List SeqRow) (bytes : List ℕ) → (whole rows bytes).items ++ given (stands_for rows bytes) inputs ≡ expected rows bytes inputs
given-is [] rows bytes = append-nil (whole rows bytes).items
given-is (piece more ∷ inputs) rows bytes =
    ap (λ (q : Parsing). (whole rows bytes).items ++ ((fed_bytes (stands_for rows bytes) more).presses ++ given q inputs)) (after-whole rows bytes more)
    ∙ sym (append_assoc (whole rows bytes).items (fed_bytes (stands_for rows bytes) more).presses (given (stands_for rows (bytes ++ more)) inputs))
    ∙ ap (λ (t : List KeyPress). t ++ given (stands_for rows (bytes ++ more)) inputs) (sym (presses-whole rows bytes more))
    ∙ given-is inputs rows (bytes ++ more)
given-is (flush ∷ inputs) rows bytes = ⊎_elim
    (λ (mark : is_prefix opening (whole rows bytes).rest ≡ true).
    let h = in_paste rows bytes mark in
    ap (λ (t : List KeyPress). (whole rows bytes).items ++ (t ++ given (parsing_flushed (stands_for rows bytes)) inputs)) h.0
    ∙ ap (λ (q : Parsing). (whole rows bytes).items ++ given q inputs) h.1
    ∙ given-is inputs rows bytes
    ∙ ap (λ (b : Bool). expected_by b (expected rows bytes inputs) (flushed_whole rows bytes ++ expected rows [] inputs)) (sym mark))
    (λ (other : is_prefix opening (whole rows bytes).rest ≡ false).
    let h = outside rows bytes other in
    ap (λ (t : List KeyPress). (whole rows bytes).items ++ (t ++ given (parsing_flushed (stands_for rows bytes)) inputs)) h.0
    ∙ ap (λ (q : Parsing). (whole rows bytes).items ++ ((keys_of rows true ((whole rows bytes).rest ++ unfinished_char (characters bytes).rest)).items ++ given q inputs)) h.1
    ∙ sym (append_assoc (whole rows bytes).items (keys_of rows true ((whole rows bytes).rest ++ unfinished_char (characters bytes).rest)).items (given (stands_for rows []) inputs))
    ∙ ap (λ (t : List KeyPress). flushed_whole rows bytes ++ t) (given-is inputs rows [])
    ∙ ap (λ (b : Bool). expected_by b (expected rows bytes inputs) (flushed_whole rows bytes ++ expected rows [] inputs)) (sym other))
    (cases_Bool (is_prefix opening (whole rows bytes).rest))

-- a parser that gives the keys of all from its beginning
pub given-all : (inputs : List Input) (rows : List SeqRow) → given (stands_for rows []) inputs ≡ expected rows [] inputs
given-all inputs rows = given-is inputs rows []

flushed_by-is : (o : Option Paste) (p : Parsing) → p.held.paste ≡ o → is_some o ≡ false
    → record { rows = p.rows; bytes = []; held = (fed_by p.rows true p.held.paste (p.held.text ++ unfinished_char p.bytes)).held } ≡ parsing_flushed p
flushed_by-is (Some q) p e none = absurd (cc)
flushed_by-is None p e none =
    ap (λ (o : Option Paste). record { rows = p.rows; bytes = []; held = (fed_by p.rows true o (p.held.text ++ unfinished_char p.bytes)).held }) e
    ∙ sym (ap (λ (o : Option Paste). record { rows = p.rows; bytes = bytes_by o p.bytes; held = (flushed_by o p).held }) e)

-- deciding all that waits is a flush
pub flushed-is : (p : Parsing) → is_some p.held.paste ≡ false
    → record { rows = p.rows; bytes = []; held = (fed_by p.rows true p.held.paste (p.held.text ++ unfinished_char p.bytes)).held } ≡ parsing_flushed p
flushed-is p none = flushed_by-is p.held.paste p refl none
