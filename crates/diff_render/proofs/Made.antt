-- Bytes that are made of pieces.
use Rattle.std.proofs.Common.{◌≡◌, ℕ, ◌≤◌, ◌<◌, Bool, true, false, List, [], ◌∷◌, ◌++◌, nat_lt, refl, sym, ap, ◌∙◌}
use Rattle.std.proofs.Common.{arith, append_assoc, append-nil, ⊎_elim, encode_utf8, encode_utf8_all}
use Rattle.std.proofs.lemmas.Bool.{and_parts, cases_lt}
use Rattle.std.proofs.lemmas.Bool.Decides.{nat_tests}
use lib.Utf8.{scalar, scalars}
use Rattle.diff_render.specs.Opening.{climb, opening, asking}
use Rattle.diff_render.specs.Pieces.{Piece, Character, Return, Feed, Up, ErasePage, Pen, Wraps, Pastes, Visible}
use Rattle.diff_render.specs.Pieces.{Question, spelled, spelling, IsPiece, ArePieces, IsMade}
use Rattle.diff_render.specs.Turning.{closing}
use Rattle.diff_render.proofs.Texts.{AllPrinted}
use Rattle.cell_grid.specs.Attrs.{plain}

pub made_none : IsMade []
made_none = record { pieces = []; right = tt; is = refl }

pub made_of : (piece : Piece) → IsPiece piece → IsMade (spelled piece)
made_of piece right = record { pieces = piece ∷ []; right = (right, tt); is = sym (append-nil (spelled piece)) }

all_right : (ps qs : List Piece) → ArePieces ps → ArePieces qs → ArePieces (ps ++ qs)
all_right [] qs h k = k
all_right (p ∷ ps) qs h k = (h.0, all_right ps qs h.1 k)

spelling-append : (ps qs : List Piece) → spelling (ps ++ qs) ≡ spelling ps ++ spelling qs
spelling-append [] qs = refl
spelling-append (p ∷ ps) qs = ap (λ x. spelled p ++ x) (spelling-append ps qs) ∙ sym (append_assoc (spelled p) (spelling ps) (spelling qs))

pub made_then : (a b : List ℕ) → IsMade a → IsMade b → IsMade (a ++ b)
made_then a b p q = record {
  pieces = p.pieces ++ q.pieces;
  right = all_right p.pieces q.pieces p.right q.right;
  is = ap (λ x. x ++ b) p.is ∙ ap (λ y. spelling p.pieces ++ y) q.is ∙ sym (spelling-append p.pieces q.pieces);
}

pub made_text : (text : List ℕ) → AllPrinted text → scalars text ≡ true → IsMade (encode_utf8_all text)
made_text [] h valid = made_none
made_text (c ∷ cs) h valid =
    let parts = and_parts (scalar c) (scalars cs) valid in
    made_then (encode_utf8 c) (encode_utf8_all cs) (made_of (Character c) (parts.0, h.0)) (made_text cs h.1 parts.1)

pub made_opening : IsMade opening
made_opening = record {
  pieces = Return ∷ Pen plain ∷ ErasePage ∷ Wraps false ∷ Pastes true ∷ Visible ∷ [];
  right = (tt, (((tt, tt), (tt, tt)), (tt, (tt, (tt, (tt, tt))))));
  is = refl;
}

pub made_closing : IsMade closing
made_closing = record { pieces = Return ∷ Feed ∷ Wraps true ∷ Pastes false ∷ []; right = (tt, (tt, (tt, (tt, tt)))); is = refl }

pub made_climb : (n : ℕ) → n ≤ 999 → IsMade (climb n)
made_climb n few = ⊎_elim
    (λ (some : 0 < n). let t : nat_lt 0 n ≡ true = grind (arith, nat_tests) in rw t (made_of (Up n) (omega arith, few)))
    (λ (none : n ≤ 0). let t : nat_lt 0 n ≡ false = grind (arith, nat_tests) in rw t made_none)
    (cases_lt 0 n)

pub made_asking : (asks : Bool) → IsMade (asking asks)
made_asking true = made_of Question tt
made_asking false = made_none
