-- Controls that are done one after the other.
use Rattle.std.proofs.Common.{◌≡◌, ℕ, List, [], ◌∷◌, ◌++◌, refl, ap, ◌∙◌, append_assoc, sym}
use Rattle.term_model.specs.Term.{Term}
use Rattle.term_model.specs.Controls.{Control, Read, between, controls_from, next_of, read_after}
use Rattle.term_model.specs.Obeying.{act, acted, chars_of, obeyed, obeyed_bytes}
use Rattle.term_model.specs.Laws.{EndBetween}
use Rattle.term_model.proofs.CharLemmas.{chars_of-append}

pub acted-append : (t : Term) (controls more : List Control) → acted t (controls ++ more) ≡ acted (acted t controls) more
acted-append t [] more = refl
acted-append t (control ∷ controls) more = acted-append (act t control) controls more

-- what is read behind some characters goes on from where they came to
pub controls_from-append : (chars more : List ℕ) (read : Read) → controls_from read (chars ++ more) ≡ controls_from read chars ++ controls_from (read_after read chars) more
controls_from-append [] more read = refl
controls_from-append (c ∷ cs) more read =
    ap (λ controls. (next_of read c).1 ++ controls) (controls_from-append cs more (next_of read c).0)
    ∙ sym (append_assoc (next_of read c).1 (controls_from (next_of read c).0 cs) (controls_from (read_after read (c ∷ cs)) more))

-- characters that end between control sequences are obeyed by themselves
pub obeyed-append : (t : Term) (chars more : List ℕ) → read_after between chars ≡ between → obeyed t (chars ++ more) ≡ obeyed (obeyed t chars) more
obeyed-append t chars more whole =
    ap (acted t) (controls_from-append chars more between ∙ ap (λ (read : Read). controls_from between chars ++ controls_from read more) whole)
    ∙ acted-append t (controls_from between chars) (controls_from between more)

-- bytes that end between characters and between control sequences are obeyed by themselves
pub obeyed_bytes-append : (t : Term) (bytes more : List ℕ) → EndBetween bytes → obeyed_bytes t (bytes ++ more) ≡ obeyed_bytes (obeyed_bytes t bytes) more
obeyed_bytes-append t bytes more ends =
    ap (obeyed t) (chars_of-append bytes more ends.characters) ∙ obeyed-append t (chars_of bytes) (chars_of more) ends.sequences
