-- Bytes that draw, one after another.
use Rattle.std.proofs.Common.{◌≡◌, ℕ, Bool, List, [], ◌∷◌, ◌++◌, refl, sym, ap, ◌∙◌, subst, append_assoc}
use Rattle.std.specs.List.{list_all}
use Rattle.std.proofs.lemmas.Bool.{and_from}
use Rattle.std.proofs.lemmas.List.Folds.{list_all-append}
use Rattle.term_model.specs.Controls.{Control}
use Rattle.term_model.specs.Obeying.{act, acted}
use Rattle.term_model.specs.Term.{Term}
use Rattle.diff_render.specs.Canvas.{Canvas, On, touched, touched_by, Touches, Draws}
use Rattle.diff_render.proofs.Made.{made_none, made_then}
use Rattle.diff_render.proofs.Reading.{spells_none, spells_then, quiet_none, quiet_then}

pub acted-append : (t : Term) (cs ds : List Control) → acted t (cs ++ ds) ≡ acted (acted t cs) ds
acted-append t [] ds = refl
acted-append t (c ∷ cs) ds = acted-append (act t c) cs ds

pub touched-append : (t : Term) (base : ℕ) (cs ds : List Control) → touched t base (cs ++ ds) ≡ touched t base cs ++ touched (acted t cs) base ds
touched-append t base [] ds = refl
touched-append t base (c ∷ cs) ds =
    ap (λ ps. touched_by t base c ++ ps) (touched-append (act t c) base cs ds)
    ∙ sym (append_assoc (touched_by t base c) (touched (act t c) base cs) (touched (acted (act t c) cs) base ds))

pub touches_then : (ok : ℕ → ℕ → Bool) (t : Term) (base : ℕ) (cs ds : List Control) → Touches ok t base cs → Touches ok (acted t cs) base ds → Touches ok t base (cs ++ ds)
touches_then ok t base cs ds p q =
    let test : ℕ × ℕ → Bool = λ place. ok place.0 place.1 in
    ap (list_all test) (touched-append t base cs ds) ∙ list_all-append test (touched t base cs) (touched (acted t cs) base ds)
    ∙ and_from (list_all test (touched t base cs)) (list_all test (touched (acted t cs) base ds)) p q

pub draws_none : (rows cols : ℕ) (ok : ℕ → ℕ → Bool) (c : Canvas) → Draws rows cols ok [] c c
draws_none rows cols ok c = record {
  controls = [];
  spells = spells_none;
  quiet = quiet_none;
  made = made_none;
  stands = λ t base good x on. on;
  touches = λ t base good x on. refl;
}

pub follows : (rows cols : ℕ) (ok : ℕ → ℕ → Bool) (a b : List ℕ) (from mid to : Canvas) → Draws rows cols ok a from mid → Draws rows cols ok b mid to
    → Draws rows cols ok (a ++ b) from to
follows rows cols ok a b from mid to p q = record {
  controls = p.controls ++ q.controls;
  spells = spells_then a b p.controls q.controls p.spells q.spells;
  quiet = quiet_then a b p.quiet q.quiet;
  made = made_then a b p.made q.made;
  stands = λ t base good x on. subst (λ y. On t base to y) (sym (acted-append x p.controls q.controls))
      (q.stands t base good (acted x p.controls) (p.stands t base good x on));
  touches = λ t base good x on. touches_then ok x base p.controls q.controls (p.touches t base good x on)
      (q.touches t base good (acted x p.controls) (p.stands t base good x on));
}

-- the same with equal parts
pub draws_same : (rows cols new_rows new_cols : ℕ) (ok : ℕ → ℕ → Bool) (bytes new_bytes : List ℕ) (from to new_to : Canvas)
    → new_rows ≡ rows → new_cols ≡ cols → new_bytes ≡ bytes → new_to ≡ to → Draws rows cols ok bytes from to → Draws new_rows new_cols ok new_bytes from new_to
draws_same rows cols new_rows new_cols ok bytes new_bytes from to new_to a b c d p = rw (a, b, c, d) p
