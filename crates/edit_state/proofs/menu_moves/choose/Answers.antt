-- The present choice again changes nothing exactly where the document is as before.
use Rattle.std.proofs.Common.{◌≡◌, Bool, true, false, ap, sym, ◌∙◌, refl, arith}
use Rattle.std.specs.Prelude.{not, IsTrue, option_and_then}
use Rattle.edit_buffer.specs.declared.menus.Menu.{Menu}
use Rattle.edit_buffer.specs.BufferState.{BufferState}
use Rattle.edit_buffer.specs.Menus.{chosen_in}
use Rattle.edit_state.proofs.Choosing.{same_choice}
use Rattle.edit_state.proofs.menu_moves.choose.Goals as goal

not_false : (b : Bool) → not b ≡ false → IsTrue b
not_false b is = grind arith

is_true : (b : Bool) → b ≡ true → IsTrue b
is_true b is = grind arith

not_true : (b : Bool) → IsTrue b → not b ≡ false
not_true b is = grind arith

pub returns-clause-changed : goal.returns-clause-changed
returns-clause-changed c =
    let b = c.args.buffer.now in
    let which = c.args.which in
    let made : c.choose_within-2.new.buffer ≡ chosen_in b.menu b which = c.in_ok-choose_within-2.ensures.buffer in
    let before : c.in_ok-before.before ≡ b.doc = c.in_ok-before.ensures.value ∙ c.doc.ensures.doc in
    let after : c.doc-2.result.now ≡ (c.choose_within-2.new.buffer).doc = c.doc-2.ensures.doc in
    let here : option_and_then (λ (m : Menu). m.chosen) b.menu ≡ which = c.is_chosen.ensures.0 (is_true _ c.if-not-is_chosen.false) in (
      λ same. made ∙ same_choice b b.menu which c.doc.ensures.state refl here
          (sym (ap (λ (x : BufferState). x.doc) made) ∙ sym after ∙ c.is_equal.ensures.0 (not_false _ same) ∙ before),
      λ same. not_true _ (c.is_equal.ensures.1 (after ∙ ap (λ (x : BufferState). x.doc) same ∙ sym before)),
    )
