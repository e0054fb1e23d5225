use Rattle.std.proofs.Common.{◌≡◌, ◌++◌, map, refl, sym, ap, ◌∙◌}
use Rattle.std.proofs.lemmas.Option.{MatchOption-at_none, MatchOption-at_some}
use Rattle.style_sheet.specs.declared.changes.Change.{Change}
use Rattle.style_sheet.specs.Spelling.{change_word, IsChange}
use Rattle.style_sheet.proofs.Parts.{parts, left_parts, next_part, push_part, each-push}
use Rattle.style_sheet.proofs.WordTexts.{words_read, words_unread}
use Rattle.style_sheet.proofs.rules.read_changes.Goals as goal

pub loop-left-init : goal.loop-left-init
loop-left-init c = rw c.new-changes.ensures.items (record { each = tt; so_far = refl })

pub returns-in-None-clause-none : goal.returns-in-None-clause-none
returns-in-None-clause-none c =
    words_unread c.args.text.now c.cut.result.0.now (map change_word c.loop-left.changes.items) (left_parts 32 c.cut.result.1)
    (next_part 32 _ _ c.loop-left.left c.in-Some.here c.cut.result.0.now c.cut.result.1 c.loop-left.invariant.so_far c.in-Some.is c.cut.ensures.whole c.cut.ensures.first)
    (MatchOption-at_none ((change : Change) → IsChange change → change_word change ≡ c.cut.result.0.now → ⊥) (λ _. Unit {0}) c.in-None.is c.in_ok-change.ensures.none)

pub loop-left-preserved : goal.loop-left-preserved
loop-left-preserved c =
    let found = MatchOption-at_some (Unit {0}) (λ change. IsChange change × (change_word change ≡ c.cut.result.0.now)) c.in-Some-2.change c.in-Some-2.is c.in_ok-change.ensures.found in
    rw c.in_ok-push-in-Some-2.ensures.items (record {
      each = each-push IsChange c.loop-left.changes.items c.in-Some-2.change c.loop-left.invariant.each found.0;
      so_far = push_part change_word c.loop-left.changes.items c.in-Some-2.change c.cut.result.0.now (left_parts 32 c.cut.result.1) (parts 32 c.args.text.now)
          (next_part 32 _ _ c.loop-left.left c.in-Some.here c.cut.result.0.now c.cut.result.1 c.loop-left.invariant.so_far c.in-Some.is c.cut.ensures.whole c.cut.ensures.first)
          found.1;
    })

pub returns-clause-found : goal.returns-clause-found
returns-clause-found c =
    words_read c.args.text.now c.loop-left.changes.items c.loop-left.invariant.each
    (ap (λ left. map change_word c.loop-left.changes.items ++ left_parts 32 left) (sym c.in_default.is) ∙ c.loop-left.invariant.so_far)
