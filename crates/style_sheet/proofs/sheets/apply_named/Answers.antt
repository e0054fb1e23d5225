use Rattle.std.proofs.Common.{◌∙◌, ap, sym, get_or}
use Rattle.std.specs.Prelude.{fold}
use Rattle.style_sheet.specs.Cascade.{changed}
use Rattle.style_sheet.specs.ClassName.{default_of}
use Rattle.style_sheet.specs.Patches.{no_changes, patched}
use Rattle.style_sheet.proofs.Cascades.{changes_for-none}
use Rattle.style_sheet.proofs.PatchFolds.{patched-named}
use Rattle.style_sheet.proofs.sheets.apply_named.Goals as goal

pub returns-in-Some : goal.returns-in-Some
returns-in-Some c = λ rules are.
    c.applied_to.ensures
    ∙ ap (λ attrs. patched attrs (get_or c.args.patches.now c.place.result no_changes)) (c.apply_all-attrs.ensures ∙ ap (λ changes. fold changed c.args.attrs changes) c.default_changes.ensures)
    ∙ ap (λ k. patched (fold changed c.args.attrs (default_of c.in-Some.class)) (get_or c.args.patches.now k no_changes)) c.place.ensures.is
    ∙ patched-named rules c.args.patches.now c.args.attrs c.in-Some.class c.args.name.now c.in-Some.ensures.found are

pub returns-in-None : goal.returns-in-None
returns-in-None c = λ rules are.
    ap (λ changes. fold changed c.args.attrs changes) (sym (changes_for-none rules c.args.name.now c.in-None.ensures.none))
