use Rattle.std.proofs.Common.{◌≡◌, length, take, sym, ap, ◌∙◌, arith}
use Rattle.std.specs.Prelude.{fold}
use Rattle.std.proofs.lemmas.Bool.{eq-eqb, ne_eqb}
use Rattle.style_sheet.specs.Cascade.{changed, changes_for}
use Rattle.style_sheet.proofs.Cascades.{attrs_before, attrs_before-dot, attrs_before-other, class_attrs-last}
use Rattle.style_sheet.proofs.sheets.work_out.Goals as goal
use Rattle.style_sheet.proofs.sheets.work_out.Goals.{then-byte-eq46, else-byte-eq46}

pub loop-place-preserved : goal.loop-place-preserved
loop-place-preserved c = λ rules are. elim c.if-byte-eq46.branch [
  | then-byte-eq46 w ↦ w.attrs-is ∙ w.apply_named-attrs.ensures rules are
      ∙ ap (λ attrs. fold changed attrs (changes_for rules (take c.loop-place.place c.args.name.now))) (c.loop-place.invariant rules are)
      ∙ attrs_before-dot rules c.args.name.now c.loop-place.place (eq-eqb _ 46 w.if-byte-eq46.true)
  | else-byte-eq46 w ↦ w.attrs-is ∙ c.loop-place.invariant rules are ∙ attrs_before-other rules c.args.name.now c.loop-place.place (ne_eqb _ 46 w.if-byte-eq46.false)
]

pub returns : goal.returns
returns c = λ rules are.
    let end : c.loop-place.place ≡ length c.args.name.now = omega arith in
    c.apply_named.ensures rules are
    ∙ ap (λ attrs. fold changed attrs (changes_for rules c.args.name.now)) (c.loop-place.invariant rules are ∙ ap (λ n. attrs_before rules c.args.name.now n) end)
    ∙ sym (class_attrs-last rules c.args.name.now)
