use Rattle.std.proofs.Common.{◌≡◌, ◌+◌, ◌<◌, ◌∙◌, [], ◌∷◌, ◌++◌, ap, sym, subst, take, length, get_or, set, arith}
use Rattle.std.proofs.Math.Seq.{take-suc}
use Rattle.std.proofs.lemmas.List.{length-set}
use Prim.Native.Nat.{suc}
use Rattle.std.specs.Prelude.{fold}
use Rattle.style_sheet.specs.ClassName.{place}
use Rattle.style_sheet.specs.Patches.{no_changes, with_change, ArePatchesOf}
use Rattle.style_sheet.proofs.PatchFolds.{more_patches, more_patches-are}
use Rattle.style_sheet.proofs.sheets.patches_of.Goals as goal

pub loop-rule-preserved : goal.loop-rule-preserved
loop-rule-preserved c =
    let within : place c.rule-item.result.class < length c.loop-rule.patches = omega (arith, c.place-place.ensures.is, c.place-place.ensures.below, c.loop-rule.invariant.count) in
    let next : c.loop-rule.rule-index + 1 ≡ suc c.loop-rule.rule-index = omega arith in
    let front : take (c.loop-rule.rule-index + 1) c.args.rules.now ≡ take c.loop-rule.rule-index c.args.rules.now ++ c.rule-item.result ∷ [] =
    ap (λ n. take n c.args.rules.now) next ∙ take-suc c.args.rules.now c.loop-rule.rule-index c.rule-item.result c.loop-rule-test.true
    ∙ ap (λ rule. take c.loop-rule.rule-index c.args.rules.now ++ rule ∷ []) (sym c.rule-item.is) in
    let stored : set c.loop-rule.patches c.place-place.result c.added_to.result ≡ more_patches c.loop-rule.patches c.rule-item.result =
    ap (λ patch. set c.loop-rule.patches c.place-place.result patch) c.added_to.ensures
    ∙ ap (λ k. set c.loop-rule.patches k (fold with_change (get_or c.loop-rule.patches k no_changes) c.rule-item.result.changes)) c.place-place.ensures.is in
    record {
      count = length-set c.loop-rule.patches c.place-place.result c.added_to.result ∙ c.loop-rule.invariant.count;
      each = subst (λ patches. ArePatchesOf (take (c.loop-rule.rule-index + 1) c.args.rules.now) patches) (sym stored)
          (subst (λ front. ArePatchesOf front (more_patches c.loop-rule.patches c.rule-item.result)) (sym front)
          (more_patches-are c.loop-rule.patches (take c.loop-rule.rule-index c.args.rules.now) c.rule-item.result within c.loop-rule.invariant.each));
    }
