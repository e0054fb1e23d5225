use Rattle.std.proofs.Common.{◌≡◌, ◌++◌, ◌+◌, [], ◌∷◌, length, take, drop, cond, ap, sym, ◌∙◌, arith}
use Rattle.std.specs.Ordering.{nat_cmp}
use Rattle.std.specs.Cmp.Lexicographic.{slice_cmp}
use Rattle.std.proofs.lemmas.List.{drop_more, take_more, length-append, length-take}
use Rattle.completers.specs.Gathered.{own_texts, chosen}
use Rattle.completers.proofs.DistinctLemmas.{known, unseen, walk_goes, chosen_more, slices_agree}
use Rattle.completers.proofs.distinct.first_with_text.Goals as goal

pub loop-item-preserved : goal.loop-item-preserved
loop-item-preserved c =
    let listed = c.args.listed.now in
    let at = c.loop-item.item-index in
    let item = c.item-item.result in
    let old = c.loop-item.choice.items in
    let is_new = c.in_ok-is_new.is_new in
    let within = c.loop-item-test.true in
    let behind : drop at listed ≡ item ∷ drop (at + 1) listed = drop_more listed at item within ∙ ap (λ x. x ∷ drop (at + 1) listed) (sym c.item-item.is) in
    let front : take (at + 1) listed ≡ take at listed ++ item ∷ [] = take_more listed at item within ∙ ap (λ x. take at listed ++ x ∷ []) (sym c.item-item.is) in
    let size : length old ≡ length (take at listed) = omega (arith, c.loop-item.invariant.len, length-take at listed) in
    let pushed : chosen c.push.new.self.items (take (at + 1) listed) ≡ chosen old (take at listed) ++ cond is_new (item ∷ []) [] =
    ap (λ cs. chosen cs (take (at + 1) listed)) c.in_ok-push.ensures.items ∙ ap (chosen (old ++ is_new ∷ [])) front ∙ chosen_more old (take at listed) is_new item size in
    let keys = c.loop-item.seen.keys in
    let so_far = sym (ap (λ items. chosen old (take at listed) ++ unseen (known (λ k. k.now) keys) items) behind) ∙ c.loop-item.invariant.so_far in
    record {
      len = omega (arith, ap length c.in_ok-push.ensures.items, length-append old (is_new ∷ []), c.loop-item.invariant.len);
      so_far = walk_goes (λ x y. slice_cmp nat_cmp x.now y.now) (λ k. k.now) (λ a b. slices_agree a.now b.now) (chosen old (take at listed))
          (chosen c.push.new.self.items (take (at + 1) listed)) item (drop (at + 1) listed) (own_texts c.args.typed.now listed) keys c.insert-in-loop-item.new.self.keys
          c.as_slice.result is_new c.as_slice.ensures c.in_ok-is_new.ensures.added c.in_ok-is_new.ensures.keys c.in_ok-is_new.ensures.unchanged pushed so_far;
    }
