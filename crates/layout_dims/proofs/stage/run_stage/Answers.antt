use Rattle.std.proofs.Common.{◌≡◌, ◌<◌, ◌+◌, length, sum, arith, rules}
use Rattle.layout_dims.proofs.Stages.{Grows-start, rounds_bounded, falls_by_place, next_in}
use Rattle.layout_dims.proofs.stage.run_stage.Goals as goal

pub loop-total-init : goal.loop-total-init
loop-total-init c =
    let total : c.sum-total.result ≡ sum c.args.sizes.now = search rules in
    record {
      total = total;
      within = omega (arith, c.requires.can_grow.goal_above);
      place_in = c.requires.place_in;
      rounds_in = omega arith;
      grows = Grows-start _ _ _ _ _ c.requires.can_grow;
    }

pub visit-requires-clause-rounds_in : goal.visit-requires-clause-rounds_in
visit-requires-clause-rounds_in c =
    let a = c.args in
    let s = c.loop-total in
    let below : s.place.rounds < a.place.now.rounds + 1002000 =
    rounds_bounded a.weights.now a.sizes.now a.caps.now a.place.now.rounds a.place.now.child s.place.rounds s.place.child s.sizes a.goal
    c.requires.weights_in c.requires.can_grow.one_cap c.requires.place_in s.invariant.place_in (omega arith) (omega arith) s.invariant.grows in
    omega (arith, c.requires.rounds_in)

pub loop-total-smaller-then-visit : goal.loop-total-smaller-then-visit
loop-total-smaller-then-visit c =
    let a = c.args in
    let s = c.loop-total in
    let below : s.place.rounds < a.place.now.rounds + 1002000 =
    rounds_bounded a.weights.now a.sizes.now a.caps.now a.place.now.rounds a.place.now.child s.place.rounds s.place.child s.sizes a.goal
    c.requires.weights_in c.requires.can_grow.one_cap c.requires.place_in s.invariant.place_in (omega arith) (omega arith) s.invariant.grows in
    falls_by_place (length a.weights.now) (a.place.now.rounds + 1002000) _ _ _ _ s.invariant.place_in below c.visit.ensures.next

pub loop-total-preserved-then-visit : goal.loop-total-preserved-then-visit
loop-total-preserved-then-visit c =
    let a = c.args in
    let s = c.loop-total in
    let below : s.place.rounds < a.place.now.rounds + 1002000 =
    rounds_bounded a.weights.now a.sizes.now a.caps.now a.place.now.rounds a.place.now.child s.place.rounds s.place.child s.sizes a.goal
    c.requires.weights_in c.requires.can_grow.one_cap c.requires.place_in s.invariant.place_in (omega arith) (omega arith) s.invariant.grows in
    let next = next_in _ _ _ _ _ c.visit.ensures.next in
    record {
      total = omega (arith, c.if-visit.ensures.total);
      within = omega arith;
      place_in = next.0;
      rounds_in = omega (arith, next.1);
      grows = c.visit.ensures.grows _ _ _ (omega arith) s.invariant.grows;
    }

pub loop-total-smaller : goal.loop-total-smaller
loop-total-smaller c =
    let a = c.args in
    let s = c.loop-total in
    let below : s.place.rounds < a.place.now.rounds + 1002000 =
    rounds_bounded a.weights.now a.sizes.now a.caps.now a.place.now.rounds a.place.now.child s.place.rounds s.place.child s.sizes a.goal
    c.requires.weights_in c.requires.can_grow.one_cap c.requires.place_in s.invariant.place_in (omega arith) (omega arith) s.invariant.grows in
    falls_by_place (length a.weights.now) (a.place.now.rounds + 1002000) _ _ _ _ s.invariant.place_in below c.visit.ensures.next

pub loop-total-preserved : goal.loop-total-preserved
loop-total-preserved c =
    let a = c.args in
    let s = c.loop-total in
    let below : s.place.rounds < a.place.now.rounds + 1002000 =
    rounds_bounded a.weights.now a.sizes.now a.caps.now a.place.now.rounds a.place.now.child s.place.rounds s.place.child s.sizes a.goal
    c.requires.weights_in c.requires.can_grow.one_cap c.requires.place_in s.invariant.place_in (omega arith) (omega arith) s.invariant.grows in
    let next = next_in _ _ _ _ _ c.visit.ensures.next in
    record {
      total = omega (arith, c.if-visit.ensures.total);
      within = omega arith;
      place_in = next.0;
      rounds_in = omega (arith, next.1);
      grows = c.visit.ensures.grows _ _ _ (omega arith) s.invariant.grows;
    }
