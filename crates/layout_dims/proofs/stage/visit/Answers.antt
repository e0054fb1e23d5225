use Rattle.std.proofs.Common.{◌+◌, get_or, inl, inr, arith, ap, sym, ◌∙◌}
use Rattle.layout_dims.specs.Turns.{takes_turn}
use Rattle.layout_dims.proofs.Rounds.{greatest_le}
use Rattle.layout_dims.proofs.Stages.{Grows-grown, Grows-kept, Grows-wrap}
use Rattle.layout_dims.proofs.stage.visit.Goals as goal

pub returns-then-child-weights-clause-grows : goal.returns-then-child-weights-clause-grows
returns-then-child-weights-clause-grows c = λ starts from goal less h.
    Grows-wrap _ starts _ from _ _ _ goal (c.if-child-weights.true) h

pub has_turn-requires-clause-within : goal.has_turn-requires-clause-within
has_turn-requires-clause-within c = omega (arith, greatest_le c.args.weights.now c.args.place.now.child (omega arith))

pub returns-then-not-has_turn-clause-grows : goal.returns-then-not-has_turn-clause-grows
returns-then-not-has_turn-clause-grows c = λ starts from goal less h.
    let none = ap (λ m. takes_turn m (get_or c.args.weights.now c.args.place.now.child 0) (c.args.place.now.rounds + 1)) (sym c.requires.greatest_is) ∙ sym c.has_turn.ensures ∙ c.if-not-has_turn.true in
    Grows-kept _ starts _ from _ _ _ goal c.requires.weights_in c.requires.one_cap (omega arith) less (inl none) h

pub returns-then-sizes-child-clause-grows : goal.returns-then-sizes-child-clause-grows
returns-then-sizes-child-clause-grows c = λ starts from goal less h.
    Grows-kept _ starts _ from _ _ _ goal c.requires.weights_in c.requires.one_cap (omega arith) less (inr c.if-sizes-child.true) h

pub returns-clause-grows : goal.returns-clause-grows
returns-clause-grows c = λ starts from goal less h.
    let turn = ap (λ m. takes_turn m (get_or c.args.weights.now c.args.place.now.child 0) (c.args.place.now.rounds + 1)) (sym c.requires.greatest_is) ∙ sym c.has_turn.ensures ∙ c.if-not-has_turn.false in
    Grows-grown _ starts _ from _ _ _ goal c.requires.weights_in c.requires.one_cap (omega arith) less turn c.if-sizes-child.false h
