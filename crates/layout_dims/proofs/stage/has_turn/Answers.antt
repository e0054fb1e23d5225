use Rattle.std.proofs.Common.{◌+◌, ◌*◌, ◌%◌, ltb, ◌||◌, ap, sym, ◌∙◌}
use Rattle.std.proofs.lemmas.Bool.{or_left, eq-eqb, ne_eqb}
use Rattle.layout_dims.proofs.Rounds.{takes_turn_by_rest}
use Rattle.layout_dims.proofs.stage.has_turn.Goals as goal

pub returns-then-past-eq0 : goal.returns-then-past-eq0
returns-then-past-eq0 c =
    let none = eq-eqb _ 0 c.if-past-eq0.true in
    none ∙ sym (takes_turn_by_rest c.args.greatest_weight c.args.weight c.args.rounds c.requires.positive c.requires.within ∙ or_left _ _ none)

pub returns-else-past-eq0 : goal.returns-else-past-eq0
returns-else-past-eq0 c =
    sym (takes_turn_by_rest c.args.greatest_weight c.args.weight c.args.rounds c.requires.positive c.requires.within
    ∙ ap (λ b. b || ltb c.args.greatest_weight (c.args.rounds * c.args.weight % c.args.greatest_weight + c.args.weight)) (ne_eqb _ 0 c.if-past-eq0.false))
