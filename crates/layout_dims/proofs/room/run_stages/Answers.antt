use Rattle.std.proofs.Common.{◌≡◌, refl, rules}
use Rattle.layout_dims.specs.Division.{goal_of}
use Rattle.layout_dims.proofs.Parts.{stage_at, can_grow_at, none_taken, second_can_grow, stages_done, stages_on}
use Rattle.layout_dims.proofs.room.run_stages.Goals as goal

pub run_stage-requires-then-not-done-clause-can_grow :
    goal.run_stage-requires-then-not-done-clause-can_grow
run_stage-requires-then-not-done-clause-can_grow c =
    let first_goal : c.min-goal.result ≡ goal_of c.args.room c.args.preferred.now = search rules in
    let last_goal : c.min-goal-then-not-done.result ≡ goal_of c.args.room c.args.maxima.now = search rules in
    can_grow_at _ _ _ _ _ last_goal
    (second_can_grow c.args.weights.now c.args.sizes.now c.args.preferred.now c.args.maxima.now c.args.room _ _ c.requires.one_maximum c.requires.ordered c.requires.room_in
    (stage_at _ _ _ _ _ _ _ _ _ (none_taken c.args.weights.now) first_goal c.run_stage.ensures.stage))

pub returns-then-not-done : goal.returns-then-not-done
returns-then-not-done c =
    let first_goal : c.min-goal.result ≡ goal_of c.args.room c.args.preferred.now = search rules in
    let last_goal : c.min-goal-then-not-done.result ≡ goal_of c.args.room c.args.maxima.now = search rules in
    stages_on _ _ _ _ _ _ _ _ _ _ c.if-not-done.true
    (stage_at _ _ _ _ _ _ _ _ _ (none_taken c.args.weights.now) first_goal c.run_stage.ensures.stage)
    (stage_at _ _ _ _ _ _ _ _ _ refl last_goal c.run_stage-then-not-done.ensures.stage)

pub returns-else-not-done : goal.returns-else-not-done
returns-else-not-done c =
    let first_goal : c.min-goal.result ≡ goal_of c.args.room c.args.preferred.now = search rules in
    stages_done _ _ _ _ _ _ _ _ c.if-not-done.false
    (stage_at _ _ _ _ _ _ _ _ _ (none_taken c.args.weights.now) first_goal c.run_stage.ensures.stage)
