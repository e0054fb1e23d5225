use Rattle.std.proofs.Common.{◌≡◌, ◌||◌, take, sym, ap, ◌∙◌}
use Rattle.key_proc.specs.Firing.{matching, eager_matching, longer}
use Rattle.key_proc.proofs.Walk.{best-step, any-step}
use Rattle.key_proc.proofs.choices.Found.see.Goals as goal
use Rattle.key_proc.proofs.choices.Found.see.Goals.{then-self, else-self}

pub returns : goal.returns
returns c seen is =
    let keys = c.args.keys.now in
    let binding = c.args.binding.now in
    let either : c.if-self.self ≡ (c.args.self.now.longer || c.is_longer-longer.result) =
    elim c.if-self.branch [
      | then-self w ↦ w.self-is ∙ w.if-self.true ∙ sym (ap (λ v. v || c.is_longer-longer.result) w.if-self.true)
      | else-self w ↦ w.self-is ∙ sym (ap (λ v. v || c.is_longer-longer.result) w.if-self.false)
    ]
    in
    record {
      eager = best-step (eager_matching keys) seen binding _ _ _ _ c.better-self.ensures c.is_eager_match-eager.ensures c.choice_of-choice.ensures is.eager;
      longer = any-step (longer keys) seen binding _ _ _ either c.is_longer-longer.ensures is.longer;
      one = best-step (matching (take 1 keys)) seen binding _ _ _ _ c.better-self-2.ensures c.is_match-one.ensures c.choice_of-choice.ensures is.one;
      two = best-step (matching (take 2 keys)) seen binding _ _ _ _ c.better-self-3.ensures c.is_match-two.ensures c.choice_of-choice.ensures is.two;
      three = best-step (matching (take 3 keys)) seen binding _ _ _ _ c.better-self-4.ensures c.is_match-three.ensures c.choice_of-choice.ensures is.three;
    }
