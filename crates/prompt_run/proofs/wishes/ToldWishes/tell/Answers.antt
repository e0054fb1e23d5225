-- What jobs hold of each kind is what they were told of it last.
use Rattle.std.proofs.Common.{Some, refl, ap, subst}
use Rattle.std.specs.Prelude.{option_copied}
use Rattle.requests.specs.declared.requests.Kind.TheVariants.{Complete, Suggest, Check}
use Rattle.prompt_run.specs.Wishes.{IsHeld, number_of}
use Rattle.prompt_run.proofs.wishes.ToldWishes.tell.Goals as goal

pub returns-clause-holds : goal.returns-clause-holds
returns-clause-holds g c = λ held.
    let first = c.in_ok-self.ensures in
    let second = c.in_ok-self-2.ensures in
    let third = c.in_ok-self-3.ensures in
    let jobs = g.J.Jobs.wanted c.tell_kind-3.new.jobs in
    let complete = Some (number_of (option_copied c.wanted-complete.result)) in
    let suggest = Some (number_of (option_copied c.wanted-suggest.result)) in
    record {
      complete = subst (λ n. IsHeld (Some n) jobs Complete) (ap number_of c.wanted-complete.ensures.wanted)
          (third.others Complete complete refl (second.others Complete complete refl (first.held held.complete)));
      suggest = subst (λ n. IsHeld (Some n) jobs Suggest) (ap number_of c.wanted-suggest.ensures.wanted)
          (third.others Suggest suggest refl (second.held (first.others Suggest c.args.self.now.suggest refl held.suggest)));
      check = subst (λ n. IsHeld (Some n) jobs Check) (ap number_of c.wanted-check.ensures.wanted)
          (third.held (second.others Check c.args.self.now.check refl (first.others Check c.args.self.now.check refl held.check)));
    }
