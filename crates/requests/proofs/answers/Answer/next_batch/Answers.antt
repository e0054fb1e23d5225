use Rattle.std.proofs.Common.{◌≡◌, length, ◌==◌, ap, sym, ◌∙◌, arith}
use Rattle.requests.proofs.CuttingLemmas.{popped, next_is_batch, few, none_left, none_numbered, given_all}
use Rattle.requests.proofs.answers.Answer.next_batch.Goals as goal

pub overflow_add-self : goal.overflow_add-self
overflow_add-self c =
    let request = c.self.inside.request.value in
    let next = popped request c.self.inside.given c.pop.new.self.items c.in-Some.items (sym c.in-Some.ensures.items ∙ c.self.invariant.1) in
    omega (arith, next.within, few request)

pub of-requires : goal.of-requires
of-requires c =
    let request = c.self.inside.request.value in
    let next = popped request c.self.inside.given c.pop.new.self.items c.in-Some.items (sym c.in-Some.ensures.items ∙ c.self.invariant.1) in
    next_is_batch request c.in_ok-request.request.value c.self.inside.given c.pop.new.self.items c.in-Some.items c.is_empty-last.result c.in_ok-request.ensures next (c.is_empty-last.ensures ∙ ap (λ n. n == 0) c.pop.new.self.ok.0)

pub invariant_of-self-2 : goal.invariant_of-self-2
invariant_of-self-2 c =
    let request = c.self.inside.request.value in
    let next = popped request c.self.inside.given c.pop.new.self.items c.in-Some.items (sym c.in-Some.ensures.items ∙ c.self.invariant.1) in
    (record { within = omega (arith, next.within) }, next.rest)

pub returns-in_default-clause-batch : goal.returns-in_default-clause-batch
returns-in_default-clause-batch c =
    let request = c.self.inside.request.value in
    let none : length c.self.inside.parts.items ≡ 0 = omega (arith, c.in_default.ensures.cases.0, c.self.inside.parts.ok.0) in
    rw (← c.self.view_is) (none_numbered request c.self.inside.given (none_left request c.self.inside.given c.self.inside.parts.items c.self.invariant.0.within c.self.invariant.1 none))

pub returns-in_default-clause-ok : goal.returns-in_default-clause-ok
returns-in_default-clause-ok c =
    let request = c.self.inside.request.value in
    let none : length c.self.inside.parts.items ≡ 0 = omega (arith, c.in_default.ensures.cases.0, c.self.inside.parts.ok.0) in
    rw (← c.self.view_is) (given_all request c.self.inside.given (none_left request c.self.inside.given c.self.inside.parts.items c.self.invariant.0.within c.self.invariant.1 none))
