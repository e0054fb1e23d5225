use Rattle.std.proofs.Common.{◌≡◌, ◌+◌, ◌∙◌, ap, refl, inl, inr, arith}
use Rattle.requests.specs.Batching.{batch_count}
use Rattle.requests.proofs.CuttingLemmas.{few}
use Rattle.job_desk.specs.Posts.{after_dead, asked_more}
use Rattle.job_desk.proofs.WorkerLemmas.{answers_more, asked_next, given_next, last_whole, more_left, passes_next, passes_none, sends_none, some_batch}
use Rattle.job_desk.proofs.workers.answer.Goals as goal

pub returns-then-not-may_make-clause-answered : goal.returns-then-not-may_make-clause-answered
returns-then-not-may_make-clause-answered g c =
    let same : c.request.inside.id ≡ c.args.request.id = ap (λ r. r.id) c.request.view_is in
    record {
      count = 0;
      passed = 0;
      sent = sends_none c.args.mail.now;
      gate = c.if-not-may_make.ensures.gate ∙ passes_none (g.G.Gate.passed c.args.gate.now);
      ended = inr (inl (some_batch c.args.request, refl, rw same at c.if-not-may_make.ensures.post, refl));
    }

pub returns-in-Err-clause-answered : goal.returns-in-Err-clause-answered
returns-in-Err-clause-answered g c =
    let same : c.request.inside.id ≡ c.args.request.id = ap (λ r. r.id) c.request.view_is in
    let gate = g.G.Gate.passed c.args.gate.now in
    record {
      count = 0;
      passed = 1;
      sent = sends_none c.args.mail.now;
      gate = passes_next gate gate (g.G.Gate.passed c.may_make.new.gate) c.args.request 0 (passes_none gate) (rw same at c.if-not-may_make.ensures.gate);
      ended = inr (inr (some_batch c.args.request, refl, c.if-not-may_make.ensures.post, refl));
    }

pub returns-then-last-clause-answered : goal.returns-then-last-clause-answered
returns-then-last-clause-answered g c =
    let r = c.args.request in
    let n = c.loop-number.number in
    let h = c.loop-number.invariant in
    let letter = rw (h.request, h.given) at c.in-Ok-send_next.ensures.sent in
    let last = rw (h.request, h.given) at c.in-Ok-send_next.ensures.last in
    record {
      count = n + 1;
      passed = n + 1;
      sent = answers_more c.args.mail.now c.loop-number.mail c.send_next.new.mail r n h.sent letter;
      gate = h.gate;
      ended = inl (last_whole r n c.in-Ok-send_next.last last c.if-last.true, refl, h.post, refl);
    }

pub returns-then-not-may_make-2-clause-answered : goal.returns-then-not-may_make-2-clause-answered
returns-then-not-may_make-2-clause-answered g c =
    let same : c.request.inside.id ≡ c.args.request.id = ap (λ r. r.id) c.request.view_is in
    let r = c.args.request in
    let n = c.loop-number.number in
    let h = c.loop-number.invariant in
    let letter = rw (h.request, h.given) at c.in-Ok-send_next.ensures.sent in
    let last = rw (h.request, h.given) at c.in-Ok-send_next.ensures.last in
    record {
      count = n + 1;
      passed = n + 1;
      sent = answers_more c.args.mail.now c.loop-number.mail c.send_next.new.mail r n h.sent letter;
      gate = c.if-not-may_make-2.ensures.gate ∙ h.gate;
      ended = inr (inl (
        more_left r n c.in-Ok-send_next.last last c.if-last.false h.within,
        refl,
        (rw same at c.if-not-may_make-2.ensures.post) ∙ ap (λ s. after_dead (asked_more s 1) r.id) h.post ∙ ap (λ s. after_dead s r.id) (asked_next (g.P.Post.seen c.args.post.now) (n + 1)),
        refl,
      ));
    }

pub loop-number-preserved : goal.loop-number-preserved
loop-number-preserved g c =
    let same : c.request.inside.id ≡ c.args.request.id = ap (λ r. r.id) c.request.view_is in
    let r = c.args.request in
    let n = c.loop-number.number in
    let h = c.loop-number.invariant in
    let letter = rw (h.request, h.given) at c.in-Ok-send_next.ensures.sent in
    let last = rw (h.request, h.given) at c.in-Ok-send_next.ensures.last in
    record {
      post = c.if-not-may_make-2.ensures.post ∙ ap (λ s. asked_more s 1) h.post ∙ asked_next (g.P.Post.seen c.args.post.now) (n + 1);
      gate = passes_next (g.G.Gate.passed c.args.gate.now) (g.G.Gate.passed c.loop-number.gate) (g.G.Gate.passed c.may_make-in-loop-number.new.gate) r (n + 1) h.gate (rw same at c.if-not-may_make-2.ensures.gate);
      sent = answers_more c.args.mail.now c.loop-number.mail c.send_next.new.mail r n h.sent letter;
      request = ap (λ a. a.request) c.in-Ok-send_next.ensures.answer ∙ h.request;
      given = ap (λ a. a.given) c.in-Ok-send_next.ensures.answer
          ∙ given_next r n c.loop-number.answer.given (batch_count c.loop-number.answer.request) h.given (ap batch_count h.request) h.within;
      within = more_left r n c.in-Ok-send_next.last last c.if-last.false h.within;
      is_open = c.in-Ok-send_next.ensures.open;
    }

pub unreachable-requires : goal.unreachable-requires
unreachable-requires g c = omega (arith, few c.args.request, c.loop-number.invariant.within, c.loop-number-test.false)
