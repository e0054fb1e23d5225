-- Each answer leads on to the whole, and the last one is the whole.
use Rattle.std.proofs.Common.{◌≡◌, ◌∙◌, ◌<◌, ◌≤◌, [], length, None, Some, ap, arith, drop, is_some, refl, rules, subst, sym, true, ⊎_elim}
use Rattle.key_proc.specs.Facts.{has}
use Rattle.key_proc.specs.Firing.{taken}
use Rattle.key_proc.specs.declared.held.Fired.{Fired}
use Rattle.key_proc.specs.declared.held.Fired.TheVariants.{Fire, Dropped, Wait, Nothing}
use Rattle.session_core.specs.Typing.{Typing, drained, fired}
use Rattle.session_core.proofs.DrainLemmas.{drains_drop, drains_fire, fired_is, leads_from, leads_nothing, leads_wait, nothing_held}
use Rattle.edit_state.specs.Searches.{HasOrigin}
use Rattle.session_core.specs.Outcomes.{IsShortOutcome}
use Rattle.session_core.proofs.commands.drain.Goals as goal
use Rattle.session_core.proofs.commands.drain.Goals.{in-Fire+in_ok-outcome-in-Fire, in-Dropped}

pub loop-alloc-init : goal.loop-alloc-init
loop-alloc-init c = record {
  leads = leads_from c.args.flush (record { edit = c.args.edit.now; held = c.args.held.now; outcome = c.args.outcome.now });
  few = c.requires.few;
  room = λ ended. search rules;
  origin = c.requires.origin;
  short = search rules;
}

pub returns-in-Wait-clause-drained : goal.returns-in-Wait-clause-drained
returns-in-Wait-clause-drained c =
    let start : Typing = record { edit = c.args.edit.now; held = c.args.held.now; outcome = c.args.outcome.now } in
    let now : Typing = record { edit = c.loop-alloc.edit; held = c.loop-alloc.held; outcome = c.loop-alloc.outcome } in
    let none : now.outcome ≡ None = search rules in
    let is : fired c.args.flush now ≡ c.decide.result =
    fired_is c.args.flush now c.args.bindings.now (has c.facts_of-facts.result) c.decide.result c.requires.table c.facts_of-facts.ensures c.decide.ensures.answer in
    let rest : (f : Fired) → c.decide.result ≡ f → taken f ≡ 0 → c.decide.new.self ≡ now.held = λ f answer none_taken.
    c.decide.ensures.rest ∙ ap (λ g. drop (taken g) now.held) answer ∙ ap (λ n. drop n now.held) none_taken in
    ⊎_elim
    (λ (wait : c.decide.result ≡ Wait).
    ap (λ held. record now { held = held }) (rest Wait wait refl)
    ∙ leads_wait c.args.flush start now c.loop-alloc.invariant.leads none (is ∙ wait))
    (λ (nothing : c.decide.result ≡ Nothing).
    ap (λ held. record now { held = held }) (rest Nothing nothing refl)
    ∙ leads_nothing c.args.flush start now c.loop-alloc.invariant.leads none (is ∙ nothing))
    c.in-Wait.is

pub returns-in-Wait-clause-room : goal.returns-in-Wait-clause-room
returns-in-Wait-clause-room c =
    let now : Typing = record { edit = c.loop-alloc.edit; held = c.loop-alloc.held; outcome = c.loop-alloc.outcome } in
    let is : fired c.args.flush now ≡ c.decide.result =
    fired_is c.args.flush now c.args.bindings.now (has c.facts_of-facts.result) c.decide.result c.requires.table c.facts_of-facts.ensures c.decide.ensures.answer in
    ⊎_elim
    (λ (wait : c.decide.result ≡ Wait). c.decide.ensures.few wait)
    (λ (nothing : c.decide.result ≡ Nothing).
    let none : now.held ≡ [] = nothing_held c.args.flush now (is ∙ nothing) in
    let rest : c.decide.new.self ≡ [] =
    c.decide.ensures.rest ∙ ap (λ g. drop (taken g) now.held) nothing ∙ none in
    omega (arith, ap length rest))
    c.in-Wait.is

pub loop-alloc-preserved-after-decide-2 : goal.loop-alloc-preserved-after-decide-2
loop-alloc-preserved-after-decide-2 c =
    let start : Typing = record { edit = c.args.edit.now; held = c.args.held.now; outcome = c.args.outcome.now } in
    let now : Typing = record { edit = c.loop-alloc.edit; held = c.loop-alloc.held; outcome = c.loop-alloc.outcome } in
    let next : Typing = record { edit = c.match-decide.edit; held = c.decide.new.self; outcome = c.match-decide.outcome } in
    let none : now.outcome ≡ None = search rules in
    let is : fired c.args.flush now ≡ c.decide.result =
    fired_is c.args.flush now c.args.bindings.now (has c.facts_of-facts.result) c.decide.result c.requires.table c.facts_of-facts.ensures c.decide.ensures.answer in
    let rest : (f : Fired) → c.decide.result ≡ f → next.held ≡ drop (taken f) now.held = λ f answer.
    c.decide.ensures.rest ∙ ap (λ g. drop (taken g) now.held) answer in
    elim c.match-decide.branch [
      | in-Fire+in_ok-outcome-in-Fire w ↦
          let f = w.in-Fire in
          let fewer : length next.held < length now.held =
          c.decide.ensures.fewer (λ wait. let clash = sym f.is ∙ wait in absurd cc) (λ nothing. let clash = sym f.is ∙ nothing in absurd cc) in
          drains_fire c.args.flush start now next f.command f.save f.last f.used c.loop-alloc.invariant none (is ∙ f.is) fewer
          (w.edit-is ∙ w.in_ok-outcome-in-Fire.ensures.edited) (rest (Fire f.command f.save f.last f.used) f.is)
          (w.outcome-is ∙ w.in_ok-outcome-in-Fire.ensures.ended) (subst HasOrigin (sym w.edit-is) w.fire.ensures.origin)
          (subst IsShortOutcome (sym w.outcome-is) w.in_ok-outcome-in-Fire.ensures.short)
      | in-Dropped w ↦
          let f = w.in-Dropped in
          let fewer : length next.held < length now.held =
          c.decide.ensures.fewer (λ wait. let clash = sym f.is ∙ wait in absurd cc) (λ nothing. let clash = sym f.is ∙ nothing in absurd cc) in
          drains_drop c.args.flush start now next f.field-0 c.loop-alloc.invariant none (is ∙ f.is) fewer w.edit-is (rest (Dropped f.field-0) f.is) w.outcome-is
    ]

pub loop-alloc-preserved : goal.loop-alloc-preserved
loop-alloc-preserved c =
    let start : Typing = record { edit = c.args.edit.now; held = c.args.held.now; outcome = c.args.outcome.now } in
    let now : Typing = record { edit = c.loop-alloc.edit; held = c.loop-alloc.held; outcome = c.loop-alloc.outcome } in
    let next : Typing = record { edit = c.match-decide.edit; held = c.decide.new.self; outcome = c.match-decide.outcome } in
    let none : now.outcome ≡ None = search rules in
    let is : fired c.args.flush now ≡ c.decide.result =
    fired_is c.args.flush now c.args.bindings.now (has c.facts_of-facts.result) c.decide.result c.requires.table c.facts_of-facts.ensures c.decide.ensures.answer in
    let rest : (f : Fired) → c.decide.result ≡ f → next.held ≡ drop (taken f) now.held = λ f answer.
    c.decide.ensures.rest ∙ ap (λ g. drop (taken g) now.held) answer in
    elim c.match-decide.branch [
      | in-Fire+in_ok-outcome-in-Fire w ↦
          let f = w.in-Fire in
          let fewer : length next.held < length now.held =
          c.decide.ensures.fewer (λ wait. let clash = sym f.is ∙ wait in absurd cc) (λ nothing. let clash = sym f.is ∙ nothing in absurd cc) in
          drains_fire c.args.flush start now next f.command f.save f.last f.used c.loop-alloc.invariant none (is ∙ f.is) fewer
          (w.edit-is ∙ w.in_ok-outcome-in-Fire.ensures.edited) (rest (Fire f.command f.save f.last f.used) f.is)
          (w.outcome-is ∙ w.in_ok-outcome-in-Fire.ensures.ended) (subst HasOrigin (sym w.edit-is) w.fire.ensures.origin)
          (subst IsShortOutcome (sym w.outcome-is) w.in_ok-outcome-in-Fire.ensures.short)
      | in-Dropped w ↦
          let f = w.in-Dropped in
          let fewer : length next.held < length now.held =
          c.decide.ensures.fewer (λ wait. let clash = sym f.is ∙ wait in absurd cc) (λ nothing. let clash = sym f.is ∙ nothing in absurd cc) in
          drains_drop c.args.flush start now next f.field-0 c.loop-alloc.invariant none (is ∙ f.is) fewer w.edit-is (rest (Dropped f.field-0) f.is) w.outcome-is
    ]
