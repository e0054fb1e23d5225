-- Held keys are decided on one answer after the other: what is left leads to what deciding on all of them gives.
use Rattle.std.proofs.Common.{◌≡◌, ℕ, zero, suc, ◌<◌, ◌≤◌, Bool, true, false, List, [], drop, length, is_some, if◌then◌else◌, refl, ap, subst, sym, ◌∙◌, arith}
use Rattle.std.specs.Prelude.{Option, None, Some}
use Rattle.key_names.specs.declared.key.KeyPress.{KeyPress}
use Rattle.key_proc.specs.declared.bindings.Save.{Save}
use Rattle.key_proc.specs.declared.held.Fired.{Fired}
use Rattle.key_proc.specs.declared.held.Fired.TheVariants.{Fire, Dropped, Wait, Nothing}
use Rattle.key_proc.specs.declared.bindings.Binding.{Binding}
use Rattle.key_proc.specs.declared.facts.Fact.{Fact}
use Rattle.key_proc.specs.Firing.{fires}
use Rattle.key_proc.proofs.Flushing.{nothing-held}
use Rattle.edit_cmds.specs.EmacsTable.{emacs_table}
use Rattle.edit_state.specs.CommandNumbers.{command_of}
use Rattle.session_core.specs.Typing.{Typing, did, drained, drained_times, edited_by, ended_by, facts_of, fired, went, without}
use Rattle.edit_state.specs.Searches.{HasOrigin}
use Rattle.session_core.specs.Outcomes.{IsShortOutcome}
use Rattle.session_core.proofs.FactLemmas.{fires_same}

-- some number of answers, as many as keys are held or more, leads from here to the whole
pub record Leads (flush : Bool) (start now : Typing) : Type 0 where
  pub times : ℕ
  pub enough : length now.held ≤ times
  pub leads : drained_times times flush now ≡ drained flush start

pub leads_from : (flush : Bool) (t : Typing) → Leads flush t t
unfolding drained
leads_from flush t = record { times = length t.held; enough = omega arith; leads = refl }

-- where the prompt goes on, one answer more leads on
round : (flush : Bool) (n : ℕ) (now : Typing) → now.outcome ≡ None
    → drained_times (suc n) flush now ≡ went (fired flush now) now (λ next. drained_times n flush next)
round flush n now none = ap (λ o. if is_some o then now else went (fired flush now) now (λ next. drained_times n flush next)) none

pub leads_on : (flush : Bool) (start now next : Typing) → Leads flush start now → now.outcome ≡ None → length next.held < length now.held
    → ((rest : Typing → Typing) → went (fired flush now) now rest ≡ rest next) → Leads flush start next
leads_on flush start now next l none fewer goes = by l.times l.enough l.leads
  where
    by : (n : ℕ) → length now.held ≤ n → drained_times n flush now ≡ drained flush start → Leads flush start next
    by zero few leads = absurd (omega (arith, few, fewer))
    by (suc n) few leads = record {
      times = n;
      enough = omega (arith, few, fewer);
      leads = sym (round flush n now none ∙ goes (λ t. drained_times n flush t)) ∙ leads;
    }

-- a binding fires
pub leads_fire : (flush : Bool) (start now next : Typing) (command : ℕ) (save : Save) (last : KeyPress) (used : ℕ) → Leads flush start now
    → now.outcome ≡ None → length next.held < length now.held → fired flush now ≡ Fire command save last used
    → next ≡ did command save last (without (Fire command save last used) now) → Leads flush start next
leads_fire flush start now next command save last used l none fewer is done =
    leads_on flush start now next l none fewer (λ rest. ap (λ f. went f now rest) is ∙ ap rest (sym done))

-- a key is dropped
pub leads_drop : (flush : Bool) (start now next : Typing) (press : KeyPress) → Leads flush start now → now.outcome ≡ None
    → length next.held < length now.held → fired flush now ≡ Dropped press → next ≡ without (Dropped press) now → Leads flush start next
leads_drop flush start now next press l none fewer is done =
    leads_on flush start now next l none fewer (λ rest. ap (λ f. went f now rest) is ∙ ap rest (sym done))

-- an answer that takes no key is the last
stays : (flush : Bool) (start now : Typing) → Leads flush start now → now.outcome ≡ None
    → ((rest : Typing → Typing) → went (fired flush now) now rest ≡ now) → now ≡ drained flush start
stays flush start now l none still = by l.times l.leads
  where
    by : (n : ℕ) → drained_times n flush now ≡ drained flush start → now ≡ drained flush start
    by zero leads = leads
    by (suc n) leads = sym (round flush n now none ∙ still (λ t. drained_times n flush t)) ∙ leads

pub leads_wait : (flush : Bool) (start now : Typing) → Leads flush start now → now.outcome ≡ None → fired flush now ≡ Wait
    → now ≡ drained flush start
leads_wait flush start now l none is = stays flush start now l none (λ rest. ap (λ f. went f now rest) is)

pub leads_nothing : (flush : Bool) (start now : Typing) → Leads flush start now → now.outcome ≡ None → fired flush now ≡ Nothing
    → now ≡ drained flush start
leads_nothing flush start now l none is = stays flush start now l none (λ rest. ap (λ f. went f now rest) is)

-- and so is the end of the prompt
pub leads_ended : (flush : Bool) (start now : Typing) → Leads flush start now → is_some now.outcome ≡ true → now ≡ drained flush start
leads_ended flush start now l ended = by l.times l.leads
  where
    by : (n : ℕ) → drained_times n flush now ≡ drained flush start → now ≡ drained flush start
    by zero leads = leads
    by (suc n) leads =
        sym (ap (λ b. if b then now else went (fired flush now) now (λ next. drained_times n flush next)) ended) ∙ leads

-- what a command makes of what keys change
pub did_is : (number : ℕ) (save : Save) (key : KeyPress) (used : ℕ) (now next : Typing) → next.edit ≡ edited_by (command_of number) save number key now.edit
    → next.held ≡ drop used now.held → next.outcome ≡ ended_by (command_of number) save number key now.edit
    → next ≡ did number save key (without (Fire number save key used) now)
unfolding did
did_is number save key used now next edit held outcome = λ i. record { edit = edit i; held = held i; outcome = outcome i }

-- the answer to the held keys, by facts that are told one by one
pub fired_is : (flush : Bool) (now : Typing) (table : List Binding) (facts : Fact → Bool) (answer : Fired) → table ≡ emacs_table
    → ((fact : Fact) → facts fact ≡ facts_of now.edit fact) → answer ≡ fires table facts now.held flush → fired flush now ≡ answer
fired_is flush now table facts answer is same answers =
    sym (answers ∙ ap (λ t. fires t facts now.held flush) is ∙ fires_same emacs_table facts (facts_of now.edit) now.held flush same)

-- nothing is decided of no keys alone
pub nothing_held : (flush : Bool) (now : Typing) → fired flush now ≡ Nothing → now.held ≡ []
nothing_held flush now is = nothing-held emacs_table (facts_of now.edit) now.held flush is

-- ---- what holds between two answers

-- what is left leads to the whole; once the prompt has ended, another key can be held
pub record Drains (flush : Bool) (start now : Typing) : Type 0 where
  pub leads : Leads flush start now
  pub few : length now.held ≤ 3
  pub room : is_some now.outcome ≡ true → length now.held < 3
  pub origin : HasOrigin now.edit
  pub short : IsShortOutcome now.outcome

pub drains_fire : (flush : Bool) (start now next : Typing) (number : ℕ) (save : Save) (key : KeyPress) (used : ℕ) → Drains flush start now → now.outcome ≡ None
    → fired flush now ≡ Fire number save key used → length next.held < length now.held → next.edit ≡ edited_by (command_of number) save number key now.edit
    → next.held ≡ drop used now.held → next.outcome ≡ ended_by (command_of number) save number key now.edit → HasOrigin next.edit → IsShortOutcome next.outcome
    → Drains flush start next
drains_fire flush start now next number save key used d none is fewer edit held outcome origin short = record {
  leads = leads_fire flush start now next number save key used d.leads none fewer is (did_is number save key used now next edit held outcome);
  few = omega (arith, fewer, d.few);
  room = λ ended. omega (arith, fewer, d.few);
  origin = origin;
  short = short;
}

pub drains_drop : (flush : Bool) (start now next : Typing) (press : KeyPress) → Drains flush start now → now.outcome ≡ None → fired flush now ≡ Dropped press
    → length next.held < length now.held → next.edit ≡ now.edit → next.held ≡ drop 1 now.held → next.outcome ≡ now.outcome → Drains flush start next
drains_drop flush start now next press d none is fewer edit held outcome = record {
  leads = leads_drop flush start now next press d.leads none fewer is (λ i. record { edit = edit i; held = held i; outcome = outcome i });
  few = omega (arith, fewer, d.few);
  room = λ ended. omega (arith, fewer, d.few);
  origin = subst HasOrigin (sym edit) d.origin;
  short = subst IsShortOutcome (sym outcome) d.short;
}
