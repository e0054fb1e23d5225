-- An answer is what the decision becomes.
use Rattle.std.proofs.Common.{◌≡◌, ℕ, ◌≤◌, arith, Bool, true, false, not, ◌&&◌, List, [], ◌∷◌, length, take, Option, Some, None, refl, sym, ap, ◌∙◌, unwrap_or}
use Prim.Native.Nat.{zero, suc}
use Rattle.std.specs.List.{filter, list_any}
use Rattle.std.specs.Option.{option_map, option_or}
use Rattle.std.proofs.lemmas.List.{length-map}
use Rattle.key_names.specs.declared.key.Key.{Key}
use Rattle.key_names.specs.declared.key.KeyPress.{KeyPress}
use Rattle.key_proc.specs.declared.facts.Fact.{Fact}
use Rattle.key_proc.specs.declared.bindings.Binding.{Binding}
use Rattle.key_proc.specs.declared.decisions.Decision.{Decision}
use Rattle.key_proc.specs.declared.decisions.Decision.TheVariants as decision
use Rattle.key_proc.specs.declared.held.Fired.{Fired}
use Rattle.key_proc.specs.Firing.{keys_of, chosen, matching, eager_matching, longer, fire_on, fired_on_longest, waiting, fires_among, active, fires}
use Rattle.key_proc.specs.Choices.{choice_of}
use Rattle.key_proc.specs.Decisions.{fire, awaited, decided, decided_on_longest, answer_of}

fired_of : (first : KeyPress) (more : List KeyPress) (n : ℕ) (o : Option Binding) →
    option_map (fire_on first more n) o ≡ option_map (answer_of first more) (option_map (fire n) (option_map choice_of o))
fired_of first more n None = refl
fired_of first more n (Some binding) = refl

waiting_of : (first : KeyPress) (more : List KeyPress) (t : Bool) → waiting t ≡ option_map (answer_of first more) (awaited t)
waiting_of first more true = refl
waiting_of first more false = refl

map_or : (f : Decision → Fired) (o p : Option Decision) → option_map f (option_or o p) ≡ option_or (option_map f o) (option_map f p)
map_or f None p = refl
map_or f (Some x) p = refl

map_unwrap : (f : Decision → Fired) (o : Option Decision) (d : Decision) → f (unwrap_or o d) ≡ unwrap_or (option_map f o) (f d)
map_unwrap f None d = refl
map_unwrap f (Some x) d = refl

longest_of : (first : KeyPress) (more : List KeyPress) (bindings : List Binding) (n : ℕ) →
    fired_on_longest first more bindings n ≡ option_map (answer_of first more) (decided_on_longest (keys_of (first ∷ more)) bindings n)
longest_of first more bindings zero = refl
longest_of first more bindings (suc n) =
    let here : Option Binding = chosen (filter (matching (take (suc n) (keys_of (first ∷ more)))) bindings) in
    let best : Option Decision = option_map (fire (suc n)) (option_map choice_of here) in
    ap (λ o. option_or o (fired_on_longest first more bindings n)) (fired_of first more (suc n) here)
    ∙ ap (λ o. option_or (option_map (answer_of first more) best) o) (longest_of first more bindings n)
    ∙ sym (map_or (answer_of first more) best (decided_on_longest (keys_of (first ∷ more)) bindings n))

-- what the held presses do is the answer of the decision on their keys
pub fires_among-is : (bindings : List Binding) (first : KeyPress) (more : List KeyPress) (flush : Bool) →
    fires_among bindings (first ∷ more) flush ≡ answer_of first more (decided bindings (keys_of (first ∷ more)) flush)
fires_among-is bindings first more flush =
    let keys : List Key = keys_of (first ∷ more) in
    let n : ℕ = length keys in
    let to : Decision → Fired = answer_of first more in
    let eager : Option Binding = chosen (filter (eager_matching keys) bindings) in
    let eager_decision : Option Decision = option_map (fire n) (option_map choice_of eager) in
    let waits : Bool = not flush && list_any (longer keys) bindings in
    let front : Option Decision = decided_on_longest keys bindings n in
    let size : length (first ∷ more) ≡ n = sym (length-map (first ∷ more) (λ press. press.key)) in
    let whole : fires_among bindings (first ∷ more) flush
    ≡ unwrap_or (option_or (option_map (fire_on first more n) eager) (option_or (waiting waits) (fired_on_longest first more bindings n))) (to decision.Drop) =
    ap (λ k. unwrap_or (option_or (option_map (fire_on first more k) eager) (option_or (waiting waits) (fired_on_longest first more bindings k))) (to decision.Drop)) size
    in
    whole
    ∙ ap (λ o. unwrap_or (option_or o (option_or (waiting waits) (fired_on_longest first more bindings n))) (to decision.Drop)) (fired_of first more n eager)
    ∙ ap (λ o. unwrap_or (option_or (option_map to eager_decision) (option_or o (fired_on_longest first more bindings n))) (to decision.Drop)) (waiting_of first more waits)
    ∙ ap (λ o. unwrap_or (option_or (option_map to eager_decision) (option_or (option_map to (awaited waits)) o)) (to decision.Drop)) (longest_of first more bindings n)
    ∙ ap (λ o. unwrap_or (option_or (option_map to eager_decision) o) (to decision.Drop)) (sym (map_or to (awaited waits) front))
    ∙ ap (λ o. unwrap_or o (to decision.Drop)) (sym (map_or to eager_decision (option_or (awaited waits) front)))
    ∙ sym (map_unwrap to (option_or eager_decision (option_or (awaited waits) front)) decision.Drop)

-- what a decision on the keys of what is held does is the answer
pub answered : (table : List Binding) (facts : Fact → Bool) (held : List KeyPress) (flush : Bool) (d : Decision) (result : Fired) →
    d ≡ decided (active table facts) (keys_of held) flush → 1 ≤ length held →
    ((first : KeyPress) (more : List KeyPress) → held ≡ first ∷ more → result ≡ answer_of first more d) → result ≡ fires table facts held flush
answered table facts [] flush d result is some answers = absurd (omega arith)
answered table facts (first ∷ more) flush d result is some answers =
    answers first more refl ∙ ap (answer_of first more) is ∙ sym (fires_among-is (active table facts) first more flush)
