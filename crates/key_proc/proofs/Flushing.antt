-- A flush takes a key at each decision.
use Rattle.std.proofs.Common.{◌≡◌, ℕ, ◌≤◌, Bool, true, false, not, ◌&&◌, List, [], ◌∷◌, length, take, drop, Option, Some, None, refl, subst, arith, unwrap_or}
use Prim.Native.Nat.{zero, suc}
use Rattle.std.specs.List.{filter, list_any}
use Rattle.std.specs.Option.{IfSome, option_map, option_or}
use Rattle.std.proofs.lemmas.List.{length-drop}
use Rattle.key_names.specs.declared.key.KeyPress.{KeyPress}
use Rattle.key_proc.specs.declared.facts.Fact.{Fact}
use Rattle.key_proc.specs.declared.bindings.Binding.{Binding}
use Rattle.key_proc.specs.declared.held.Fired.{Fired}
use Rattle.key_proc.specs.declared.held.Fired.TheVariants.{Fire, Dropped, Wait, Nothing}
use Rattle.key_proc.specs.Firing.{keys_of, active, chosen, matching, eager_matching, longer, fire_on, fired_on_longest, waiting, answer, fires, fires_among, taken}
use Rattle.key_proc.specs.Laws.{held_after}

-- an answer that waits only where that is allowed, and else takes a key
abbrev pub IsTaking : Bool → Fired → Type 0
IsTaking may_wait (Fire command save last used) = 1 ≤ used
IsTaking may_wait (Dropped press) = Unit {0}
IsTaking may_wait Wait = may_wait ≡ true
IsTaking may_wait Nothing = ⊥

firing : (may_wait : Bool) (first : KeyPress) (more : List KeyPress) (n : ℕ) (o : Option Binding) → 1 ≤ n → IfSome (option_map (fire_on first more n) o) (IsTaking may_wait)
firing may_wait first more n None some = tt
firing may_wait first more n (Some b) some = some

either : (P : Fired → Type 0) (o p : Option Fired) → IfSome o P → IfSome p P → IfSome (option_or o p) P
either P None p here there = there
either P (Some x) p here there = here

or_else : (P : Fired → Type 0) (o : Option Fired) (d : Fired) → IfSome o P → P d → P (unwrap_or o d)
or_else P None d here there = there
or_else P (Some x) d here there = here

on_longest : (may_wait : Bool) (first : KeyPress) (more : List KeyPress) (bs : List Binding) (n : ℕ) → IfSome (fired_on_longest first more bs n) (IsTaking may_wait)
on_longest may_wait first more bs zero = tt
on_longest may_wait first more bs (suc n) =
    either (IsTaking may_wait) (option_map (fire_on first more (suc n)) (chosen (filter (matching (take (suc n) (keys_of (first ∷ more)))) bs))) (fired_on_longest first more bs n)
    (firing may_wait first more (suc n) (chosen (filter (matching (take (suc n) (keys_of (first ∷ more)))) bs)) (omega arith))
    (on_longest may_wait first more bs n)

waits : (flush t : Bool) → IfSome (waiting (not flush && t)) (IsTaking (not flush))
waits true t = tt
waits false true = refl
waits false false = tt

-- whatever waiting shows of the held keys
pub takes-by : (may_wait : Bool) (bs : List Binding) (first : KeyPress) (more : List KeyPress) (flush : Bool) →
    IfSome (waiting (not flush && list_any (longer (keys_of (first ∷ more))) bs)) (IsTaking may_wait) → IsTaking may_wait (fires_among bs (first ∷ more) flush)
takes-by may_wait bs first more flush awaited =
    let P : Fired → Type 0 = IsTaking may_wait in
    let n : ℕ = length (first ∷ more) in
    let eager : Option Fired = option_map (fire_on first more n) (chosen (filter (eager_matching (keys_of (first ∷ more))) bs)) in
    let wait : Option Fired = waiting (not flush && list_any (longer (keys_of (first ∷ more))) bs) in
    or_else P (answer bs first more flush) (Dropped first)
    (either P eager (option_or wait (fired_on_longest first more bs n))
    (firing may_wait first more n (chosen (filter (eager_matching (keys_of (first ∷ more))) bs)) (omega arith))
    (either P wait (fired_on_longest first more bs n) awaited (on_longest may_wait first more bs n)))
    tt

pub takes : (bs : List Binding) (first : KeyPress) (more : List KeyPress) (flush : Bool) → IsTaking (not flush) (fires_among bs (first ∷ more) flush)
takes bs first more flush = takes-by (not flush) bs first more flush (waits flush (list_any (longer (keys_of (first ∷ more))) bs))

no_wait : (bs : List Binding) (held : List KeyPress) → fires_among bs held true ≡ Wait → ⊥
no_wait bs [] e = absurd cc
no_wait bs (first ∷ more) e = let taking : false ≡ true = subst (IsTaking false) e (takes bs first more true) in absurd cc

pub never-waits : (table : List Binding) (facts : Fact → Bool) (held : List KeyPress) → fires table facts held true ≡ Wait → ⊥
never-waits table facts held e = no_wait (active table facts) held e

none_held : (bs : List Binding) (held : List KeyPress) (flush : Bool) → fires_among bs held flush ≡ Nothing → held ≡ []
none_held bs [] flush e = refl
none_held bs (first ∷ more) flush e = absurd (subst (IsTaking (not flush)) e (takes bs first more flush))

pub nothing-held : (table : List Binding) (facts : Fact → Bool) (held : List KeyPress) (flush : Bool) → fires table facts held flush ≡ Nothing → held ≡ []
nothing-held table facts held flush e = none_held (active table facts) held flush e

takes_some : (f : Fired) → IsTaking false f → 1 ≤ taken f
takes_some (Fire command save last used) is = is
takes_some (Dropped press) is = omega arith
takes_some Wait is = absurd cc
takes_some Nothing is = absurd is

shorter : (n : ℕ) (first : KeyPress) (more : List KeyPress) (m : ℕ) → 1 ≤ n → length (first ∷ more) ≤ suc m → length (drop n (first ∷ more)) ≤ m
shorter n first more m some few = rw (length-drop n (first ∷ more)) (omega arith)

none_left : (held : List KeyPress) → length held ≤ 0 → held ≡ []
none_left [] few = refl
none_left (press ∷ held) few = absurd (omega arith)

left : (table : List Binding) (facts : Fact → Bool) (held : List KeyPress) (m : ℕ) → length held ≤ suc m → length (drop (taken (fires table facts held true)) held) ≤ m
left table facts [] m few = omega arith
left table facts (first ∷ more) m few =
    shorter (taken (fires table facts (first ∷ more) true)) first more m (takes_some (fires table facts (first ∷ more) true) (takes (active table facts) first more true)) few

pub flush-ends : (table : List Binding) (rounds : List (Fact → Bool)) (held : List KeyPress) → length held ≤ length rounds → held_after table rounds held ≡ []
flush-ends table [] held few = none_left held few
flush-ends table (facts ∷ rounds) held few =
    flush-ends table rounds (drop (taken (fires table facts held true)) held) (left table facts held (length rounds) few)
