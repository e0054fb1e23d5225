-- What an answer leaves of the held keys.
use Rattle.std.proofs.Common.{◌≡◌, ◌≢◌, ℕ, ◌<◌, ◌≤◌, Bool, true, false, cond, not, ◌&&◌, ◌||◌, List, [], ◌∷◌, length, drop, refl, sym, ap, subst, ◌∙◌, arith, ⊎_elim, nat_lt, nat_le}
use Rattle.std.specs.List.{filter, list_any, list_all}
use Rattle.std.specs.Option.{IfSome}
use Rattle.std.proofs.lemmas.List.{length-drop, length-map}
use Rattle.std.proofs.lemmas.Bool.{cases_Bool, and_parts, ltb-true, leb-true}
use Rattle.key_names.specs.declared.key.Key.{Key}
use Rattle.key_names.specs.declared.key.KeyPress.{KeyPress}
use Rattle.key_proc.specs.declared.facts.Fact.{Fact}
use Rattle.key_proc.specs.declared.bindings.Binding.{Binding}
use Rattle.key_proc.specs.declared.held.Fired.{Fired}
use Rattle.key_proc.specs.declared.held.Fired.TheVariants.{Fire, Dropped, Wait, Nothing}
use Rattle.key_proc.specs.Filters.{holds}
use Rattle.key_proc.specs.Sizes.{has_size, AllSized}
use Rattle.key_proc.specs.Firing.{keys_of, active, longer, waiting, fires, fires_among, taken}
use Rattle.key_proc.proofs.Flushing.{IsTaking, takes, takes-by}

takes_one : (may_wait : Bool) (f : Fired) → IsTaking may_wait f → f ≢ Wait → 1 ≤ taken f
takes_one may_wait (Fire command save last used) is other = is
takes_one may_wait (Dropped press) is other = omega arith
takes_one may_wait Wait is other = absurd (other refl)
takes_one may_wait Nothing is other = absurd is

less : (n : ℕ) (first : KeyPress) (more : List KeyPress) → 1 ≤ n → length (drop n (first ∷ more)) < length (first ∷ more)
less n first more some = omega (arith, length-drop n (first ∷ more))

-- an answer that neither waits nor finds no key takes one at least
pub lowers : (table : List Binding) (facts : Fact → Bool) (held : List KeyPress) (flush : Bool) → fires table facts held flush ≢ Wait → fires table facts held flush ≢ Nothing →
    length (drop (taken (fires table facts held flush)) held) < length held
lowers table facts [] flush not_wait not_nothing = absurd (not_nothing refl)
lowers table facts (first ∷ more) flush not_wait not_nothing =
    less (taken (fires table facts (first ∷ more) flush)) first more
    (takes_one (not flush) (fires table facts (first ∷ more) flush) (takes (active table facts) first more flush) not_wait)

waits_self : (t : Bool) → IfSome (waiting t) (IsTaking t)
waits_self true = refl
waits_self false = tt

-- where keys wait, some active binding has more
awaits : (bs : List Binding) (held : List KeyPress) (flush : Bool) → fires_among bs held flush ≡ Wait → list_any (longer (keys_of held)) bs ≡ true
awaits bs [] flush e = absurd cc
awaits bs (first ∷ more) flush e =
    let any : Bool = list_any (longer (keys_of (first ∷ more))) bs in
    let both : (not flush && any) ≡ true = subst (IsTaking (not flush && any)) e (takes-by (not flush && any) bs first more flush (waits_self (not flush && any))) in
    (and_parts (not flush) any both).1

few_of : (keys : List Key) (b : Binding) → longer keys b ≡ true → has_size b ≡ true → length keys < 3
few_of keys b more sized =
    let above = ltb-true (length keys) (length b.keys) (and_parts (nat_lt (length keys) (length b.keys)) _ more).0 in
    let below = leb-true (length b.keys) 3 (and_parts (nat_le 1 (length b.keys)) (nat_le (length b.keys) 3) sized).1 in
    omega arith

few_or : (keys : List Key) (b : Binding) (rest : List Binding) → has_size b ≡ true → (list_any (longer keys) rest ≡ true → length keys < 3) →
    (longer keys b || list_any (longer keys) rest) ≡ true → length keys < 3
few_or keys b rest sized below e = ⊎_elim
    (λ (here : longer keys b ≡ true). few_of keys b here sized)
    (λ (not_here : longer keys b ≡ false). below (sym (ap (λ t. t || list_any (longer keys) rest) not_here) ∙ e))
    (cases_Bool (longer keys b))

few_by : (t : Bool) (keys : List Key) (b : Binding) (rest : List Binding) → has_size b ≡ true → (list_any (longer keys) rest ≡ true → length keys < 3) →
    list_any (longer keys) (cond t (b ∷ rest) rest) ≡ true → length keys < 3
few_by true keys b rest sized below e = few_or keys b rest sized below e
few_by false keys b rest sized below e = below e

few_among : (facts : Fact → Bool) (keys : List Key) (table : List Binding) → list_all has_size table ≡ true → list_any (longer keys) (active table facts) ≡ true → length keys < 3
few_among facts keys [] sized e = absurd cc
few_among facts keys (b ∷ table) sized e =
    let parts : (has_size b ≡ true) × (list_all has_size table ≡ true) = and_parts (has_size b) (list_all has_size table) sized in
    few_by (holds facts b.filter) keys b (active table facts) parts.0 (few_among facts keys table parts.1) e

-- keys that wait are fewer than three
pub few-wait : (table : List Binding) (facts : Fact → Bool) (held : List KeyPress) (flush : Bool) → AllSized table → fires table facts held flush ≡ Wait → length held < 3
few-wait table facts held flush sized e =
    let few = few_among facts (keys_of held) table sized (awaits (active table facts) held flush e) in
    omega (arith, few, length-map held (λ press. press.key))
