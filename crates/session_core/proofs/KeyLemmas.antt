-- Keys that are run one after another.
use Rattle.std.proofs.Common.{◌≡◌, Bool, true, false, List, [], ◌∷◌, ◌++◌, drop, slice_get, is_some, if◌then◌else◌, refl, ap, sym, ◌∙◌}
use Rattle.std.specs.Prelude.{Option, None, Some}
use Rattle.key_names.specs.declared.key.KeyPress.{KeyPress}
use Rattle.std.proofs.lemmas.Option.{none-some}
use Rattle.session_core.specs.Keys.{kept_behind, ran_key, ran_keys}
use Rattle.session_core.specs.State.{State}

-- the first of some keys, and those behind it
pub first_taken : (keys : List KeyPress) (key : KeyPress) → slice_get keys 0 ≡ Some key → key ∷ drop 1 keys ≡ keys
first_taken [] key is = absurd (none-some key is)
first_taken (first ∷ keys) key is = let same : key ≡ first = cc in ap (λ k. k ∷ keys) same

-- where there is no first, there is none
pub none_taken : (keys : List KeyPress) → slice_get keys 0 ≡ None → keys ≡ []
none_taken [] is = refl
none_taken (first ∷ keys) is = absurd (none-some first (sym is))

-- a key behind which the prompt goes on
pub ran_on : (s t : State) (key : KeyPress) (keys : List KeyPress) → t ≡ ran_key s key → t.outcome ≡ None → ran_keys t keys ≡ ran_keys s (key ∷ keys)
ran_on s t key keys made none =
    let on : is_some (ran_key s key).outcome ≡ false = ap (λ (u : State). is_some u.outcome) (sym made) ∙ ap is_some none in
    ap (λ u. ran_keys u keys) made ∙ sym (ap (λ b. if b then kept_behind (ran_key s key) keys else ran_keys (ran_key s key) keys) on)

-- a key that ends the prompt
pub ran_last : (s t : State) (key : KeyPress) (keys : List KeyPress) → t ≡ ran_key s key → is_some t.outcome ≡ true
    → kept_behind t keys ≡ ran_keys s (key ∷ keys)
ran_last s t key keys made ended =
    let over : is_some (ran_key s key).outcome ≡ true = ap (λ (u : State). is_some u.outcome) (sym made) ∙ ended in
    ap (λ u. kept_behind u keys) made ∙ sym (ap (λ b. if b then kept_behind (ran_key s key) keys else ran_keys (ran_key s key) keys) over)
