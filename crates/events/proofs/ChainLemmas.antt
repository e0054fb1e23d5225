-- What a chain of calls did, one call longer or seen in another way.
use Rattle.std.proofs.Common.{◌≡◌, List, [], ◌∷◌, ◌++◌, refl, ap, ◌∙◌, subst}
use Rattle.causes.specs.Chain.{Chain}

-- one call more
pub chain_snoc : {S A : Type 0} (took : S → A → S → Type 0) (old : S) (things : List A) (mid : S) (thing : A) (new : S)
    → Chain took old things mid → took mid thing new → Chain took old (things ++ thing ∷ []) new
chain_snoc took old [] mid thing new chain step = (new, subst (λ s. took s thing new) chain step, refl)
chain_snoc took old (first ∷ things) mid thing new chain step =
    (chain.0, chain.1, chain_snoc took chain.0 things mid thing new chain.2 step)

-- the same calls, of what an object shows
pub chain_along : {S T A : Type 0} (took : S → A → S → Type 0) (does : T → A → T → Type 0) (shows : S → T)
    → ((old : S) (thing : A) (new : S) → took old thing new → does (shows old) thing (shows new))
    → (old : S) (things : List A) (new : S) → Chain took old things new → Chain does (shows old) things (shows new)
chain_along took does shows each old [] new chain = ap shows chain
chain_along took does shows each old (thing ∷ things) new chain =
    (shows chain.0, each old thing chain.0 chain.1, chain_along took does shows each chain.0 things new chain.2)

-- what each call keeps is kept by all
pub chain_keeps : {S T A : Type 0} (took : S → A → S → Type 0) (part : S → T)
    → ((old : S) (thing : A) (new : S) → took old thing new → part new ≡ part old)
    → (old : S) (things : List A) (new : S) → Chain took old things new → part new ≡ part old
chain_keeps took part each old [] new chain = ap part chain
chain_keeps took part each old (thing ∷ things) new chain =
    chain_keeps took part each chain.0 things new chain.2 ∙ each old thing chain.0 chain.1
