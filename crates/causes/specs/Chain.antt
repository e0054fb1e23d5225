-- What a contract sees of a list of things that an object took in turn.
use Rattle.std.specs.Prelude.{◌≡◌, List, [], ◌∷◌}

-- from old the object came to new by taking each of the things in order, where `took` says what taking one does
abbrev pub Chain : {S A : Type 0} → (S → A → S → Type 0) → S → List A → S → Type 0
Chain took old [] new = new ≡ old
Chain {S} took old (thing ∷ things) new = (mid : S) × took old thing mid × Chain took mid things new
