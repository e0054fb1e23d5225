-- Facts that are equal one by one decide alike.
use Rattle.std.proofs.Common.{◌≡◌, Bool, List, ap}
use Rattle.key_names.specs.declared.key.KeyPress.{KeyPress}
use Rattle.key_proc.specs.declared.bindings.Binding.{Binding}
use Rattle.key_proc.specs.declared.facts.Fact.{Fact}
use Rattle.key_proc.specs.Firing.{fires}

pub fires_same : (table : List Binding) (f g : Fact → Bool) (held : List KeyPress) (flush : Bool) → ((fact : Fact) → f fact ≡ g fact)
    → fires table f held flush ≡ fires table g held flush
fires_same table f g held flush same = ap (λ facts. fires table facts held flush) (λ i. λ fact. same fact i)
