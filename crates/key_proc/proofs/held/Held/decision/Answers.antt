use Rattle.std.proofs.Common.{◌≡◌, length, take, sym, ap, ◌∙◌}
use Rattle.std.proofs.lemmas.List.{length-map}
use Rattle.key_proc.specs.Facts.{has}
use Rattle.key_proc.specs.Firing.{active, keys_of}
use Rattle.key_proc.specs.Decisions.{decided}
use Rattle.key_proc.proofs.held.Held.decision.Goals as goal

pub returns-clause-decided : goal.returns-clause-decided
returns-clause-decided g c =
    let bindings = active c.args.table.now (has c.args.facts.now) in
    let same : take c.len-count.result c.keys-keys.result ≡ keys_of c.args.self.now =
    ap (λ n. take n c.keys-keys.result) c.len-count.ensures.count ∙ c.keys-keys.ensures in
    let size : length (take c.len-count.result c.keys-keys.result) ≡ c.len-count.result =
    ap length same ∙ length-map c.args.self.now (λ press. press.key) ∙ sym c.len-count.ensures.count in
    c.decide.ensures.decided bindings _ c.find-found.ensures.found size ∙ ap (λ keys. decided bindings keys c.args.flush) same
