use Rattle.std.proofs.Common.{◌≡◌, ◌∷◌, List, ℕ, drop, sym, ap, subst, ◌∙◌}
use Rattle.term_model.specs.Term.{Term, IsTerminal}
use Rattle.term_model.specs.Fields.{term_of}
use Rattle.term_model.specs.Controls.{Control, between, controls_from}
use Rattle.term_model.specs.Meaning.{meant}
use Rattle.term_model.specs.Obeying.{acted, obeyed_bytes}
use Rattle.term_model.proofs.KeepLemmas.{act-keeps}
use Rattle.term_model.proofs.state.State.obey.Goals as goal

pub loop-control-preserved : goal.loop-control-preserved
loop-control-preserved c =
    let t = term_of c.loop-control.self in
    let done = c.in_ok-act.ensures.ok in (
      subst IsTerminal (sym done) (act-keeps t (meant c.in-Some.control) c.loop-control.invariant.0),
      ap (λ (bytes : List ℕ). obeyed_bytes (term_of c.act.new.self) bytes) c.split_at.ensures.back
          ∙ ap (λ (s : Term). obeyed_bytes s (drop c.in-Some.size c.loop-control.rest.now)) done
          ∙ ap (acted t) (sym c.in-Some.ensures.reads)
          ∙ c.loop-control.invariant.1,
    )

pub returns-clause-obeyed : goal.returns-clause-obeyed
returns-clause-obeyed c = ap (acted (term_of c.loop-control.self)) (sym c.in_default.ensures.reads) ∙ c.loop-control.invariant.1
