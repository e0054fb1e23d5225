use Rattle.std.proofs.Common.{true, sym, ap, ◌∙◌}
use Rattle.vt_input.specs.Held.{fed_by}
use Rattle.vt_input.specs.Inputs.{Parsing}
use Rattle.vt_input.proofs.InputLemmas.{flushed-is}
use Rattle.vt_input.proofs.parser.Parser.decide_all.Goals as goal

pub returns-clause-rest : goal.returns-clause-rest
returns-clause-rest g c =
    c.in_ok-keys.ensures.rest
    ∙ ap (λ (q : Parsing). record { rows = q.rows; bytes = q.bytes; held = (fed_by q.rows true q.held.paste q.held.text).held }) c.in_ok-finish_character.ensures
    ∙ flushed-is c.args.self.now (sym c.if-is_in_paste.ensures)
