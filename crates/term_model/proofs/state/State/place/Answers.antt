use Rattle.std.proofs.Common.{◌∷◌, [], arith}
use Rattle.term_model.specs.Fields.{term_of}
use Rattle.term_model.proofs.LineLemmas.{length-spread}
use Rattle.term_model.proofs.KeepLemmas.{row-line}
use Rattle.term_model.proofs.state.State.place.Goals as goal

pub put_in-requires-clause-fits : goal.put_in-requires-clause-fits
put_in-requires-clause-fits c =
    let t = c.args.self.now in
    omega (arith, length-spread (c.args.c ∷ []) c.args.width t.pen c.requires.width, (row-line (term_of t) c.requires.terminal).long, c.from.ensures)
