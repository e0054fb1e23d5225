use Rattle.std.proofs.Common.{ap, ◌∙◌, Some, arith}
use Rattle.term_model.proofs.LineLemmas.{lead-within, length-spread}
use Rattle.term_model.proofs.lines.join_to.Goals as goal

pub put-requires-clause-fits : goal.put-requires-clause-fits
put-requires-clause-fits c =
    let row = c.args.row.now in
    let found = c.in-Lead in
    let stands = c.cell.ensures ∙ ap Some found.is in
    let lead = rw stands at c.requires.lead in
    omega (arith, lead-within row c.args.at found.text found.width found.attrs c.requires.whole stands, length-spread found.text found.width found.attrs lead)
