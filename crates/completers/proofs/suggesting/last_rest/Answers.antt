use Rattle.std.proofs.Common.{◌∙◌}
use Rattle.std.specs.Option.{option_copied}
use Rattle.text_doc.specs.Lines.{lines_of}
use Rattle.completers.proofs.SuggestingLemmas.{latest, latest_more, latest_all, rest_of_newest-one}
use Rattle.completers.proofs.suggesting.last_rest.Goals as goal

pub loop-old-preserved : goal.loop-old-preserved
loop-old-preserved c =
    let line = c.args.line.now in
    latest_more line c.loop-old.left.now c.in-Some.old.now c.in-Some.rest.now (option_copied c.loop-old.found) (option_copied c.newer_rest-found.result) (latest line (lines_of c.args.entry.now))
    c.in-Some.ensures.lines c.newer_rest-found.ensures c.loop-old.invariant

pub returns : goal.returns
returns c =
    let line = c.args.line.now in
    latest_all line c.loop-old.left.now (option_copied c.loop-old.found) (option_copied c.newer_rest.result) (latest line (lines_of c.args.entry.now))
    c.in_default.ensures.lines c.newer_rest.ensures c.loop-old.invariant
    ∙ rest_of_newest-one c.args.entry.now line
