use Rattle.std.proofs.Common.{length, ap, ◌∙◌, arith}
use Rattle.text_rows.proofs.LineCuts.{last-cut}
use Rattle.text_rows.proofs.PlacesWithin.{place_within}
use Rattle.text_rows.proofs.places.place_of.Goals as goal

pub loop-rest-preserved : goal.loop-rest-preserved
loop-rest-preserved c =
    let cut = c.in-Some.ensures.lines in
    record {
      count = omega (arith, c.loop-rest.invariant.count, ap length cut);
      last = last-cut c.loop-rest.left.now _ c.in-Some.rest.now cut ∙ c.loop-rest.invariant.last;
      few = omega (arith, c.loop-rest.invariant.few, c.in-Some.ensures.shorter);
    }

pub returns-in_err-cell-clause-line_within : goal.returns-in_err-cell-clause-line_within
returns-in_err-cell-clause-line_within c = (place_within c.args.drawn.now c.args.at c.requires.drawn).line

pub returns-in_err-cell-clause-cell_within : goal.returns-in_err-cell-clause-cell_within
returns-in_err-cell-clause-cell_within c = (place_within c.args.drawn.now c.args.at c.requires.drawn).cell

pub returns-clause-line_within : goal.returns-clause-line_within
returns-clause-line_within c = (place_within c.args.drawn.now c.args.at c.requires.drawn).line

pub returns-clause-cell_within : goal.returns-clause-cell_within
returns-clause-cell_within c = (place_within c.args.drawn.now c.args.at c.requires.drawn).cell
