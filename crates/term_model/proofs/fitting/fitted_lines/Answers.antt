use Rattle.std.proofs.Common.{◌≡◌, length, min, arith, ◌∙◌}
use Rattle.term_model.proofs.FitLemmas.{fitted_and_padded}
use Rattle.term_model.proofs.fitting.fitted_lines.Goals as goal

pub returns : goal.returns
returns c =
    let lines = c.args.lines.now in
    let few : c.min.result ≡ min c.args.count (length lines.items) = omega (arith, c.min.ensures, c.len.ensures, lines.ok.0) in
    c.in_ok-fit_count.ensures.ok ∙ fitted_and_padded lines.items c.in_ok-fitted.fitted.items c.args.count c.args.cols c.min.result few c.in_ok-fitted.ensures
