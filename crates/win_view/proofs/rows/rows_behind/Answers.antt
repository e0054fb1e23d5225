use Rattle.std.proofs.Common.{◌≡◌, ℕ, ◌+◌, ◌-◌, ◌∙◌, length, min, sym, ap, arith, add-one}
use Rattle.std.specs.Int.{div_ceil}
use Rattle.win_view.proofs.NarrowCounts.{length-rows_of-narrow}
use Rattle.win_view.proofs.rows.rows_behind.Goals as goal

pub returns-clause-rows : goal.returns-clause-rows
returns-clause-rows c = λ rest narrow long.
    let more : c.saturating_sub.result ≡ length rest - (c.args.width - min (length c.args.cells.now) c.args.width) = omega (arith, long) in
    ap (λ (n : ℕ). n + 1) (c.div_ceil.ensures ∙ ap (λ (n : ℕ). div_ceil n c.args.width) more) ∙ add-one _
    ∙ sym (length-rows_of-narrow c.args.width c.args.cells.now rest c.requires.width c.requires.whole c.requires.fits narrow)
