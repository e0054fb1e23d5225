use Rattle.std.proofs.Common.{◌≡◌, ◌+◌, ◌-◌, ◌≤◌, ◌<◌, suc, length, arith, sym, ap, ◌∙◌, ℕ}
use Rattle.cell_grid.specs.Row.{put_at}
use Rattle.term_model.specs.Obeying.{wiped}
use Rattle.term_model.proofs.EraseLemmas.{erased_so_far, erased_so_far-more, erased_so_far-all, length-erased_so_far}
use Rattle.term_model.proofs.lines.erase_from.Goals as goal

pub put-requires-clause-fits : goal.put-requires-clause-fits
put-requires-clause-fits c =
    let row = c.args.row.now in
    let count = c.loop-place.place - c.args.at in
    let within : c.args.at + count ≤ length row = omega (arith, c.len-place-end.ensures) in
    rw c.wiped.ensures (omega (arith, c.len-place-end.ensures, ap length c.loop-place.invariant, length-erased_so_far row c.args.at count c.args.pen within))

pub loop-place-preserved : goal.loop-place-preserved
loop-place-preserved c =
    let row = c.args.row.now in
    let at = c.args.at in
    let pen = c.args.pen in
    let place = c.loop-place.place in
    let count = place - at in
    let within : at + count < length row = omega (arith, c.len-place-end.ensures) in
    let here : place ≡ at + count = omega arith in
    let next : place + 1 - at ≡ suc count = omega arith in
    c.put.ensures
    ∙ ap (put_at c.loop-place.row place) c.wiped.ensures
    ∙ ap (λ cells. put_at cells place (wiped pen)) c.loop-place.invariant
    ∙ ap (λ (k : ℕ). put_at (erased_so_far row at count pen) k (wiped pen)) here
    ∙ erased_so_far-more row at count pen c.requires.whole within
    ∙ ap (λ (k : ℕ). erased_so_far row at k pen) (sym next)

pub returns : goal.returns
returns c =
    let row = c.args.row.now in
    let at = c.args.at in
    let pen = c.args.pen in
    let all : c.loop-place.place - at ≡ length row - at = omega (arith, c.len-place-end.ensures) in
    c.loop-place.invariant ∙ ap (λ (k : ℕ). erased_so_far row at k pen) all ∙ erased_so_far-all row at pen c.requires.whole c.requires.within
