use Rattle.std.proofs.Common.{List, sym, subst}
use Rattle.vt_input.specs.declared.row.SeqRow.{SeqRow}
use Rattle.vt_input.specs.Near.{IsSameSearch}
use Rattle.vt_input.proofs.NearLemmas.{same-then, same-last}
use Rattle.vt_input.proofs.near.without_last.Goals as goal

pub loop-row-preserved : goal.loop-row-preserved
loop-row-preserved c =
    let x = c.args.text.now in
    let rest = c.in-Some.rest.now in
    same-then c.args.rows.now c.loop-row.near.now rest x c.loop-row.invariant
    (subst (λ (t : List SeqRow). IsSameSearch t rest x) (sym c.in-Some.ensures.cases.0) (same-last rest c.in-Some.row.now x c.if-is_unlike.ensures))
