use Rattle.std.proofs.Common.{◌≡◌, ◌+◌, ◌∙◌, ◌++◌, List, ap, arith, drop, sym, ℕ}
use Rattle.std.specs.Prelude.{flat_map}
use Rattle.text_rows.specs.Flows.{char_columns}
use Rattle.text_rows.proofs.FlowLemmas.{counted_both, left_at}
use Rattle.text_rows.proofs.flows.Flow.put_spelled.Goals as goal

pub loop-c-preserved : goal.loop-c-preserved
loop-c-preserved c =
    let chars = c.args.chars.now in
    let at = c.loop-c.c-index in
    let rest = flat_map char_columns (drop (at + 1) chars) in
    let next = left_at chars at c.c-item.result c.c-item.result c.loop-c-test.true c.c-item.is in
    let parts : flat_map char_columns (drop at chars) ≡ c.char_columns.result.now ++ rest =
    ap (flat_map char_columns) next ∙ ap (λ (l : List ℕ). l ++ rest) (sym c.char_columns.ensures.columns) in (
      counted_both c.args.width c.loop-c.self.rows c.loop-c.self.room c.args.self.now.rows c.args.self.now.room (flat_map char_columns (drop at chars)) (flat_map char_columns chars) c.char_columns.result.now rest c.put_all.new.self.rows c.put_all.new.self.room
          parts c.loop-c.invariant.0 c.put_all.ensures.rows c.put_all.ensures.room,
      omega (arith, c.put_all.ensures.few, c.char_columns.ensures.few, c.loop-c.invariant.1),
    )
