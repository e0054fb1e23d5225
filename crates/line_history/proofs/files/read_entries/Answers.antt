use Rattle.std.proofs.Common.{◌≡◌, ℕ, List, IfOk, sym, ap, ◌∙◌, subst}
use Rattle.line_history.specs.History.{entries_of}
use Rattle.line_history.specs.Reading.{after_lines, ended}
use Rattle.line_history.proofs.ReadLines.{read_all}
use Rattle.line_history.proofs.files.read_entries.Goals as goal

pub returns : goal.returns
returns c =
    let bytes = c.args.bytes.now in
    let all : ended c.take_line-2.new.self ≡ entries_of bytes =
    ap ended c.in_ok-take_line-2.ensures
    ∙ sym (ap (λ lines. ended (after_lines c.loop-line.reader lines)) c.in_default.ensures.lines)
    ∙ c.loop-line.invariant ∙ read_all bytes in
    subst (λ (found : List (List ℕ)). IfOk c.finish.result (λ entries. entries ≡ found)) all c.finish.ensures
