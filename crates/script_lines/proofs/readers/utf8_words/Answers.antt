use Rattle.std.proofs.Common.{Some, sym, ap, ◌∙◌}
use Rattle.script_lines.proofs.Utf8Lemmas.{utf8_in-yes, utf8_in-no}
use Rattle.script_lines.proofs.readers.utf8_words.Goals as goal

pub returns-in-Ok : goal.returns-in-Ok
returns-in-Ok c =
    ap (λ bytes. Some bytes) c.in-Ok.ensures.cases.0 ∙ sym (utf8_in-yes c.args.bytes.now c.in-Ok.ensures.cases.1)

pub returns-in-Err : goal.returns-in-Err
returns-in-Err c = sym (utf8_in-no c.args.bytes.now c.in-Err.ensures.cases.0)
