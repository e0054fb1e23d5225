use Rattle.std.proofs.Common.{Some, sym, ap, ◌∙◌}
use Rattle.std.specs.Str.{chars}
use Rattle.std.proofs.lemmas.Str.{chars_from_encodes}
use Rattle.key_names.proofs.Words.{name_of-injective}
use Rattle.key_names.proofs.laws.reads_what_is_written.Goals as goal

pub unreachable-requires : goal.unreachable-requires
unreachable-requires c =
    let same = chars_from_encodes c.as_slice.result.now c.deref.result.now c.deref.utf8 (c.in_ok-name.ensures ∙ sym c.deref.ensures) in
    let known = c.in-Err.ensures.known c.args.key (c.in_ok-text.ensures ∙ ap (λ t. Some t) (sym c.as_slice.ensures ∙ same)) in cc

pub returns : goal.returns
returns c =
    let same = chars_from_encodes c.as_slice.result.now c.deref.result.now c.deref.utf8 (c.in_ok-name.ensures ∙ sym c.deref.ensures) in
    name_of-injective c.in-Ok.read c.args.key (chars c.deref.result.now) c.in-Ok.ensures.named (c.in_ok-text.ensures ∙ ap (λ t. Some t) (sym c.as_slice.ensures ∙ same))
