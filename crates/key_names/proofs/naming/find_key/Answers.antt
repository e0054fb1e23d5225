use Rattle.std.proofs.Common.{sym, ap, ◌∙◌}
use Rattle.std.specs.Prelude.{Some}
use Rattle.std.proofs.lemmas.Option.{IfSome_then}
use Rattle.key_names.proofs.Words.{IfNone-weaker, unnamed, name_from_control, name_from_word}
use Rattle.key_names.proofs.naming.find_key.Goals as goal

pub returns-in-Some-control_letter-clause-found : goal.returns-in-Some-control_letter-clause-found
returns-in-Some-control_letter-clause-found c =
    name_from_control _ c.in-Some-control_letter.letter (c.in-Some-control_letter.ensures.found ∙ ap (λ t. Some t) c.as_bytes-bytes.ensures.value)

pub returns-in-None-clause-found : goal.returns-in-None-clause-found
returns-in-None-clause-found c =
    let bytes = c.as_bytes-bytes.ensures.value in
    IfSome_then c.find_word.result c.find_word.ensures.found (λ key named. name_from_word c.args.name.now key (named ∙ ap (λ t. Some t) bytes))

pub returns-in-None-clause-none : goal.returns-in-None-clause-none
returns-in-None-clause-none c =
    let bytes = c.as_bytes-bytes.ensures.value in
    IfNone-weaker c.find_word.result
    (λ other. unnamed c.args.name.now c.utf8.name c.in_default.ensures.none
    (λ letter named. c.in-None.ensures.none letter (named ∙ ap (λ t. Some t) (sym bytes)))
    (λ key named. other key (named ∙ ap (λ t. Some t) (sym bytes))))
    c.find_word.ensures.none
