-- Where an entry could not be appended, a part of its bytes may have been.
use Rattle.std.proofs.Common.{◌≡◌, rules}
use Rattle.std.proofs.lemmas.Result.{err_from_is_err_and}
use Rattle.prompt_run.proofs.CourseLemmas.{front_put}
use Rattle.prompt_run.specs.Play.{new_entry}
use Rattle.prompt_run.proofs.runners.keep_entry.Goals as goal

pub returns-in_err-append-clause-part : goal.returns-in_err-append-clause-part
returns-in_err-append-clause-part g c =
    let p = err_from_is_err_and c.from_residual-in_err-append.result c.from_residual-in_err-append.ensures.1 in
    let put = c.in_err-append.ensures.bytes in
    let same : c.as_slice.result.now ≡ new_entry c.args.session.now = search rules in
    rw p.1 (front_put (g.K.Keeper.kept c.args.keeper.now) (g.K.Keeper.kept c.append.new.self) c.as_slice.result.now (new_entry c.args.session.now) put.0 same put.1 put.2)
