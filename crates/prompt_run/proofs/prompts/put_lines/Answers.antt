-- What a put that failed took of the lines is a part of them.
use Rattle.std.proofs.Common.{◌≡◌, inl, flat_map, refl, rules}
use Rattle.prompt_run.specs.Runs.{line_row}
use Rattle.prompt_run.proofs.CourseLemmas.{front_put}
use Rattle.prompt_run.proofs.prompts.put_lines.Goals as goal

pub returns-clause-puts : goal.returns-clause-puts
returns-clause-puts g c =
    let put = c.in-Err.ensures.bytes in
    let same : c.as_slice.result.now ≡ flat_map line_row c.args.lines.now = search rules in
    (inl refl, front_put (g.O.Sink.taken c.args.out.now) (g.O.Sink.taken c.put.new.self) c.as_slice.result.now (flat_map line_row c.args.lines.now) put.0 same put.1 put.2)
