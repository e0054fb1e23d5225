-- The walk back stops at the last line that has a match.
use Rattle.std.proofs.Common.{◌≡◌, ◌+◌, ◌-◌, ◌==◌, if◌then◌else◌, length, sym, ap, arith, ◌∙◌, length-append}
use Rattle.edit_buffer.specs.BufferState.{line_of}
use Rattle.edit_state.specs.Searches.{last_in}
use Rattle.edit_state.proofs.Looking.{found_back, none_back}
use Rattle.edit_state.proofs.spots.match_back.Goals as goal

pub returns-in-Some-clause-found : goal.returns-in-Some-clause-found
returns-in-Some-clause-found c =
    let needle = c.args.needle.now in
    let spot = c.args.spot in
    let line = c.loop-line.line - 1 in
    let text = line_of c.args.buffer.now line in
    let size : length c.parts_of.result.0.now + length c.parts_of.result.1.now ≡ length text =
    sym (length-append c.parts_of.result.0.now c.parts_of.result.1.now) ∙ ap length c.parts_of.ensures.parts in
    let to : c.end_in-to.result ≡ (if line == spot.line then spot.at else length text + 1) =
    c.end_in-to.ensures ∙ ap (λ n. if line == spot.line then spot.at else n + 1) size in
    let here = c.in-Some.ensures.found ∙ ap (λ t. last_in needle t c.end_in-to.result) c.parts_of.ensures.parts ∙ ap (last_in needle text) to in
    found_back needle c.args.buffer.now spot line c.in-Some.at here (omega arith) (λ k lo hi. c.loop-line.invariant k (omega arith) hi)

pub returns-clause-found : goal.returns-clause-found
returns-clause-found c =
    none_back c.args.needle.now c.args.buffer.now c.args.spot (λ k hi. c.loop-line.invariant k (omega arith) hi)
