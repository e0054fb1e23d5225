-- The lines that are left, from the play so far, do what all lines do.
use Rattle.std.proofs.Common.{◌≡◌, ◌∙◌, Bool, true, false, length, None, if◌then◌else◌, subst, arith, rules}
use Rattle.std.proofs.lemmas.Bool.Decides.{nat_tests}
use Rattle.script_lines.specs.Lines.{script_lines}
use Rattle.script_lines.specs.ScriptLine.{script_line}
use Rattle.prompt_run.specs.Play.{played}
use Rattle.prompt_run.specs.Playing.{PlaysLine}
use Rattle.prompt_run.proofs.ScriptLemmas.{last_line, next_line, nothing_left, refused_line}
use Rattle.prompt_run.proofs.scripts.play_lines.Goals as goal

pub returns-then-not-branch-clause-plays : goal.returns-then-not-branch-clause-plays
returns-then-not-branch-clause-plays c = λ p holds.
    let run = c.loop-rest.invariant.so_far p holds in
    let refused : c.in_ok-play_line.field-0 ≡ false = search rules in
    let P : Bool → Type 0 = λ b. PlaysLine b run.0 (if c.is_past-past.result then None else script_line c.cut_line.result.0.now) c.play_line.new.player in
    refused_line (played c.args.long (script_lines c.args.lines.now) p c.args.first) c.loop-rest.rest.now c.cut_line.result.0.now c.cut_line.result.1.now c.args.long
    c.is_past-past.result run.0 c.loop-rest.number c.play_line.new.player run.2 c.cut_line.ensures.line c.is_past-past.ensures
    (subst P refused (c.in_ok-play_line.ensures.plays run.0 run.1))

pub loop-rest-preserved : goal.loop-rest-preserved
loop-rest-preserved c = record {
  numbered = omega (arith, c.loop-rest.invariant.numbered, c.cut_line.ensures.shorter);
  so_far = λ p holds.
      let run = c.loop-rest.invariant.so_far p holds in
      let fits : c.in_ok-play_line.field-0 ≡ true = search rules in
      let P : Bool → Type 0 = λ b. PlaysLine b run.0 (if c.is_past-past.result then None else script_line c.cut_line.result.0.now) c.play_line.new.player in
      next_line (played c.args.long (script_lines c.args.lines.now) p c.args.first) c.loop-rest.rest.now c.cut_line.result.0.now c.cut_line.result.1.now c.args.long
      c.is_past-past.result run.0 c.loop-rest.number c.play_line.new.player run.2 c.cut_line.ensures.line c.is_past-past.ensures
      (subst P fits (c.in_ok-play_line.ensures.plays run.0 run.1));
  frames = c.in_ok-play_line.ensures.frames ∙ c.loop-rest.invariant.frames;
}

pub returns-clause-plays : goal.returns-clause-plays
returns-clause-plays c = λ p holds.
    let run = c.loop-rest.invariant.so_far p holds in
    let none : length c.loop-rest.rest.now ≡ 0 = grind (arith, nat_tests) in
    last_line (played c.args.long (script_lines c.args.lines.now) p c.args.first) c.loop-rest.rest.now c.args.long run.0 c.loop-rest.number c.loop-rest.player run.1 run.2
    (nothing_left c.loop-rest.rest.now none)
