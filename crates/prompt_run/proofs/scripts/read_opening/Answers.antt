-- The lines that are left do what all lines do.
use Rattle.std.proofs.Common.{◌≡◌, Bool, true, false, length, None, if◌then◌else◌, subst, arith, rules}
use Rattle.std.proofs.lemmas.Bool.Decides.{nat_tests}
use Rattle.prompt_run.specs.Given.{nothing_given}
use Rattle.script_lines.specs.Lines.{script_lines}
use Rattle.script_lines.specs.ScriptLine.{script_line}
use Rattle.prompt_run.specs.Play.{Played}
use Rattle.prompt_run.specs.Playing.{SetsLine}
use Rattle.prompt_run.specs.Script.{configured}
use Rattle.prompt_run.proofs.ScriptLemmas.{last_setting, next_setting, no_setting, nothing_left}
use Rattle.prompt_run.proofs.scripts.read_opening.Goals as goal

pub returns-then-not-branch-clause-configured : goal.returns-then-not-branch-clause-configured
returns-then-not-branch-clause-configured c =
    let start : Played = configured c.args.long (script_lines c.args.script.now) nothing_given 1 in
    let refused : c.in_ok-set_line.field-0 ≡ false = search rules in
    let P : Bool → Type 0 = λ b. SetsLine b c.loop-alloc.opening (if c.is_past-past.result then None else script_line c.cut_line.result.0.now) c.set_line.new.opening in
    last_setting start c.args.long c.is_past-past.result c.loop-alloc.rest.now c.cut_line.result.0.now c.cut_line.result.1.now c.loop-alloc.opening c.set_line.new.opening
    c.loop-alloc.number c.loop-alloc.invariant.so_far c.cut_line.ensures.line c.is_past-past.ensures (subst P refused c.in_ok-set_line.ensures.sets)

pub loop-alloc-preserved : goal.loop-alloc-preserved
loop-alloc-preserved c =
    let start : Played = configured c.args.long (script_lines c.args.script.now) nothing_given 1 in
    let sets : c.in_ok-set_line.field-0 ≡ true = search rules in
    let P : Bool → Type 0 = λ b. SetsLine b c.loop-alloc.opening (if c.is_past-past.result then None else script_line c.cut_line.result.0.now) c.set_line.new.opening in
    record {
      numbered = omega (arith, c.loop-alloc.invariant.numbered, c.cut_line.ensures.shorter);
      so_far = next_setting start c.args.long c.is_past-past.result c.loop-alloc.rest.now c.cut_line.result.0.now c.cut_line.result.1.now c.loop-alloc.opening
          c.set_line.new.opening c.loop-alloc.number c.loop-alloc.invariant.so_far c.cut_line.ensures.line c.is_past-past.ensures (subst P sets c.in_ok-set_line.ensures.sets);
    }

pub returns-clause-configured : goal.returns-clause-configured
returns-clause-configured c =
    let start : Played = configured c.args.long (script_lines c.args.script.now) nothing_given 1 in
    let none : length c.loop-alloc.rest.now ≡ 0 = grind (arith, nat_tests) in
    no_setting start c.args.long c.loop-alloc.rest.now c.loop-alloc.opening c.loop-alloc.number c.loop-alloc.invariant.so_far (nothing_left c.loop-alloc.rest.now none)
