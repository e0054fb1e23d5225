use Rattle.std.proofs.Common.{rules, arith}
use Rattle.prompt_view.proofs.Counts.{few_cells_of}
use Rattle.prompt_view.proofs.lines.message_cells.Goals as goal

pub returns-clause-few : goal.returns-clause-few
returns-clause-few c =
    let few = few_cells_of c.args.scene.now.looks.prompt c.args.scene.now.looks.control c.push_chars.new.self c.args.scene.now.message (search rules) in
    omega (arith, few, c.requires.short_message)
