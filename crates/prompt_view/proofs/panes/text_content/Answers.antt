use Rattle.std.proofs.Common.{rules, refl}
use Rattle.prompt_view.proofs.Counts.{one_line_content}
use Rattle.prompt_view.proofs.panes.text_content.Goals as goal

pub returns-clause-is : goal.returns-clause-is
returns-clause-is c =
    one_line_content c.args.attrs c.args.control c.args.text.now (record { lines = c.push.new.self; line = 0; cell = 0; wrap = c.args.wrap }) c.requires (search rules) refl refl
