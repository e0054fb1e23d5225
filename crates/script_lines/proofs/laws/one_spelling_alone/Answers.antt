use Rattle.script_lines.proofs.SpellingLemmas.{spells}
use Rattle.script_lines.proofs.laws.one_spelling_alone.Goals as goal

pub returns : goal.returns
returns c = λ text bytes read. (spells text bytes read).written
