use Rattle.script_lines.proofs.SpellingLemmas.{unspelled-spelling}
use Rattle.script_lines.proofs.laws.spellings_read_back.Goals as goal

pub returns : goal.returns
returns c = unspelled-spelling
