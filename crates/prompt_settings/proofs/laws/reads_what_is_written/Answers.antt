use Rattle.prompt_settings.proofs.SizeLemmas.{is_size}
use Rattle.prompt_settings.proofs.laws.reads_what_is_written.Goals as goal

pub returns-clause-spelled : goal.returns-clause-spelled
returns-clause-spelled c = λ separator text size read. (is_size separator text size read).0

pub returns-clause-within : goal.returns-clause-within
returns-clause-within c = λ separator text size read. (is_size separator text size read).1
